-- The height of each kind of relation, by those of its parts.
use Rattle.std.proofs.Common.{◌≡◌, ◌∙◌, ℕ, ◌+◌, max, sym, ap}
use Rattle.spec_trees.specs.declared.link.LinkTree.{LinkTree}
use Rattle.spec_trees.specs.declared.link.LinkTree.TheFolds.{fold-roll-LinkTree}
use Rattle.spec_trees.specs.declared.link.LinkTree.TheOpen.{LinkTree-F}
use Rattle.spec_trees.specs.declared.link.LinkTree.TheVariants as r
use Rattle.spec_trees.specs.declared.link.LinkTree.TheVariants.{rolls-Field, rolls-Path, rolls-Paren, rolls-Binary}
use Rattle.token_reading.specs.declared.name.Ident.{Ident}
use Rattle.spec_trees.specs.declared.operator.LinkOp.{LinkOp}
use Rattle.spec_trees.specs.declared.operator.PathOp.{PathOp}
use Rattle.spec_trees.specs.Height.{link_layer_height, link_height}

pub link_field : (x : Ident) → link_height (r.Field x) ≡ 1
link_field x = ap link_height (sym (rolls-Field x)) ∙ fold-roll-LinkTree ℕ link_layer_height (LinkTree-F.Field x)

pub link_path : (at : ℕ) (p : PathOp) (a : LinkTree) → link_height (r.Path at p a) ≡ link_height a + 1
link_path at p a = ap link_height (sym (rolls-Path at p a)) ∙ fold-roll-LinkTree ℕ link_layer_height (LinkTree-F.Path at p a)

pub link_paren : (at : ℕ) (a : LinkTree) → link_height (r.Paren at a) ≡ link_height a + 1
link_paren at a = ap link_height (sym (rolls-Paren at a)) ∙ fold-roll-LinkTree ℕ link_layer_height (LinkTree-F.Paren at a)

pub link_binary : (p : LinkOp) (a : LinkTree) (b : LinkTree) → link_height (r.Binary p a b) ≡ max (link_height a) (link_height b) + 1
link_binary p a b = ap link_height (sym (rolls-Binary p a b)) ∙ fold-roll-LinkTree ℕ link_layer_height (LinkTree-F.Binary p a b)

pub ruleset heights = (
  link_field,
  link_path,
  link_paren,
  link_binary,
)
