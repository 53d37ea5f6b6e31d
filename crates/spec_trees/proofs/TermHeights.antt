-- The height of each kind of term, by those of its parts.
use Rattle.std.proofs.Common.{◌≡◌, ◌∙◌, ℕ, ◌+◌, max, List, Bool, map, sym, ap}
use Rattle.spec_trees.specs.declared.term.TermTree.{TermTree}
use Rattle.spec_trees.specs.declared.term.TermTree.TheFolds.{fold-roll-TermTree}
use Rattle.spec_trees.specs.declared.term.TermTree.TheOpen.{TermTree-F}
use Rattle.spec_trees.specs.declared.term.TermTree.TheVariants as t
use Rattle.spec_trees.specs.declared.term.TermTree.TheVariants.{rolls-Number, rolls-Bool, rolls-Null, rolls-This, rolls-Answer, rolls-Name, rolls-Call, rolls-Old, rolls-Paren, rolls-Image, rolls-Prefix, rolls-Binary, rolls-Quantified}
use Rattle.token_reading.specs.declared.name.Ident.{Ident}
use Rattle.token_reading.specs.Height.{highest}
use Rattle.spec_trees.specs.declared.contract.NumberTree.{NumberTree}
use Rattle.spec_trees.specs.declared.link.LinkTree.{LinkTree}
use Rattle.spec_trees.specs.declared.operator.PrefixOp.{PrefixOp}
use Rattle.spec_trees.specs.declared.operator.Quantifier.{Quantifier}
use Rattle.spec_trees.specs.declared.operator.TermOp.{TermOp}
use Rattle.spec_trees.specs.Height.{link_height, term_layer_height, term_height}

pub term_number : (x : NumberTree) → term_height (t.Number x) ≡ 1
term_number x = ap term_height (sym (rolls-Number x)) ∙ fold-roll-TermTree ℕ term_layer_height (TermTree-F.Number x)

pub term_bool : (at : ℕ) (b : Bool) → term_height (t.Bool at b) ≡ 1
term_bool at b = ap term_height (sym (rolls-Bool at b)) ∙ fold-roll-TermTree ℕ term_layer_height (TermTree-F.Bool at b)

pub term_null : (at : ℕ) → term_height (t.Null at) ≡ 1
term_null at = ap term_height (sym (rolls-Null at)) ∙ fold-roll-TermTree ℕ term_layer_height (TermTree-F.Null at)

pub term_this : (at : ℕ) → term_height (t.This at) ≡ 1
term_this at = ap term_height (sym (rolls-This at)) ∙ fold-roll-TermTree ℕ term_layer_height (TermTree-F.This at)

pub term_answer : (at : ℕ) → term_height (t.Answer at) ≡ 1
term_answer at = ap term_height (sym (rolls-Answer at)) ∙ fold-roll-TermTree ℕ term_layer_height (TermTree-F.Answer at)

pub term_name : (x : Ident) → term_height (t.Name x) ≡ 1
term_name x = ap term_height (sym (rolls-Name x)) ∙ fold-roll-TermTree ℕ term_layer_height (TermTree-F.Name x)

pub term_call : (x : Ident) (given : List TermTree) → term_height (t.Call x given) ≡ highest (map term_height given) + 1
term_call x given = ap term_height (sym (rolls-Call x given)) ∙ fold-roll-TermTree ℕ term_layer_height (TermTree-F.Call x given)

pub term_old : (at : ℕ) (a : TermTree) → term_height (t.Old at a) ≡ term_height a + 1
term_old at a = ap term_height (sym (rolls-Old at a)) ∙ fold-roll-TermTree ℕ term_layer_height (TermTree-F.Old at a)

pub term_paren : (at : ℕ) (a : TermTree) → term_height (t.Paren at a) ≡ term_height a + 1
term_paren at a = ap term_height (sym (rolls-Paren at a)) ∙ fold-roll-TermTree ℕ term_layer_height (TermTree-F.Paren at a)

pub term_image : (a : TermTree) (r : LinkTree) → term_height (t.Image a r) ≡ max (term_height a) (link_height r) + 1
term_image a r = ap term_height (sym (rolls-Image a r)) ∙ fold-roll-TermTree ℕ term_layer_height (TermTree-F.Image a r)

pub term_prefix : (at : ℕ) (p : PrefixOp) (a : TermTree) → term_height (t.Prefix at p a) ≡ term_height a + 1
term_prefix at p a = ap term_height (sym (rolls-Prefix at p a)) ∙ fold-roll-TermTree ℕ term_layer_height (TermTree-F.Prefix at p a)

pub term_binary : (p : TermOp) (a : TermTree) (b : TermTree) → term_height (t.Binary p a b) ≡ max (term_height a) (term_height b) + 1
term_binary p a b = ap term_height (sym (rolls-Binary p a b)) ∙ fold-roll-TermTree ℕ term_layer_height (TermTree-F.Binary p a b)

pub term_quantified : (at : ℕ) (q : Quantifier) (x : Ident) (a : TermTree) (b : TermTree) → term_height (t.Quantified at q x a b) ≡ max (term_height a) (term_height b) + 1
term_quantified at q x a b = ap term_height (sym (rolls-Quantified at q x a b)) ∙ fold-roll-TermTree ℕ term_layer_height (TermTree-F.Quantified at q x a b)

pub ruleset heights = (
  term_number,
  term_bool,
  term_null,
  term_this,
  term_answer,
  term_name,
  term_call,
  term_old,
  term_paren,
  term_image,
  term_prefix,
  term_binary,
  term_quantified,
)
