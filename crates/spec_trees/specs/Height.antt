-- The height of a tree: the nodes on its longest path. A contract, a spec method, a relation, a part in parentheses, and
-- each application of an operator, a quantifier, `old` or a spec method is one node; a name or a literal is a leaf, which
-- has height 1.
use Rattle.std.specs.Prelude.{ℕ, ◌+◌, max, map}
use Rattle.token_reading.specs.Height.{highest, type_height, params_height}
use Rattle.spec_trees.specs.declared.contract.ContractTree.{ContractTree}
use Rattle.spec_trees.specs.declared.contract.SpecTree.{SpecTree}
use Rattle.spec_trees.specs.declared.link.LinkTree.{LinkTree}
use Rattle.spec_trees.specs.declared.link.LinkTree.TheOpen.{LinkTree-F}
use Rattle.spec_trees.specs.declared.link.LinkTree.TheFolds.{fold-LinkTree}
use Rattle.spec_trees.specs.declared.term.TermTree.{TermTree}
use Rattle.spec_trees.specs.declared.term.TermTree.TheOpen.{TermTree-F}
use Rattle.spec_trees.specs.declared.term.TermTree.TheFolds.{fold-TermTree}

-- one level, with the height of each part in its place
abbrev pub link_layer_height : LinkTree-F ℕ → ℕ
link_layer_height (LinkTree-F.Field x) = 1
link_layer_height (LinkTree-F.Path at p r) = r + 1
link_layer_height (LinkTree-F.Paren at r) = r + 1
link_layer_height (LinkTree-F.Binary p r s) = max r s + 1

abbrev pub link_height : LinkTree → ℕ
link_height = fold-LinkTree ℕ link_layer_height

-- the same of terms
abbrev pub term_layer_height : TermTree-F ℕ → ℕ
term_layer_height (TermTree-F.Call x given) = highest given + 1
term_layer_height (TermTree-F.Old at t) = t + 1
term_layer_height (TermTree-F.Paren at t) = t + 1
term_layer_height (TermTree-F.Image s r) = max s (link_height r) + 1
term_layer_height (TermTree-F.Prefix at p t) = t + 1
term_layer_height (TermTree-F.Binary p s t) = max s t + 1
term_layer_height (TermTree-F.Quantified at q x s t) = max s t + 1
term_layer_height _ = 1

abbrev pub term_height : TermTree → ℕ
term_height = fold-TermTree ℕ term_layer_height

-- The clauses `ints` and `adds` have no nodes.
abbrev pub contract_height : ContractTree → ℕ
contract_height c = max (highest (map term_height c.modifies)) (term_height c.ensured) + 1

abbrev pub spec_height : SpecTree → ℕ
spec_height t = max (type_height t.ty) (max (params_height t.params) (term_height t.term)) + 1
