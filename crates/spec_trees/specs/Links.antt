-- Which relations the tokens are.
--
--     Link  = Ident | ( "^" | "*" | "~" ) Link | "(" RAdd ")"
--     RAdd  = RMeet { ( "+" | "-" ) RMeet }
--     RMeet = RJoin { "&" RJoin }
--     RJoin = Link { "." Link }
use Rattle.std.specs.Prelude.{◌≡◌, ℕ, zero, suc, ◌+◌, ◌≤◌, List, ◌∷◌}
use Rattle.java_tokens.specs.declared.token.Operator.{Operator}
use Rattle.java_tokens.specs.declared.token.Operator.TheVariants as o
use Rattle.java_tokens.specs.declared.token.TokenKind.TheVariants as k
use Rattle.token_reading.specs.Lexeme.{Lexeme, lexeme, Then}
use Rattle.spec_trees.specs.declared.link.LinkTree.{LinkTree, out-LinkTree}
use Rattle.spec_trees.specs.declared.link.LinkTree.TheOpen.{LinkTree-F}
use Rattle.spec_trees.specs.declared.operator.LinkOp.{LinkOp}
use Rattle.spec_trees.specs.declared.operator.LinkOp.TheVariants as op
use Rattle.spec_trees.specs.declared.operator.PathOp.{PathOp}
use Rattle.spec_trees.specs.declared.operator.PathOp.TheVariants as path
use Rattle.spec_trees.specs.Words.{IsName}

-- one level of a relation
abbrev pub LinkLayer : Type 0
LinkLayer = LinkTree-F LinkTree

-- the sign between two relations
abbrev pub link_sign : LinkOp → Operator
link_sign op.Union = o.Plus
link_sign op.Minus = o.Minus
link_sign op.Meet = o.And
link_sign op.Join = o.Dot

-- the sign before a relation
abbrev pub path_sign : PathOp → Operator
path_sign path.Paths = o.Xor
path_sign path.PathsOrSame = o.Star
path_sign path.Converse = o.Tilde

-- ---- levels of precedence, from the loosest: 1 sums, 2 `&`, 3 `.`, 4 all others

abbrev pub link_op_level : LinkOp → ℕ
link_op_level op.Union = 1
link_op_level op.Minus = 1
link_op_level op.Meet = 2
link_op_level op.Join = 3

abbrev pub link_level : LinkLayer → ℕ
link_level (LinkTree-F.Binary op a b) = link_op_level op
link_level _ = 4

-- ---- the grammar. `Part r l xs rest` says that the relation r, of level l or above, is written at the front of xs, and
-- that the rest stands after it.

module _ (Part : LinkTree → ℕ → List Lexeme → List Lexeme → Type 0) where
  -- one production for each kind of relation
  abbrev pub LinkNode : LinkLayer → List Lexeme → List Lexeme → Type 0
  LinkNode (LinkTree-F.Field x) xs rest = IsName x xs rest
  LinkNode (LinkTree-F.Path at p r) xs rest =
      (ys : List Lexeme) × (xs ≡ lexeme at (k.Op (path_sign p)) ∷ ys) × Part r 4 ys rest
  LinkNode (LinkTree-F.Paren at r) xs rest =
      (ys : List Lexeme) × (xs ≡ lexeme at (k.Op o.LeftParen) ∷ ys)
      × (zs : List Lexeme) × Part r 1 ys zs × Then (k.Op o.RightParen) zs rest
  -- an operator between two relations: it associates to the left
  LinkNode (LinkTree-F.Binary p r s) xs rest =
      (ys : List Lexeme) × Part r (link_op_level p) xs ys × (zs : List Lexeme) × Then (k.Op (link_sign p)) ys zs
      × Part s (link_op_level p + 1) zs rest

-- The relation, of at most this height and of this level or above, is written at the front of the first list, and the
-- second stands after it.
unfoldable pub LinkWithin : ℕ → LinkTree → ℕ → List Lexeme → List Lexeme → Type 0
LinkWithin zero r l xs rest = ⊥
LinkWithin (suc n) r l xs rest = (l ≤ link_level (out-LinkTree r)) × LinkNode (LinkWithin n) (out-LinkTree r) xs rest
