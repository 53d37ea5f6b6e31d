-- Reading of relations, as functions on lists.
use Rattle.std.specs.Prelude.{ℕ, zero, suc, ◌+◌, max, nat_lt, if◌then◌else◌, List, [], ◌∷◌, Option, Some, None, Ok, Err}
use Rattle.java_tokens.specs.declared.token.Operator.{Operator}
use Rattle.java_tokens.specs.declared.token.Operator.TheVariants as o
use Rattle.java_tokens.specs.declared.token.TokenKind.{TokenKind}
use Rattle.java_tokens.specs.declared.token.TokenKind.TheVariants as k
use Rattle.token_reading.specs.declared.name.Ident.{Ident}
use Rattle.token_reading.specs.Lexeme.{Lexeme}
use Rattle.token_reading.specs.Outcome.{no_tree, too_high, Parser, ◌>>=◌}
use Rattle.token_reading.specs.ReadType.{next, expect, none_fits, ident_at, ident}
use Rattle.spec_trees.specs.declared.link.LinkTree.{LinkTree}
use Rattle.spec_trees.specs.declared.link.LinkTree.TheVariants as r
use Rattle.spec_trees.specs.declared.operator.LinkOp.{LinkOp}
use Rattle.spec_trees.specs.declared.operator.LinkOp.TheVariants as op
use Rattle.spec_trees.specs.declared.operator.PathOp.{PathOp}
use Rattle.spec_trees.specs.declared.operator.PathOp.TheVariants as path
use Rattle.spec_trees.specs.declared.word.ContractWord.{ContractWord}
use Rattle.spec_trees.specs.Links.{link_op_level}
use Rattle.spec_trees.specs.Words.{word_of}

-- a relation and its height
abbrev pub TallLink : Type 0
TallLink = LinkTree × ℕ

-- ---- names

abbrev pub plain_name : Ident → Option ContractWord → Parser Ident
plain_name x None xs = Ok (x, xs)
plain_name x (Some w) xs = Err no_tree

-- an identifier that is no word of contracts
unfoldable pub name : Parser Ident
name xs = ident xs >>= (λ x ys. plain_name x (word_of x.name) ys)

-- ---- what a token does after a relation

abbrev pub link_operator : Operator → Option LinkOp
link_operator o.Plus = Some op.Union
link_operator o.Minus = Some op.Minus
link_operator o.And = Some op.Meet
link_operator o.Dot = Some op.Join
link_operator _ = None

abbrev pub link_op_of : TokenKind → Option LinkOp
link_op_of (k.Op s) = link_operator s
link_op_of _ = None

abbrev pub link_op_at : List Lexeme → Option LinkOp
link_op_at [] = None
link_op_at (x ∷ xs) = link_op_of x.kind

-- How tightly it binds to the relation: the level of what it makes, and 0 where it makes nothing.
abbrev pub link_binds : Option LinkOp → ℕ
link_binds None = 0
link_binds (Some p) = link_op_level p

-- how tightly the first token binds to a relation before it
abbrev pub link_follows : List Lexeme → ℕ
link_follows xs = link_binds (link_op_at xs)

-- ---- relations. `part l` reads one of level l or above that is lower than the whole.

abbrev pub field_by : Ident → Option ContractWord → Parser TallLink
field_by x None xs = Ok ((r.Field x, 1), xs)
field_by x (Some w) xs = Err no_tree

module _ (part : ℕ → Parser TallLink) where
  -- after `^`, `*` or `~`
  unfoldable pub path_of : ℕ → PathOp → Parser TallLink
  path_of at p xs = part 4 xs >>= (λ a ys. Ok ((r.Path at p a.0, a.1 + 1), ys))

  -- after a `(`
  unfoldable pub link_parens : ℕ → Parser TallLink
  link_parens at xs = part 1 xs >>= (λ a ys. expect o.RightParen ys >>= (λ _ zs. Ok ((r.Paren at a.0, a.1 + 1), zs)))

  abbrev pub link_prefix_operator : ℕ → Operator → Parser TallLink
  link_prefix_operator at o.Xor xs = path_of at path.Paths xs
  link_prefix_operator at o.Star xs = path_of at path.PathsOrSame xs
  link_prefix_operator at o.Tilde xs = path_of at path.Converse xs
  link_prefix_operator at o.LeftParen xs = link_parens at xs
  link_prefix_operator at _ xs = Err no_tree

  abbrev pub link_prefix_by : ℕ → TokenKind → Parser TallLink
  link_prefix_by at (k.Ident x) xs = field_by (ident_at at x) (word_of x) xs
  link_prefix_by at (k.Op s) xs = link_prefix_operator at s xs
  link_prefix_by at _ xs = Err no_tree

  -- a relation that begins with a token of its own
  unfoldable pub link_prefix : Parser TallLink
  link_prefix [] = Err no_tree
  link_prefix (x ∷ xs) = link_prefix_by x.at x.kind xs

  -- after an operator between two relations
  unfoldable pub link_operated : TallLink → LinkOp → Parser TallLink
  link_operated left p xs = part (link_op_level p + 1) xs >>= (λ a ys. Ok ((r.Binary p left.0 a.0, max left.1 a.1 + 1), ys))

  abbrev pub link_behind : TallLink → Option LinkOp → Parser TallLink
  link_behind left (Some p) xs = link_operated left p xs
  link_behind left None xs = Err no_tree

module _ (n : ℕ) (part : ℕ → Parser TallLink) where
  -- Goes on with what binds as tightly as `least` while the whole isn't higher than its parts, of height n, and one
  -- more; the second number bounds the turns.
  unfoldable pub link_climb : ℕ → ℕ → TallLink → Parser TallLink
  link_climb least zero left xs = if nat_lt (link_follows xs) least then Ok (left, xs) else Err too_high
  link_climb least (suc turns) left xs =
      if nat_lt (link_follows xs) least then Ok (left, xs)
      else
      (if nat_lt left.1 (suc n) then (link_behind part left (link_op_at xs) (next xs) >>= link_climb least turns) else Err too_high)

  unfoldable pub link_precedence : ℕ → Parser TallLink
  link_precedence least xs = link_prefix part xs >>= link_climb least (suc n)

-- a relation of level `least` or above and of at most this height
unfoldable pub read_link : ℕ → ℕ → Parser TallLink
read_link zero least xs = none_fits xs
read_link (suc n) least xs = link_precedence n (read_link n) least xs
