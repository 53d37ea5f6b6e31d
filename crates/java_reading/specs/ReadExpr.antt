-- Reading of expressions, as functions on lists.
use Rattle.std.specs.Prelude.{ℕ, zero, suc, ◌+◌, max, nat_lt, if◌then◌else◌, List, [], ◌∷◌, ◌++◌, length, true, false, Ok, Err}
use Rattle.java_tokens.specs.declared.token.Keyword.{Keyword}
use Rattle.java_tokens.specs.declared.token.Keyword.TheVariants as w
use Rattle.java_tokens.specs.declared.token.Operator.{Operator}
use Rattle.java_tokens.specs.declared.token.Operator.TheVariants as o
use Rattle.java_tokens.specs.declared.token.TokenKind.{TokenKind}
use Rattle.java_tokens.specs.declared.token.TokenKind.TheVariants as k
use Rattle.token_reading.specs.declared.name.BaseType.{BaseType}
use Rattle.token_reading.specs.declared.name.BaseType.TheVariants as base
use Rattle.token_reading.specs.declared.name.Ident.{Ident}
use Rattle.java_syntax.specs.declared.operator.BinaryOp.{BinaryOp}
use Rattle.java_syntax.specs.declared.operator.BinaryOp.TheVariants as binary
use Rattle.java_syntax.specs.declared.operator.UnaryOp.{UnaryOp}
use Rattle.java_syntax.specs.declared.operator.UnaryOp.TheVariants as unary
use Rattle.java_syntax.specs.declared.expression.Expr.{Expr}
use Rattle.java_syntax.specs.declared.expression.Expr.TheVariants as e
use Rattle.token_reading.specs.Lexeme.{Lexeme, sees}
use Rattle.token_reading.specs.Types.{castable}
use Rattle.token_reading.specs.Height.{type_height}
use Rattle.java_syntax.specs.Exprs.{binary_level, unary_level, casts}
use Rattle.java_reading.specs.declared.infix.Infix.{Infix}
use Rattle.java_reading.specs.declared.infix.Infix.TheVariants as i
use Rattle.token_reading.specs.Outcome.{no_tree, too_high, Parser, ◌>>=◌}
use Rattle.token_reading.specs.ReadType.{next, expect, none_fits, ident_at, ident, pairs, base_type, type_tree}

-- a tree and its height
abbrev pub Tall : Type 0
Tall = Expr × ℕ

-- trees in order and the greatest of their heights
abbrev pub Talls : Type 0
Talls = List Expr × ℕ

-- ---- what a token does after an operand

abbrev pub infix_operator : Operator → Infix
infix_operator o.OrOr = i.Binary binary.Or
infix_operator o.AndAnd = i.Binary binary.And
infix_operator o.Or = i.Binary binary.BitOr
infix_operator o.Xor = i.Binary binary.BitXor
infix_operator o.And = i.Binary binary.BitAnd
infix_operator o.Equal = i.Binary binary.Equal
infix_operator o.NotEqual = i.Binary binary.NotEqual
infix_operator o.Less = i.Binary binary.Less
infix_operator o.Greater = i.Binary binary.Greater
infix_operator o.LessEqual = i.Binary binary.LessEqual
infix_operator o.GreaterEqual = i.Binary binary.GreaterEqual
infix_operator o.ShiftLeft = i.Binary binary.ShiftLeft
infix_operator o.ShiftRight = i.Binary binary.ShiftRight
infix_operator o.UnsignedShiftRight = i.Binary binary.UnsignedShiftRight
infix_operator o.Plus = i.Binary binary.Add
infix_operator o.Minus = i.Binary binary.Subtract
infix_operator o.Star = i.Binary binary.Multiply
infix_operator o.Slash = i.Binary binary.Divide
infix_operator o.Percent = i.Binary binary.Remainder
infix_operator o.Question = i.Question
infix_operator o.Dot = i.Dot
infix_operator o.LeftBracket = i.Bracket
infix_operator o.LeftParen = i.Paren
infix_operator _ = i.Other

abbrev pub infix_keyword : Keyword → Infix
infix_keyword w.Instanceof = i.InstanceOf
infix_keyword _ = i.Other

abbrev pub infix_of : TokenKind → Infix
infix_of (k.Op s) = infix_operator s
infix_of (k.Word s) = infix_keyword s
infix_of _ = i.Other

-- How tightly it binds to the operand: the level of what it makes, and 0 where it makes nothing. A `(` makes a call of
-- a name alone, and binds more tightly than all others.
abbrev pub binds : Infix → ℕ
binds (i.Binary op) = binary_level op
binds i.InstanceOf = 8
binds i.Question = 1
binds i.Dot = 14
binds i.Bracket = 14
binds i.Paren = 15
binds i.Other = 0

abbrev pub first_infix : List Lexeme → Infix
first_infix [] = i.Other
first_infix (x ∷ xs) = infix_of x.kind

-- how tightly the first token binds to an operand before it
abbrev pub follows : List Lexeme → ℕ
follows xs = binds (first_infix xs)

-- ---- expressions. `part l` reads one of level l or above that is lower than the whole.

module _ (part : ℕ → Parser Tall) where
  -- arguments and the closing parenthesis, after those that are found; the first number bounds the turns
  unfoldable pub more_args : ℕ → List Expr → ℕ → Parser Talls
  more_args zero found height xs = Err no_tree
  more_args (suc n) found height xs =
      part 1 xs >>= (λ a ys.
      if sees o.Comma ys then more_args n (found ++ a.0 ∷ []) (max height a.1) (next ys)
      else (expect o.RightParen ys >>= (λ _ zs. Ok ((found ++ a.0 ∷ [], max height a.1), zs))))

  -- the arguments after the opening parenthesis
  unfoldable pub args : Parser Talls
  args xs = if sees o.RightParen xs then Ok (([], 0), next xs) else more_args (length xs) [] 0 xs

  -- ---- after a token with which an operand begins

  -- after a name
  unfoldable pub named : Ident → Parser Tall
  named x xs =
      if sees o.LeftParen xs then (args (next xs) >>= (λ r ys. Ok ((e.Call x r.0, r.1 + 1), ys))) else Ok ((e.Name x, 1), xs)

  -- after an operator before its operand
  unfoldable pub operand : ℕ → ℕ → UnaryOp → Parser Tall
  operand least at op xs =
      if nat_lt (unary_level op) least then Err no_tree
      else (part 12 xs >>= (λ a ys. Ok ((e.Unary at op a.0, a.1 + 1), ys)))

  -- after `super`
  unfoldable pub super_call : ℕ → Parser Tall
  super_call at xs =
      expect o.Dot xs >>= (λ _ ys. ident ys >>= (λ x zs. expect o.LeftParen zs >>= (λ _ us. args us >>= (λ r vs.
      Ok ((e.Super at x r.0, r.1 + 1), vs)))))

  -- after `new` and a class before a `(`
  unfoldable pub instance : ℕ → Ident → Parser Tall
  instance at x xs = expect o.LeftParen xs >>= (λ _ ys. args ys >>= (λ r zs. Ok ((e.New at x r.0, r.1 + 1), zs)))

  -- ---- after an operand

  -- after a `.`
  unfoldable pub member : Tall → Parser Tall
  member left xs =
      ident xs >>= (λ x ys.
      if sees o.LeftParen ys then (args (next ys) >>= (λ r zs. Ok ((e.Method left.0 x r.0, max left.1 r.1 + 1), zs)))
      else Ok ((e.Field left.0 x, left.1 + 1), ys))

  -- after a `[`
  unfoldable pub element : Tall → Parser Tall
  element left xs =
      part 1 xs >>= (λ a ys. expect o.RightBracket ys >>= (λ _ zs. Ok ((e.Element left.0 a.0, max left.1 a.1 + 1), zs)))

  -- after a `?`
  unfoldable pub conditional : Tall → Parser Tall
  conditional left xs =
      part 1 xs >>= (λ a ys. expect o.Colon ys >>= (λ _ zs. part 1 zs >>= (λ b us.
      Ok ((e.Conditional left.0 a.0 b.0, max left.1 (max a.1 b.1) + 1), us))))

  -- after an operator between two operands
  unfoldable pub operated : Tall → BinaryOp → Parser Tall
  operated left op xs = part (binary_level op + 1) xs >>= (λ a ys. Ok ((e.Binary op left.0 a.0, max left.1 a.1 + 1), ys))

-- ---- trees in which a type may stand: it has the height n at most, as each other part

module _ (n : ℕ) (part : ℕ → Parser Tall) where
  -- after the `(` of a cast
  unfoldable pub cast : ℕ → Parser Tall
  cast at xs =
      type_tree n xs >>= (λ t ys.
      if castable t then
      (expect o.RightParen ys >>= (λ _ zs. part 13 zs >>= (λ a us. Ok ((e.Cast at t a.0, max (type_height t) a.1 + 1), us))))
      else Err no_tree)

  -- after a `(`
  unfoldable pub parens : ℕ → Parser Tall
  parens at xs =
      if casts xs then cast at xs
      else (part 1 xs >>= (λ a ys. expect o.RightParen ys >>= (λ _ zs. Ok ((e.Paren at a.0, a.1 + 1), zs))))

  -- after `new` and the base of an array's type
  unfoldable pub array : ℕ → BaseType → Parser Tall
  array at b xs =
      expect o.LeftBracket xs >>= (λ _ ys. part 1 ys >>= (λ a zs. expect o.RightBracket zs >>= (λ _ us. pairs n us >>= (λ d vs.
      Ok ((e.NewArray at b a.0 d, max d a.1 + 1), vs)))))

  abbrev pub creation_by : ℕ → BaseType → Parser Tall
  creation_by at (base.Class x) xs = if sees o.LeftParen xs then instance part at x xs else array at (base.Class x) xs
  creation_by at b xs = array at b xs

  -- after `new`
  unfoldable pub creation : ℕ → Parser Tall
  creation at xs = base_type xs >>= creation_by at

  abbrev pub prefix_operator : ℕ → ℕ → Operator → Parser Tall
  prefix_operator least at o.LeftParen xs = parens at xs
  prefix_operator least at o.Plus xs = operand part least at unary.Plus xs
  prefix_operator least at o.Minus xs = operand part least at unary.Minus xs
  prefix_operator least at o.Not xs = operand part least at unary.Not xs
  prefix_operator least at o.Tilde xs = operand part least at unary.Complement xs
  prefix_operator least at _ xs = Err no_tree

  abbrev pub prefix_keyword : ℕ → Keyword → Parser Tall
  prefix_keyword at w.True xs = Ok ((e.Bool at true, 1), xs)
  prefix_keyword at w.False xs = Ok ((e.Bool at false, 1), xs)
  prefix_keyword at w.Null xs = Ok ((e.Null at, 1), xs)
  prefix_keyword at w.This xs = Ok ((e.This at, 1), xs)
  prefix_keyword at w.Super xs = super_call part at xs
  prefix_keyword at w.New xs = creation at xs
  prefix_keyword at _ xs = Err no_tree

  abbrev pub prefix_by : ℕ → ℕ → TokenKind → Parser Tall
  prefix_by least at (k.Number v) xs = Ok ((e.Number at v, 1), xs)
  prefix_by least at (k.Text x) xs = Ok ((e.Text at x, 1), xs)
  prefix_by least at (k.Ident x) xs = named part (ident_at at x) xs
  prefix_by least at (k.Word s) xs = prefix_keyword at s xs
  prefix_by least at (k.Op s) xs = prefix_operator least at s xs
  prefix_by least at k.End xs = Err no_tree

  -- a tree that begins with a token of its own
  unfoldable pub prefix : ℕ → Parser Tall
  prefix least [] = Err no_tree
  prefix least (x ∷ xs) = prefix_by least x.at x.kind xs

  -- after `instanceof`; nothing that binds more tightly stands after the type
  unfoldable pub instance_of : Tall → Parser Tall
  instance_of left xs =
      type_tree n xs >>= (λ t ys.
      if nat_lt 8 (follows ys) then Err no_tree else Ok ((e.InstanceOf left.0 t, max (type_height t) left.1 + 1), ys))

  abbrev pub behind : Tall → Infix → Parser Tall
  behind left (i.Binary op) xs = operated part left op xs
  behind left i.InstanceOf xs = instance_of left xs
  behind left i.Question xs = conditional part left xs
  behind left i.Dot xs = member part left xs
  behind left i.Bracket xs = element part left xs
  behind left i.Paren xs = Err no_tree
  behind left i.Other xs = Err no_tree

  -- Goes on with what binds as tightly as `least` while the whole isn't higher than its parts and one more; the second
  -- number bounds the turns.
  unfoldable pub climb : ℕ → ℕ → Tall → Parser Tall
  climb least zero left xs = if nat_lt (follows xs) least then Ok (left, xs) else Err too_high
  climb least (suc turns) left xs =
      if nat_lt (follows xs) least then Ok (left, xs)
      else (if nat_lt left.1 (suc n) then (behind left (first_infix xs) (next xs) >>= climb least turns) else Err too_high)

  unfoldable pub precedence : ℕ → Parser Tall
  precedence least xs = prefix least xs >>= climb least (suc n)

-- an expression of level `least` or above and of at most this height
unfoldable pub reading : ℕ → ℕ → Parser Tall
reading zero least xs = none_fits xs
reading (suc n) least xs = precedence n (reading n) least xs
