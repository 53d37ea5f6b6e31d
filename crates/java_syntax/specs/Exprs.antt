-- Which expressions the tokens are (JLS 15).
use Rattle.std.specs.Prelude.{◌≡◌, ℕ, zero, suc, ◌+◌, ◌≤◌, ◌&&◌, List, [], ◌∷◌, Bool, true, false}
use Rattle.java_tokens.specs.declared.token.Keyword.{Keyword}
use Rattle.java_tokens.specs.declared.token.Keyword.TheVariants as w
use Rattle.java_tokens.specs.declared.token.Operator.{Operator}
use Rattle.java_tokens.specs.declared.token.Operator.TheVariants as o
use Rattle.java_tokens.specs.declared.token.TokenKind.{TokenKind}
use Rattle.java_tokens.specs.declared.token.TokenKind.TheVariants as k
use Rattle.java_syntax.specs.declared.operator.BinaryOp.{BinaryOp}
use Rattle.java_syntax.specs.declared.operator.BinaryOp.TheVariants as binary
use Rattle.java_syntax.specs.declared.operator.UnaryOp.{UnaryOp}
use Rattle.java_syntax.specs.declared.operator.UnaryOp.TheVariants as unary
use Rattle.java_syntax.specs.declared.expression.Expr.{Expr, out-Expr}
use Rattle.java_syntax.specs.declared.expression.Expr.TheOpen.{Expr-F}
use Rattle.token_reading.specs.Lexeme.{Lexeme, lexeme, Then, is_operator, sees}
use Rattle.token_reading.specs.Types.{IsIdent, IsBase, IsType, Brackets, castable, past_brackets}
use Rattle.token_reading.specs.Height.{type_height}

-- one level of an expression
abbrev pub Layer : Type 0
Layer = Expr-F Expr

-- ---- operators

-- the sign of an operator between operands
abbrev pub binary_sign : BinaryOp → Operator
binary_sign binary.Or = o.OrOr
binary_sign binary.And = o.AndAnd
binary_sign binary.BitOr = o.Or
binary_sign binary.BitXor = o.Xor
binary_sign binary.BitAnd = o.And
binary_sign binary.Equal = o.Equal
binary_sign binary.NotEqual = o.NotEqual
binary_sign binary.Less = o.Less
binary_sign binary.Greater = o.Greater
binary_sign binary.LessEqual = o.LessEqual
binary_sign binary.GreaterEqual = o.GreaterEqual
binary_sign binary.ShiftLeft = o.ShiftLeft
binary_sign binary.ShiftRight = o.ShiftRight
binary_sign binary.UnsignedShiftRight = o.UnsignedShiftRight
binary_sign binary.Add = o.Plus
binary_sign binary.Subtract = o.Minus
binary_sign binary.Multiply = o.Star
binary_sign binary.Divide = o.Slash
binary_sign binary.Remainder = o.Percent

-- the sign of an operator before its operand
abbrev pub unary_sign : UnaryOp → Operator
unary_sign unary.Plus = o.Plus
unary_sign unary.Minus = o.Minus
unary_sign unary.Not = o.Not
unary_sign unary.Complement = o.Tilde

-- ---- levels of precedence, from the loosest: 1 conditional, 2 `||`, 3 `&&`, 4 `|`, 5 `^`, 6 `&`, 7 equality,
-- 8 relations, 9 shifts, 10 sums, 11 products, 12 `+` and `-` before an operand, 13 `!`, `~` and casts, 14 all others

abbrev pub binary_level : BinaryOp → ℕ
binary_level binary.Or = 2
binary_level binary.And = 3
binary_level binary.BitOr = 4
binary_level binary.BitXor = 5
binary_level binary.BitAnd = 6
binary_level binary.Equal = 7
binary_level binary.NotEqual = 7
binary_level binary.Less = 8
binary_level binary.Greater = 8
binary_level binary.LessEqual = 8
binary_level binary.GreaterEqual = 8
binary_level binary.ShiftLeft = 9
binary_level binary.ShiftRight = 9
binary_level binary.UnsignedShiftRight = 9
binary_level binary.Add = 10
binary_level binary.Subtract = 10
binary_level binary.Multiply = 11
binary_level binary.Divide = 11
binary_level binary.Remainder = 11

abbrev pub unary_level : UnaryOp → ℕ
unary_level unary.Plus = 12
unary_level unary.Minus = 12
unary_level unary.Not = 13
unary_level unary.Complement = 13

-- the level of a node
abbrev pub level : Layer → ℕ
level (Expr-F.Conditional c a b) = 1
level (Expr-F.Binary op a b) = binary_level op
level (Expr-F.InstanceOf a t) = 8
level (Expr-F.Unary at op a) = unary_level op
level (Expr-F.Cast at t a) = 13
level _ = 14

-- ---- a cast or a part in parentheses

abbrev pub begins_plain_operator : Operator → Bool
begins_plain_operator o.LeftParen = true
begins_plain_operator o.Not = true
begins_plain_operator o.Tilde = true
begins_plain_operator _ = false

abbrev pub begins_plain_keyword : Keyword → Bool
begins_plain_keyword w.True = true
begins_plain_keyword w.False = true
begins_plain_keyword w.Null = true
begins_plain_keyword w.This = true
begins_plain_keyword w.Super = true
begins_plain_keyword w.New = true
begins_plain_keyword _ = false

-- a token with which an expression of level 13 or above can begin
abbrev pub begins_plain : TokenKind → Bool
begins_plain (k.Ident x) = true
begins_plain (k.Number n) = true
begins_plain (k.Text x) = true
begins_plain (k.Word s) = begins_plain_keyword s
begins_plain (k.Op s) = begins_plain_operator s
begins_plain k.End = false

abbrev pub begins_type_keyword : Keyword → Bool
begins_type_keyword w.Int = true
begins_type_keyword w.Boolean = true
begins_type_keyword _ = false

-- a token with which a type begins
abbrev pub begins_type : TokenKind → Bool
begins_type (k.Ident x) = true
begins_type (k.Word s) = begins_type_keyword s
begins_type _ = false

-- a `)` and a token with which a cast's operand can begin
abbrev pub closes_cast : List Lexeme → Bool
closes_cast (x ∷ y ∷ xs) = is_operator o.RightParen x.kind && begins_plain y.kind
closes_cast _ = false

-- After a `(`: a type, a `)` and a token with which the operand can begin make a cast.
abbrev pub casts : List Lexeme → Bool
casts [] = false
casts (x ∷ xs) = begins_type x.kind && closes_cast (past_brackets xs)

-- ---- the grammar. `Part e l xs rest` says that the tree e, of level l or above, is written at the front of xs,
-- and that the rest stands after it.

-- `true` and `false`
abbrev pub truth : Bool → Keyword
truth true = w.True
truth false = w.False

module _ (Part : Expr → ℕ → List Lexeme → List Lexeme → Type 0) where
  -- further arguments, and the closing parenthesis
  abbrev pub MoreArgs : List Expr → List Lexeme → List Lexeme → Type 0
  MoreArgs [] xs rest = Then (k.Op o.RightParen) xs rest
  MoreArgs (a ∷ more) xs rest =
      (ys : List Lexeme) × Then (k.Op o.Comma) xs ys × (zs : List Lexeme) × Part a 1 ys zs × MoreArgs more zs rest

  -- the arguments after the opening parenthesis (JLS 15.12)
  abbrev pub Args : List Expr → List Lexeme → List Lexeme → Type 0
  Args [] xs rest = Then (k.Op o.RightParen) xs rest
  Args (a ∷ more) xs rest = (ys : List Lexeme) × Part a 1 xs ys × MoreArgs more ys rest

  -- one production for each kind of node
  abbrev pub Node : Layer → List Lexeme → List Lexeme → Type 0
  -- literals and `this` (JLS 15.8)
  Node (Expr-F.Number at n) xs rest = xs ≡ lexeme at (k.Number n) ∷ rest
  Node (Expr-F.Text at x) xs rest = xs ≡ lexeme at (k.Text x) ∷ rest
  Node (Expr-F.Bool at b) xs rest = xs ≡ lexeme at (k.Word (truth b)) ∷ rest
  Node (Expr-F.Null at) xs rest = xs ≡ lexeme at (k.Word w.Null) ∷ rest
  Node (Expr-F.This at) xs rest = xs ≡ lexeme at (k.Word w.This) ∷ rest
  -- a name, and a call by name (JLS 6.5, 15.12)
  Node (Expr-F.Name x) xs rest = IsIdent x xs rest
  Node (Expr-F.Call x given) xs rest =
      (ys : List Lexeme) × IsIdent x xs ys × (zs : List Lexeme) × Then (k.Op o.LeftParen) ys zs × Args given zs rest
  -- A part in parentheses (JLS 15.8.5). What can be read as a cast isn't read as this (JLS 15.16).
  Node (Expr-F.Paren at a) xs rest =
      (ys : List Lexeme) × (xs ≡ lexeme at (k.Op o.LeftParen) ∷ ys) × (casts ys ≡ false)
      × (zs : List Lexeme) × Part a 1 ys zs × Then (k.Op o.RightParen) zs rest
  -- a call through `super` (JLS 15.12)
  Node (Expr-F.Super at x given) xs rest =
      (ys : List Lexeme) × (xs ≡ lexeme at (k.Word w.Super) ∷ ys) × (zs : List Lexeme) × Then (k.Op o.Dot) ys zs
      × (us : List Lexeme) × IsIdent x zs us × (vs : List Lexeme) × Then (k.Op o.LeftParen) us vs × Args given vs rest
  -- an instance creation (JLS 15.9)
  Node (Expr-F.New at x given) xs rest =
      (ys : List Lexeme) × (xs ≡ lexeme at (k.Word w.New) ∷ ys) × (zs : List Lexeme) × IsIdent x ys zs
      × (us : List Lexeme) × Then (k.Op o.LeftParen) zs us × Args given us rest
  -- An array creation (JLS 15.10.1). No `[` stands directly after it (JLS 15.10.3).
  Node (Expr-F.NewArray at base size dimensions) xs rest =
      (ys : List Lexeme) × (xs ≡ lexeme at (k.Word w.New) ∷ ys) × (zs : List Lexeme) × IsBase base ys zs
      × (us : List Lexeme) × Then (k.Op o.LeftBracket) zs us × (vs : List Lexeme) × Part size 1 us vs
      × (ws : List Lexeme) × Then (k.Op o.RightBracket) vs ws × Brackets dimensions ws rest × (sees o.LeftBracket rest ≡ false)
  -- a field, a call and an element (JLS 15.11, 15.12, 15.10.3)
  Node (Expr-F.Field a x) xs rest =
      (ys : List Lexeme) × Part a 14 xs ys × (zs : List Lexeme) × Then (k.Op o.Dot) ys zs × IsIdent x zs rest
  Node (Expr-F.Method a x given) xs rest =
      (ys : List Lexeme) × Part a 14 xs ys × (zs : List Lexeme) × Then (k.Op o.Dot) ys zs
      × (us : List Lexeme) × IsIdent x zs us × (vs : List Lexeme) × Then (k.Op o.LeftParen) us vs × Args given vs rest
  Node (Expr-F.Element a i) xs rest =
      (ys : List Lexeme) × Part a 14 xs ys × (zs : List Lexeme) × Then (k.Op o.LeftBracket) ys zs
      × (us : List Lexeme) × Part i 1 zs us × Then (k.Op o.RightBracket) us rest
  -- an operator or a cast before its operand (JLS 15.15, 15.16)
  Node (Expr-F.Unary at op a) xs rest = (ys : List Lexeme) × (xs ≡ lexeme at (k.Op (unary_sign op)) ∷ ys) × Part a 12 ys rest
  Node (Expr-F.Cast at t a) xs rest =
      (ys : List Lexeme) × (xs ≡ lexeme at (k.Op o.LeftParen) ∷ ys) × (zs : List Lexeme) × IsType t ys zs × (castable t ≡ true)
      × (us : List Lexeme) × Then (k.Op o.RightParen) zs us × Part a 13 us rest
  -- An operator between its operands (JLS 15.17 to 15.24): it associates to the left.
  Node (Expr-F.Binary op a b) xs rest =
      (ys : List Lexeme) × Part a (binary_level op) xs ys × (zs : List Lexeme) × Then (k.Op (binary_sign op)) ys zs × Part b (binary_level op + 1) zs rest
  -- a type comparison (JLS 15.20.2)
  Node (Expr-F.InstanceOf a t) xs rest =
      (ys : List Lexeme) × Part a 8 xs ys × (zs : List Lexeme) × Then (k.Word w.Instanceof) ys zs × IsType t zs rest
  -- A conditional (JLS 15.25): it associates to the right.
  Node (Expr-F.Conditional c a b) xs rest =
      (ys : List Lexeme) × Part c 2 xs ys × (zs : List Lexeme) × Then (k.Op o.Question) ys zs
      × (us : List Lexeme) × Part a 1 zs us × (vs : List Lexeme) × Then (k.Op o.Colon) us vs × Part b 1 vs rest

-- the height of the type in a node, and 0 of none; the pairs of brackets after an array's size count as a type's do
abbrev pub inner_type_height : Layer → ℕ
inner_type_height (Expr-F.NewArray at base size dimensions) = dimensions
inner_type_height (Expr-F.Cast at t a) = type_height t
inner_type_height (Expr-F.InstanceOf a t) = type_height t
inner_type_height _ = 0

-- The expression, of at most this height and of this level or above, is written at the front of the first list, and
-- the second stands after it.
unfoldable pub Within : ℕ → Expr → ℕ → List Lexeme → List Lexeme → Type 0
Within zero e l xs rest = ⊥
Within (suc n) e l xs rest =
    (l ≤ level (out-Expr e)) × Node (Within n) (out-Expr e) xs rest × (inner_type_height (out-Expr e) ≤ n)
