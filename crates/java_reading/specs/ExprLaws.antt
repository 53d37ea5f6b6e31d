-- What is claimed of expressions.
use Rattle.std.specs.Prelude.{◌≡◌, ℕ, ◌<◌, ◌≤◌, List, [], ◌∷◌, length, Bool, true, false, Ok, Err}
use Rattle.java_tokens.specs.declared.token.Operator.TheVariants as o
use Rattle.java_tokens.specs.declared.token.TokenKind.TheVariants as k
use Rattle.token_reading.specs.declared.name.TypeTree.{TypeTree}
use Rattle.java_syntax.specs.declared.expression.Expr.{Expr}
use Rattle.token_reading.specs.Lexeme.{Lexeme, Then}
use Rattle.token_reading.specs.Types.{IsType}
use Rattle.java_syntax.specs.Exprs.{Within, begins_plain, casts}
use Rattle.java_syntax.specs.Height.{expr_height}
use Rattle.token_reading.specs.Outcome.{no_tree, too_high}
use Rattle.java_reading.specs.ReadExpr.{follows, reading}

-- the expression, of some height, is written at the front, and no token that binds to it stands after it
abbrev pub Stands : Expr → List Lexeme → List Lexeme → Type 0
Stands e xs rest = (n : ℕ) × Within n e 1 xs rest × (follows rest ≡ 0)

-- no tokens are two expressions
abbrev pub OneExpression : Type 0
OneExpression = (e d : Expr) (xs ys zs : List Lexeme) → Stands e xs ys → Stands d xs zs → (e ≡ d) × (ys ≡ zs)

-- An expression of height n or less that stands at the front is read, with its height.
abbrev pub FindsExpressions : Type 0
FindsExpressions =
    (n : ℕ) (e : Expr) (xs rest : List Lexeme) → Stands e xs rest → expr_height e ≤ n → reading n 1 xs ≡ Ok ((e, expr_height e), rest)

-- What is read is written, and has the height that is given with it, which is no greater than n.
abbrev pub GivesExpressions : Type 0
GivesExpressions = (n : ℕ) (e : Expr) (h : ℕ) (xs rest : List Lexeme) → reading n 1 xs ≡ Ok ((e, h), rest)
    → Within n e 1 xs rest × (h ≡ expr_height e)

-- Where no tree is read none stands, of whatever height.
abbrev pub RefusesExpressions : Type 0
RefusesExpressions = (n : ℕ) (e : Expr) (xs rest : List Lexeme) → reading n 1 xs ≡ Err no_tree → Stands e xs rest → ⊥

-- Where trees are too high, each that stands is higher than n, and there are more than n tokens.
abbrev pub RefusesHighOnes : Type 0
RefusesHighOnes = (n : ℕ) (xs : List Lexeme) → reading n 1 xs ≡ Err too_high
    → ((e : Expr) (rest : List Lexeme) → Stands e xs rest → n < expr_height e) × (n < length xs)

-- The height of an expression is the least number with which it is written.
abbrev pub HeightIsLeast : Type 0
HeightIsLeast = (n : ℕ) (e : Expr) (l : ℕ) (xs rest : List Lexeme) → Within n e l xs rest
    → Within (expr_height e) e l xs rest × (expr_height e ≤ n)

-- the first token is one with which an expression of level 13 or above can begin
abbrev pub sees_plain : List Lexeme → Bool
sees_plain [] = false
sees_plain (x ∷ xs) = begins_plain x.kind

-- a type, a `)` and a token with which the operand of a cast can begin
abbrev pub BeginsCast : List Lexeme → Type 0
BeginsCast xs =
    (t : TypeTree) × (ys : List Lexeme) × IsType t xs ys × (zs : List Lexeme) × Then (k.Op o.RightParen) ys zs × (sees_plain zs ≡ true)

-- The look-ahead after a `(` sees just this.
abbrev pub SeesCasts : Type 0
SeesCasts = (xs : List Lexeme) → (casts xs ≡ true → BeginsCast xs) × (BeginsCast xs → casts xs ≡ true)
