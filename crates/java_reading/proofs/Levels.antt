-- What may stand after a tree of a level.
use Rattle.std.proofs.Common.{◌≡◌, ◌≢◌, ℕ, zero, suc, ◌≤◌, ◌<◌, List, [], ◌∷◌, Bool, true, false, refl, ap, arith}
use Rattle.java_tokens.specs.declared.token.Keyword.{Keyword}
use Rattle.java_tokens.specs.declared.token.Keyword.TheVariants as w
use Rattle.java_tokens.specs.declared.token.Operator.{Operator}
use Rattle.java_tokens.specs.declared.token.Operator.TheVariants as o
use Rattle.java_tokens.specs.declared.token.TokenKind.{TokenKind}
use Rattle.java_tokens.specs.declared.token.TokenKind.TheVariants as k
use Rattle.java_syntax.specs.declared.operator.BinaryOp.{BinaryOp}
use Rattle.java_syntax.specs.declared.operator.BinaryOp.TheVariants as binary
use Rattle.java_syntax.specs.declared.operator.UnaryOp.{UnaryOp}
use Rattle.java_syntax.specs.declared.operator.UnaryOp.TheVariants as unary
use Rattle.java_syntax.specs.declared.expression.Expr.{Expr, out-Expr}
use Rattle.java_syntax.specs.declared.expression.Expr.TheOpen.{Expr-F}
use Rattle.token_reading.specs.Lexeme.{Lexeme, same_operator, is_operator, sees}
use Rattle.java_syntax.specs.Exprs.{Layer, binary_level, unary_level, level, Within}
use Rattle.java_reading.specs.ReadExpr.{infix_operator, infix_keyword, infix_of, binds, follows}
use Rattle.token_reading.proofs.Lexemes.{from_sees}

-- how tightly the token after a tree may bind at most
abbrev pub after : Layer → ℕ
after (Expr-F.Conditional c a b) = 0
after (Expr-F.Binary op a b) = binary_level op
after (Expr-F.InstanceOf a t) = 8
after (Expr-F.Unary at op a) = 11
after (Expr-F.Cast at t a) = 12
after (Expr-F.Name x) = 14
after (Expr-F.Field a x) = 14
after _ = 15

pub binary_range : (op : BinaryOp) → (2 ≤ binary_level op) × (binary_level op ≤ 11)
binary_range binary.Or = (omega arith, omega arith)
binary_range _ = (omega arith, omega arith)

pub unary_range : (op : UnaryOp) → (12 ≤ unary_level op) × (unary_level op ≤ 13)
unary_range unary.Plus = (omega arith, omega arith)
unary_range _ = (omega arith, omega arith)

pub level_range : (f : Layer) → (1 ≤ level f) × (level f ≤ 14)
level_range (Expr-F.Conditional x a b) = (omega arith, omega arith)
level_range (Expr-F.Binary op a b) = (omega (arith, (binary_range op).0), omega (arith, (binary_range op).1))
level_range (Expr-F.Unary at op a) = (omega (arith, (unary_range op).0), omega (arith, (unary_range op).1))
level_range _ = (omega arith, omega arith)

-- a token that ends a tree of the level
pub ends : (f : Layer) (l c : ℕ) → l ≤ level f → c < l → c ≢ 12 → c ≤ after f
ends (Expr-F.Conditional x a b) l c h low gap = omega arith
ends (Expr-F.Binary op a b) l c h low gap = omega arith
ends (Expr-F.InstanceOf a t) l c h low gap = omega arith
ends (Expr-F.Unary at op a) l c h low gap = omega (arith, (unary_range op).1)
ends (Expr-F.Cast at t a) l c h low gap = omega arith
ends _ l c h low gap = omega arith

-- an operator after its left operand
pub joins : (f : Layer) (l c : ℕ) → l ≤ level f → c ≤ l → 2 ≤ c → c ≤ 11 → c ≤ after f
joins (Expr-F.Conditional x a b) l c h up low high = omega arith
joins (Expr-F.Binary op a b) l c h up low high = omega arith
joins (Expr-F.InstanceOf a t) l c h up low high = omega arith
joins (Expr-F.Unary at op a) l c h up low high = omega arith
joins (Expr-F.Cast at t a) l c h up low high = omega arith
joins _ l c h up low high = omega arith

-- a suffix after what it belongs to
pub hangs : (f : Layer) (c : ℕ) → 14 ≤ level f → c ≤ 14 → c ≤ after f
hangs (Expr-F.Conditional x a b) c h up = omega arith
hangs (Expr-F.Binary op a b) c h up = omega (arith, (binary_range op).1)
hangs (Expr-F.InstanceOf a t) c h up = omega arith
hangs (Expr-F.Unary at op a) c h up = omega (arith, (unary_range op).1)
hangs (Expr-F.Cast at t a) c h up = omega arith
hangs _ c h up = omega arith

-- the other way round: what a token that binds so tightly takes as its operand
pub lifts : (f : Layer) (c : ℕ) → c ≤ 14 → c ≤ after f → c ≤ level f
lifts (Expr-F.Conditional x a b) c up h = omega arith
lifts (Expr-F.Binary op a b) c up h = omega arith
lifts (Expr-F.InstanceOf a t) c up h = omega arith
lifts (Expr-F.Unary at op a) c up h = omega (arith, (unary_range op).0)
lifts (Expr-F.Cast at t a) c up h = omega arith
lifts _ c up h = omega arith

pub lifts_or : (f : Layer) → 1 ≤ after f → 2 ≤ level f
lifts_or (Expr-F.Conditional x a b) h = absurd (omega arith)
lifts_or (Expr-F.Binary op a b) h = (binary_range op).0
lifts_or (Expr-F.Unary at op a) h = omega (arith, (unary_range op).0)
lifts_or _ h = omega arith

-- ---- how tightly tokens bind

most_operator : (s : Operator) → binds (infix_operator s) ≤ 15
most_operator o.OrOr = omega arith
most_operator _ = omega arith

most_keyword : (s : Keyword) → binds (infix_keyword s) ≤ 15
most_keyword w.Instanceof = omega arith
most_keyword _ = omega arith

most_kind : (kd : TokenKind) → binds (infix_of kd) ≤ 15
most_kind (k.Op s) = most_operator s
most_kind (k.Word s) = most_keyword s
most_kind _ = omega arith

-- no token binds more tightly than 15
pub follows_most : (xs : List Lexeme) → follows xs ≤ 15
follows_most [] = omega arith
follows_most (x ∷ xs) = most_kind x.kind

gap_operator : (s : Operator) → binds (infix_operator s) ≢ 12
gap_operator o.OrOr = λ h. absurd (omega arith)
gap_operator _ = λ h. absurd (omega arith)

gap_keyword : (s : Keyword) → binds (infix_keyword s) ≢ 12
gap_keyword w.Instanceof = λ h. absurd (omega arith)
gap_keyword _ = λ h. absurd (omega arith)

gap_kind : (kd : TokenKind) → binds (infix_of kd) ≢ 12
gap_kind (k.Op s) = gap_operator s
gap_kind (k.Word s) = gap_keyword s
gap_kind _ = λ h. absurd (omega arith)

-- no token binds as tightly as the operand of `+` or `-`
pub follows_gap : (xs : List Lexeme) → follows xs ≢ 12
follows_gap [] = λ h. absurd (omega arith)
follows_gap (x ∷ xs) = gap_kind x.kind

stop_operator : (s : Operator) → same_operator s o.LeftParen ≡ false → binds (infix_operator s) ≤ 14
unfolding same_operator
stop_operator o.LeftParen h = absurd (cc)
stop_operator _ h = omega arith

stop_keyword : (s : Keyword) → binds (infix_keyword s) ≤ 14
stop_keyword w.Instanceof = omega arith
stop_keyword _ = omega arith

stop_kind : (kd : TokenKind) → is_operator o.LeftParen kd ≡ false → binds (infix_of kd) ≤ 14
stop_kind (k.Op s) h = stop_operator s h
stop_kind (k.Word s) h = stop_keyword s
stop_kind _ h = omega arith

-- after a name that is no call
pub name_stop : (xs : List Lexeme) → sees o.LeftParen xs ≡ false → follows xs ≤ 14
name_stop [] h = omega arith
name_stop (x ∷ xs) h = stop_kind x.kind h

looser_by : (s : Operator) (xs : List Lexeme) → follows xs < binds (infix_operator s) → (t : Bool) → sees s xs ≡ t → t ≡ false
looser_by s xs low true h = let same : follows xs ≡ binds (infix_operator s) = ap follows (from_sees s xs h).1 in absurd (omega arith)
looser_by s xs low false h = refl

-- what binds less tightly than this sign isn't this sign
pub looser : (s : Operator) (xs : List Lexeme) → follows xs < binds (infix_operator s) → sees s xs ≡ false
looser s xs low = looser_by s xs low (sees s xs) refl

pub within_level : (n : ℕ) (e : Expr) (l : ℕ) (xs rest : List Lexeme) → Within n e l xs rest → l ≤ level (out-Expr e)
unfolding Within
within_level zero e l xs rest w = absurd w
within_level (suc n) e l xs rest w = w.0
