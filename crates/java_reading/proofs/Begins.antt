-- What an expression begins with.
use Rattle.std.proofs.Common.{◌≡◌, ℕ, zero, suc, ◌≤◌, List, ◌∷◌, Bool, true, false, refl, arith}
use Rattle.java_tokens.specs.declared.token.Keyword.TheVariants as w
use Rattle.java_tokens.specs.declared.token.Operator.{Operator}
use Rattle.java_tokens.specs.declared.token.Operator.TheVariants as o
use Rattle.java_tokens.specs.declared.token.TokenKind.{TokenKind}
use Rattle.java_tokens.specs.declared.token.TokenKind.TheVariants as k
use Rattle.java_syntax.specs.declared.operator.UnaryOp.{UnaryOp}
use Rattle.java_syntax.specs.declared.operator.UnaryOp.TheVariants as unary
use Rattle.java_syntax.specs.declared.expression.Expr.{Expr, out-Expr}
use Rattle.java_syntax.specs.declared.expression.Expr.TheOpen.{Expr-F}
use Rattle.token_reading.specs.Lexeme.{Lexeme, same_operator, same_keyword, is_operator, sees}
use Rattle.java_syntax.specs.Exprs.{Layer, level, unary_sign, unary_level, truth, begins_plain_keyword, begins_plain_operator, begins_plain, Node, Within}
use Rattle.java_reading.proofs.Levels.{binary_range}
use Rattle.java_reading.specs.Lookahead.{is_super_call}

abbrev pub begins_operator : Operator → Bool
begins_operator o.LeftParen = true
begins_operator o.Not = true
begins_operator o.Tilde = true
begins_operator o.Plus = true
begins_operator o.Minus = true
begins_operator _ = false

-- a token with which an expression can begin
abbrev pub begins : TokenKind → Bool
begins (k.Ident x) = true
begins (k.Number n) = true
begins (k.Text x) = true
begins (k.Word s) = begins_plain_keyword s
begins (k.Op s) = begins_operator s
begins k.End = false

-- the list begins as an expression of the level does
pub record Begins (l : ℕ) (xs : List Lexeme) : Type 0 where
  pub first : Lexeme
  pub more : List Lexeme
  pub is : xs ≡ first ∷ more
  pub any : begins first.kind ≡ true
  pub plain : 13 ≤ l → begins_plain first.kind ≡ true

as_left : (l c : ℕ) (xs : List Lexeme) → (13 ≤ l → 13 ≤ c) → Begins c xs → Begins l xs
as_left l c xs up s = record { first = s.first; more = s.more; is = s.is; any = s.any; plain = λ h. s.plain (up h) }

truth_begins : (b : Bool) → begins_plain_keyword (truth b) ≡ true
truth_begins true = refl
truth_begins false = refl

unary_begins : (op : UnaryOp) → begins_operator (unary_sign op) ≡ true
unary_begins unary.Plus = refl
unary_begins _ = refl

unary_plain : (op : UnaryOp) → 13 ≤ unary_level op → begins_plain_operator (unary_sign op) ≡ true
unary_plain unary.Plus h = absurd (omega arith)
unary_plain unary.Minus h = absurd (omega arith)
unary_plain unary.Not h = refl
unary_plain unary.Complement h = refl

node_begins : (Part : Expr → ℕ → List Lexeme → List Lexeme → Type 0)
    → ((e : Expr) (l : ℕ) (xs rest : List Lexeme) → Part e l xs rest → Begins l xs)
    → (f : Layer) (l : ℕ) (xs rest : List Lexeme) → l ≤ level f → Node Part f xs rest → Begins l xs
node_begins Part ih (Expr-F.Number at n) l xs rest low w = record { first = _; more = _; is = w; any = refl; plain = λ _. refl }
node_begins Part ih (Expr-F.Text at x) l xs rest low w = record { first = _; more = _; is = w; any = refl; plain = λ _. refl }
node_begins Part ih (Expr-F.Bool at b) l xs rest low w = record { first = _; more = _; is = w; any = truth_begins b; plain = λ _. truth_begins b }
node_begins Part ih (Expr-F.Null at) l xs rest low w = record { first = _; more = _; is = w; any = refl; plain = λ _. refl }
node_begins Part ih (Expr-F.This at) l xs rest low w = record { first = _; more = _; is = w; any = refl; plain = λ _. refl }
node_begins Part ih (Expr-F.Name x) l xs rest low w = record { first = _; more = _; is = w; any = refl; plain = λ _. refl }
node_begins Part ih (Expr-F.Call x given) l xs rest low w = record { first = _; more = _; is = w.1; any = refl; plain = λ _. refl }
node_begins Part ih (Expr-F.Paren at a) l xs rest low w = record { first = _; more = _; is = w.1; any = refl; plain = λ _. refl }
node_begins Part ih (Expr-F.Super at x given) l xs rest low w = record { first = _; more = _; is = w.1; any = refl; plain = λ _. refl }
node_begins Part ih (Expr-F.New at x given) l xs rest low w = record { first = _; more = _; is = w.1; any = refl; plain = λ _. refl }
node_begins Part ih (Expr-F.NewArray at b size n) l xs rest low w = record { first = _; more = _; is = w.1; any = refl; plain = λ _. refl }
node_begins Part ih (Expr-F.Field a x) l xs rest low w = as_left l 14 xs (λ h. omega arith) (ih a 14 xs w.0 w.1)
node_begins Part ih (Expr-F.Method a x given) l xs rest low w = as_left l 14 xs (λ h. omega arith) (ih a 14 xs w.0 w.1)
node_begins Part ih (Expr-F.Element a i) l xs rest low w = as_left l 14 xs (λ h. omega arith) (ih a 14 xs w.0 w.1)
node_begins Part ih (Expr-F.Unary at op a) l xs rest low w =
    record { first = _; more = _; is = w.1; any = unary_begins op; plain = λ h. unary_plain op (omega arith) }
node_begins Part ih (Expr-F.Cast at t a) l xs rest low w = record { first = _; more = _; is = w.1; any = refl; plain = λ _. refl }
node_begins Part ih (Expr-F.Binary op a b) l xs rest low w = as_left l _ xs (λ h. absurd (omega (arith, (binary_range op).1))) (ih a _ xs w.0 w.1)
node_begins Part ih (Expr-F.InstanceOf a t) l xs rest low w = as_left l 8 xs (λ h. absurd (omega arith)) (ih a 8 xs w.0 w.1)
node_begins Part ih (Expr-F.Conditional c a b) l xs rest low w = as_left l 2 xs (λ h. absurd (omega arith)) (ih c 2 xs w.0 w.1)

pub within_begins : (n : ℕ) (e : Expr) (l : ℕ) (xs rest : List Lexeme) → Within n e l xs rest → Begins l xs
unfolding Within
within_begins zero e l xs rest w = absurd w
within_begins (suc n) e l xs rest w = node_begins (Within n) (within_begins n) (out-Expr e) l xs rest w.0 w.1

-- ---- what it doesn't begin with

other_operator : (s : Operator) → begins_operator s ≡ true → (same_operator s o.RightParen ≡ false) × (same_operator s o.RightBracket ≡ false)
unfolding same_operator
other_operator o.RightParen h = absurd (cc)
other_operator o.RightBracket h = absurd (cc)
other_operator _ h = (refl, refl)

other_kind : (kd : TokenKind) → begins kd ≡ true → (is_operator o.RightParen kd ≡ false) × (is_operator o.RightBracket kd ≡ false)
other_kind (k.Op s) h = other_operator s h
other_kind _ h = (refl, refl)

pub no_close : (l : ℕ) (xs : List Lexeme) → Begins l xs → sees o.RightParen xs ≡ false
no_close l xs s = rw s.is (other_kind s.first.kind s.any).0

pub no_bracket : (l : ℕ) (xs : List Lexeme) → Begins l xs → sees o.RightBracket xs ≡ false
no_bracket l xs s = rw s.is (other_kind s.first.kind s.any).1

truth_no_super : (b : Bool) → same_keyword (truth b) w.Super ≡ false
unfolding same_keyword
truth_no_super true = refl
truth_no_super false = refl

node_super : (Part : Expr → ℕ → List Lexeme → List Lexeme → Type 0)
    → ((e : Expr) (l : ℕ) (xs rest : List Lexeme) → Part e l xs rest → is_super_call xs ≡ false)
    → (f : Layer) (xs rest : List Lexeme) → Node Part f xs rest → is_super_call xs ≡ false
unfolding same_keyword same_operator
node_super Part ih (Expr-F.Number at n) xs rest w = rw w refl
node_super Part ih (Expr-F.Text at x) xs rest w = rw w refl
node_super Part ih (Expr-F.Bool at b) xs rest w = rw (w, truth_no_super b) refl
node_super Part ih (Expr-F.Null at) xs rest w = rw w refl
node_super Part ih (Expr-F.This at) xs rest w = rw w refl
node_super Part ih (Expr-F.Name x) xs rest w = rw w refl
node_super Part ih (Expr-F.Call x given) xs rest w = rw w.1 refl
node_super Part ih (Expr-F.Paren at a) xs rest w = rw w.1 refl
node_super Part ih (Expr-F.Super at x given) xs rest w = rw (w.1, w.3.1) refl
node_super Part ih (Expr-F.New at x given) xs rest w = rw w.1 refl
node_super Part ih (Expr-F.NewArray at b size n) xs rest w = rw w.1 refl
node_super Part ih (Expr-F.Field a x) xs rest w = ih a 14 xs w.0 w.1
node_super Part ih (Expr-F.Method a x given) xs rest w = ih a 14 xs w.0 w.1
node_super Part ih (Expr-F.Element a i) xs rest w = ih a 14 xs w.0 w.1
node_super Part ih (Expr-F.Unary at op a) xs rest w = rw w.1 refl
node_super Part ih (Expr-F.Cast at t a) xs rest w = rw w.1 refl
node_super Part ih (Expr-F.Binary op a b) xs rest w = ih a _ xs w.0 w.1
node_super Part ih (Expr-F.InstanceOf a t) xs rest w = ih a 8 xs w.0 w.1
node_super Part ih (Expr-F.Conditional c a b) xs rest w = ih c 2 xs w.0 w.1

pub no_super_call : (n : ℕ) (e : Expr) (l : ℕ) (xs rest : List Lexeme) → Within n e l xs rest → is_super_call xs ≡ false
unfolding Within
no_super_call zero e l xs rest w = absurd w
no_super_call (suc n) e l xs rest w = node_super (Within n) (no_super_call n) (out-Expr e) xs rest w.1
