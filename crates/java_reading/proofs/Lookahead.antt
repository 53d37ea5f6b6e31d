-- No expression begins as a declaration does: with `int` or `boolean`, two names, or a name and a pair of brackets.
use Rattle.std.proofs.Common.{◌≡◌, ℕ, zero, suc, List, Bool, true, false, refl}
use Rattle.java_tokens.specs.declared.token.TokenKind.TheVariants as k
use Rattle.java_syntax.specs.declared.operator.BinaryOp.{BinaryOp}
use Rattle.java_syntax.specs.declared.operator.BinaryOp.TheVariants as binary
use Rattle.java_syntax.specs.declared.expression.Expr.{Expr, out-Expr}
use Rattle.java_syntax.specs.declared.expression.Expr.TheOpen.{Expr-F}
use Rattle.token_reading.specs.Lexeme.{Lexeme}
use Rattle.java_syntax.specs.Exprs.{Layer, binary_sign, truth, Node, Within}
use Rattle.java_reading.proofs.Begins.{Begins, within_begins, no_bracket}
use Rattle.java_reading.specs.Lookahead.{declares_by, declares, local_by, is_local}

sign_declares : (op : BinaryOp) (xs : List Lexeme) → declares_by (k.Op (binary_sign op)) xs ≡ false
sign_declares binary.Or xs = refl
sign_declares _ xs = refl

truth_local : (b : Bool) (xs : List Lexeme) → local_by (k.Word (truth b)) xs ≡ false
truth_local true xs = refl
truth_local false xs = refl

node_local : (Part : Expr → ℕ → List Lexeme → List Lexeme → Type 0)
    → ((e : Expr) (l : ℕ) (xs rest : List Lexeme) → Part e l xs rest → Begins l xs)
    → ((e : Expr) (l : ℕ) (xs rest : List Lexeme) → declares rest ≡ false → Part e l xs rest → is_local xs ≡ false)
    → (f : Layer) (xs rest : List Lexeme) → declares rest ≡ false → Node Part f xs rest → is_local xs ≡ false
node_local Part b ih (Expr-F.Number at n) xs rest h w = rw w refl
node_local Part b ih (Expr-F.Text at x) xs rest h w = rw w refl
node_local Part b ih (Expr-F.Bool at v) xs rest h w = rw w (truth_local v rest)
node_local Part b ih (Expr-F.Null at) xs rest h w = rw w refl
node_local Part b ih (Expr-F.This at) xs rest h w = rw w refl
node_local Part b ih (Expr-F.Name x) xs rest h w = rw w h
node_local Part b ih (Expr-F.Call x given) xs rest h w = rw (w.1, w.3.1) refl
node_local Part b ih (Expr-F.Paren at a) xs rest h w = rw w.1 refl
node_local Part b ih (Expr-F.Super at x given) xs rest h w = rw w.1 refl
node_local Part b ih (Expr-F.New at x given) xs rest h w = rw w.1 refl
node_local Part b ih (Expr-F.NewArray at base size n) xs rest h w = rw w.1 refl
node_local Part b ih (Expr-F.Field a x) xs rest h w = ih a 14 xs w.0 (rw w.3.1 refl) w.1
node_local Part b ih (Expr-F.Method a x given) xs rest h w = ih a 14 xs w.0 (rw w.3.1 refl) w.1
node_local Part b ih (Expr-F.Element a i) xs rest h w = ih a 14 xs w.0 (rw w.3.1 (no_bracket 1 w.2 (b i 1 w.2 w.4 w.5))) w.1
node_local Part b ih (Expr-F.Unary at op a) xs rest h w = rw w.1 refl
node_local Part b ih (Expr-F.Cast at t a) xs rest h w = rw w.1 refl
node_local Part b ih (Expr-F.Binary op a c) xs rest h w = ih a _ xs w.0 (rw w.3.1 (sign_declares op w.2)) w.1
node_local Part b ih (Expr-F.InstanceOf a t) xs rest h w = ih a 8 xs w.0 (rw w.3.1 refl) w.1
node_local Part b ih (Expr-F.Conditional c x y) xs rest h w = ih c 2 xs w.0 (rw w.3.1 refl) w.1

-- an expression before a token that declares nothing, as `;` or `=`
pub no_local : (n : ℕ) (e : Expr) (l : ℕ) (xs rest : List Lexeme) → declares rest ≡ false → Within n e l xs rest → is_local xs ≡ false
unfolding Within
no_local zero e l xs rest h w = absurd w
no_local (suc n) e l xs rest h w = node_local (Within n) (within_begins n) (no_local n) (out-Expr e) xs rest h w.1
