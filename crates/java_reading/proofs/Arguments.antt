-- Lists of arguments are read.
use Rattle.std.proofs.Common.{◌≡◌, ℕ, zero, suc, ◌≤◌, ◌<◌, max, List, [], ◌∷◌, ◌++◌, length, false, Ok, Err, refl, arith, append_assoc}
use Rattle.java_tokens.specs.declared.token.Operator.TheVariants as o
use Rattle.java_tokens.specs.declared.token.TokenKind.TheVariants as k
use Rattle.java_syntax.specs.declared.expression.Expr.{Expr}
use Rattle.token_reading.specs.Lexeme.{Lexeme, lexeme, Then, same_operator, sees}
use Rattle.java_syntax.specs.Exprs.{Args, MoreArgs, Within}
use Rattle.token_reading.specs.Outcome.{too_high, Outcome}
use Rattle.java_reading.specs.ReadExpr.{Talls, follows, more_args, args, reading}
use Rattle.token_reading.proofs.Lexemes.{sees_it, expect_it}
use Rattle.java_reading.proofs.Claims.{Done, done, over, ArgsDone, args_done, args_over}
use Rattle.java_reading.proofs.Begins.{within_begins, no_close}
use Rattle.java_reading.proofs.Shorter.{within_length, more_length}

-- a tree of height n or less that is written is found, or higher than the budget
abbrev pub Finds : ℕ → Type 0
Finds n = (b : ℕ) (e : Expr) (l : ℕ) (xs rest : List Lexeme) → Within n e l xs rest → 1 ≤ l → l ≤ 13 → follows rest < l → Done n b l e xs rest

data Collects (n b : ℕ) (r : Outcome Talls) (all : List Expr) (rest : List Lexeme) : Type 0 where
  collects : (h : ℕ) → h ≤ n → h ≤ b → r ≡ Ok ((all, h), rest) → Collects n b r all rest
  passes : b < n → r ≡ Err too_high → Collects n b r all rest

comma_ends : (at : ℕ) (xs : List Lexeme) → follows (lexeme at (k.Op o.Comma) ∷ xs) < 1
comma_ends at xs = omega arith

paren_ends : (at : ℕ) (xs : List Lexeme) → follows (lexeme at (k.Op o.RightParen) ∷ xs) < 1
paren_ends at xs = omega arith

paren_no_comma : (at : ℕ) (xs : List Lexeme) → sees o.Comma (lexeme at (k.Op o.RightParen) ∷ xs) ≡ false
unfolding same_operator
paren_no_comma at xs = refl

last_arg : (n b fuel : ℕ) (found : List Expr) (high : ℕ) (a : Expr) (xs ys rest : List Lexeme) → high ≤ n → high ≤ b
    → Done n b 1 a xs ys → Then (k.Op o.RightParen) ys rest → Collects n b (more_args (reading b) (suc fuel) found high xs) (found ++ a ∷ []) rest
unfolding more_args
last_arg n b fuel found high a xs ys rest hn hb (done h hn' hb' r) t =
    collects (max high h) (omega arith) (omega arith) (rw (r, t.1, paren_no_comma t.0 rest, expect_it o.RightParen t.0 rest) refl)
last_arg n b fuel found high a xs ys rest hn hb (over hn' r) t = passes hn' (rw r refl)

next_arg : (n b fuel : ℕ) (found : List Expr) (high : ℕ) (a : Expr) (all : List Expr) (xs ys zs rest : List Lexeme) → high ≤ n → high ≤ b
    → Done n b 1 a xs ys → Then (k.Op o.Comma) ys zs
    → ((high : ℕ) → high ≤ n → high ≤ b → Collects n b (more_args (reading b) fuel (found ++ a ∷ []) high zs) all rest)
    → Collects n b (more_args (reading b) (suc fuel) found high xs) all rest
unfolding more_args
next_arg n b fuel found high a all xs ys zs rest hn hb (done h hn' hb' r) t go =
    elim (go (max high h) (omega arith) (omega arith)) [
      | collects h2 hn2 hb2 r2 ↦ collects h2 hn2 hb2 (rw (r, t.1, sees_it o.Comma t.0 zs, r2) refl)
      | passes hn2 r2 ↦ passes hn2 (rw (r, t.1, sees_it o.Comma t.0 zs, r2) refl)
    ]
next_arg n b fuel found high a all xs ys zs rest hn hb (over hn' r) t go = passes hn' (rw r refl)

more_collects : (n b : ℕ) → Finds n → (more : List Expr) (fuel : ℕ) (found : List Expr) (high : ℕ) (a : Expr) (xs ys rest : List Lexeme)
    → high ≤ n → high ≤ b → length more < fuel → Within n a 1 xs ys → MoreArgs (Within n) more ys rest
    → Collects n b (more_args (reading b) fuel found high xs) (found ++ a ∷ more) rest
more_collects n b finds more zero found high a xs ys rest hn hb hf w ws = absurd (omega arith)
more_collects n b finds [] (suc fuel) found high a xs ys rest hn hb hf w ws =
    last_arg n b fuel found high a xs ys rest hn hb (finds b a 1 xs ys w (omega arith) (omega arith) (rw ws.1 (paren_ends ws.0 rest))) ws
more_collects n b finds (a' ∷ more) (suc fuel) found high a xs ys rest hn hb hf w ws =
    next_arg n b fuel found high a (found ++ a ∷ a' ∷ more) xs ys ws.0 rest hn hb
    (finds b a 1 xs ys w (omega arith) (omega arith) (rw ws.1.1 (comma_ends ws.1.0 ws.0))) ws.1
    (λ high hn hb. let h = more_collects n b finds more fuel (found ++ a ∷ []) high a' ws.0 ws.2 rest hn hb (omega arith) ws.3 ws.4 in
    rw append_assoc at h)

first_args : (n b : ℕ) (a : Expr) (more : List Expr) (xs rest : List Lexeme) → sees o.RightParen xs ≡ false
    → Collects n b (more_args (reading b) (length xs) [] 0 xs) (a ∷ more) rest → ArgsDone n b (a ∷ more) xs rest
unfolding args
first_args n b a more xs rest shut (collects h hn hb r) = args_done h hn hb (rw (shut, r) refl)
first_args n b a more xs rest shut (passes hn r) = args_over hn (rw (shut, r) refl)

pub args_goes : (n b : ℕ) → Finds n → (given : List Expr) (xs rest : List Lexeme) → Args (Within n) given xs rest → ArgsDone n b given xs rest
unfolding args
args_goes n b finds [] xs rest t = args_done 0 (omega arith) (omega arith) (rw (t.1, sees_it o.RightParen t.0 rest) refl)
args_goes n b finds (a ∷ more) xs rest w =
    first_args n b a more xs rest (no_close 1 xs (within_begins n a 1 xs w.0 w.1))
    (more_collects n b finds more (length xs) [] 0 a xs w.0 rest (omega arith) (omega arith)
    (omega (arith, within_length n a 1 xs w.0 w.1, more_length (Within n) (within_length n) more w.0 rest w.2)) w.1 w.2)
