-- Arguments that are read are written.
use Rattle.std.proofs.Common.{◌≡◌, ℕ, zero, suc, ◌+◌, ◌≤◌, ◌<◌, max, if◌then◌else◌, List, [], ◌∷◌, ◌++◌, length, Bool, true, false, Ok, Err, refl, sym, ◌∙◌, subst, arith, append_assoc}
use Rattle.java_tokens.specs.declared.token.Operator.TheVariants as o
use Rattle.java_tokens.specs.declared.token.TokenKind.TheVariants as k
use Rattle.java_syntax.specs.declared.expression.Expr.{Expr}
use Rattle.token_reading.specs.Lexeme.{Lexeme, Then, sees}
use Rattle.java_syntax.specs.Exprs.{Args, MoreArgs, Within}
use Rattle.token_reading.specs.Outcome.{no_tree, too_high, Outcome, Parser, ◌>>=◌}
use Rattle.token_reading.specs.ReadType.{next, expect}
use Rattle.java_reading.specs.ReadExpr.{Tall, Talls, more_args, args}
use Rattle.token_reading.proofs.Lexemes.{then_length, from_sees, Expected, expected}
use Rattle.java_reading.proofs.Growing.{grown}
use Rattle.java_reading.proofs.Claims.{Written, Sound, ArgsSound}

-- arguments after those that were found, of which the highest has the height `high`
abbrev MoreSound : ℕ → List Expr → ℕ → List Lexeme → Outcome Talls → Type 0
MoreSound b found high xs (Ok p) =
    (a : Expr) × (more : List Expr) × (p.0.0 ≡ found ++ a ∷ more) × (ys : List Lexeme) × Within p.0.1 a 1 xs ys × MoreArgs (Within p.0.1) more ys p.1
    × (high ≤ p.0.1) × (p.0.1 ≤ b) × (p.0.1 + length p.1 < high + length xs)
MoreSound b found high xs (Err too_high) = b < length xs
MoreSound b found high xs (Err no_tree) = Unit {0}

module _ (b : ℕ) (part : ℕ → Parser Tall) (sound : (l : ℕ) (xs : List Lexeme) → 1 ≤ l → l ≤ 13 → Sound b l xs (part l xs)) where
  last_by : (found : List Expr) (high : ℕ) (xs ys : List Lexeme) (a : Tall) → high ≤ b → Written b 1 xs a ys → (r : Outcome (Unit {0})) → Expected o.RightParen ys r
      → MoreSound b found high xs (r >>= (λ _ zs. Ok ((found ++ a.0 ∷ [], max high a.1), zs)))
  last_by found high xs ys a hb w (Ok p) t = (
    a.0,
    [],
    refl,
    ys,
    grown a.1 (max high a.1) (omega arith) a.0 1 xs ys w.tree,
    t,
    omega arith,
    omega (arith, w.low),
    omega (arith, w.taken, then_length _ ys p.1 t),
  )
  last_by found high xs ys a hb w (Err no_tree) t = tt
  last_by found high xs ys a hb w (Err too_high) t = absurd t

  more_by : (found : List Expr) (high : ℕ) (xs ys zs : List Lexeme) (a : Tall) → Written b 1 xs a ys → Then (k.Op o.Comma) ys zs → (r : Outcome Talls)
      → MoreSound b (found ++ a.0 ∷ []) (max high a.1) zs r → MoreSound b found high xs r
  more_by found high xs ys zs a w t (Ok p) s = (
    a.0,
    s.0 ∷ s.1,
    s.2 ∙ append_assoc found (a.0 ∷ []) (s.0 ∷ s.1),
    ys,
    grown a.1 p.0.1 (omega (arith, s.6)) a.0 1 xs ys w.tree,
    (zs, t, s.3, s.4, s.5),
    omega (arith, s.6),
    s.7,
    omega (arith, s.8, w.taken, then_length _ ys zs t),
  )
  more_by found high xs ys zs a w t (Err no_tree) s = tt
  more_by found high xs ys zs a w t (Err too_high) s = omega (arith, w.taken, then_length _ ys zs t)

  more_test : (n : ℕ) → ((found : List Expr) (high : ℕ) (xs : List Lexeme) → high ≤ b → MoreSound b found high xs (more_args part n found high xs))
      → (found : List Expr) (high : ℕ) (xs ys : List Lexeme) (a : Tall) → high ≤ b → Written b 1 xs a ys → (t : Bool) → sees o.Comma ys ≡ t
      → MoreSound b found high xs (if t then more_args part n (found ++ a.0 ∷ []) (max high a.1) (next ys)
      else (expect o.RightParen ys >>= (λ _ zs. Ok ((found ++ a.0 ∷ [], max high a.1), zs))))
  more_test n ih found high xs ys a hb w true t =
      more_by found high xs ys (next ys) a w (from_sees o.Comma ys t) (more_args part n (found ++ a.0 ∷ []) (max high a.1) (next ys))
      (ih (found ++ a.0 ∷ []) (max high a.1) (next ys) (omega (arith, w.low)))
  more_test n ih found high xs ys a hb w false t = last_by found high xs ys a hb w (expect o.RightParen ys) (expected o.RightParen ys)

  more_first : (n : ℕ) → ((found : List Expr) (high : ℕ) (xs : List Lexeme) → high ≤ b → MoreSound b found high xs (more_args part n found high xs))
      → (found : List Expr) (high : ℕ) (xs : List Lexeme) → high ≤ b → (r : Outcome Tall) → Sound b 1 xs r
      → MoreSound b found high xs (r >>= (λ a ys. if sees o.Comma ys then more_args part n (found ++ a.0 ∷ []) (max high a.1) (next ys)
      else (expect o.RightParen ys >>= (λ _ zs. Ok ((found ++ a.0 ∷ [], max high a.1), zs)))))
  more_first n ih found high xs hb (Ok p) s = more_test n ih found high xs p.1 p.0 hb s.0 (sees o.Comma p.1) refl
  more_first n ih found high xs hb (Err no_tree) s = tt
  more_first n ih found high xs hb (Err too_high) s = s

  more_sound : (n : ℕ) (found : List Expr) (high : ℕ) (xs : List Lexeme) → high ≤ b → MoreSound b found high xs (more_args part n found high xs)
  unfolding more_args
  more_sound zero found high xs hb = tt
  more_sound (suc n) found high xs hb = more_first n (more_sound n) found high xs hb (part 1 xs) (sound 1 xs (omega arith) (omega arith))

  args_by : (xs : List Lexeme) (r : Outcome Talls) → MoreSound b [] 0 xs r → ArgsSound b xs r
  args_by xs (Ok p) s =
      let P : List Expr → Type 0 = λ given. Args (Within p.0.1) given xs p.1 in
      (subst P (sym s.2) (s.3, s.4, s.5), s.7, omega (arith, s.8))
  args_by xs (Err no_tree) s = tt
  args_by xs (Err too_high) s = s

  args_test : (xs : List Lexeme) (t : Bool) → sees o.RightParen xs ≡ t
      → ArgsSound b xs (if t then Ok (([], 0), next xs) else more_args part (length xs) [] 0 xs)
  args_test xs true t = (from_sees o.RightParen xs t, omega arith, omega (arith, then_length _ xs (next xs) (from_sees o.RightParen xs t)))
  args_test xs false t = args_by xs (more_args part (length xs) [] 0 xs) (more_sound (length xs) [] 0 xs (omega arith))

  pub args_sound : (xs : List Lexeme) → ArgsSound b xs (args part xs)
  unfolding args
  args_sound xs = args_test xs (sees o.RightParen xs) refl
