-- Readers one after the other: what they find, and what they give.
use Rattle.std.proofs.Common.{◌≡◌, ℕ, suc, ◌≤◌, ◌<◌, nat_lt, List, Bool, true, false, if◌then◌else◌, Ok, Err, refl, arith}
use Rattle.token_reading.specs.Lexeme.{Lexeme}
use Rattle.token_reading.specs.Outcome.{no_tree, too_high, Outcome, Parser, ◌>>=◌}
use Rattle.token_reading.proofs.Tests.{from_below}
use Rattle.token_reading.proofs.Lexemes.{Limited}

-- ---- what they find

-- What is written with height n is found with the budget b, or it is higher than that.
pub data Or {A : Type 0} (n b : ℕ) (o good : Outcome A) : Type 0 where
  found : o ≡ good → Or n b o good
  higher : b < n → o ≡ Err too_high → Or n b o good

pub or_then : {A B : Type 0} {n b : ℕ} {o : Outcome A} {a : A} {ys : List Lexeme} (f : A → Parser B) {good : Outcome B}
    → Or n b o (Ok (a, ys)) → Or n b (f a ys) good → Or n b (o >>= f) good
or_then f (found r) (found t) = found (rw (r, t) refl)
or_then f (found r) (higher h t) = higher h (rw (r, t) refl)
or_then f (higher h r) w = higher h (rw r refl)

pub raise : {A : Type 0} {n b : ℕ} {o good : Outcome A} → Or n b o good → Or (suc n) (suc b) o good
raise (found r) = found r
raise (higher h r) = higher (omega arith) r

-- a test of a height
pub limit_or : {A : Type 0} (n b h : ℕ) (good : Outcome A) (t : Bool) → nat_lt b h ≡ t → h ≤ n
    → Or n b (if t then Err too_high else good) good
limit_or n b h good true t low = higher (omega (arith, from_below b h t)) refl
limit_or n b h good false t low = found refl

-- ---- what they give

-- The value and the rest are as P says, and only higher trees are there where H holds.
pub data Gives {A : Type 0} (P : A → List Lexeme → Type 0) (H : Type 0) : Outcome A → Type 0 where
  gives : (a : A) (ys : List Lexeme) → P a ys → Gives P H (Ok (a, ys))
  gives_none : Gives P H (Err no_tree)
  gives_high : H → Gives P H (Err too_high)

pub gives_then : {A B : Type 0} {P : A → List Lexeme → Type 0} {Q : B → List Lexeme → Type 0} {H H' : Type 0}
    {o : Outcome A} {f : A → Parser B}
    → Gives P H o → (H → H') → ((a : A) (ys : List Lexeme) → P a ys → Gives Q H' (f a ys)) → Gives Q H' (o >>= f)
gives_then (gives a ys w) up k = k a ys w
gives_then gives_none up k = gives_none
gives_then (gives_high h) up k = gives_high (up h)

pub gives_map : {A : Type 0} {P Q : A → List Lexeme → Type 0} {H H' : Type 0} {o : Outcome A}
    → ((a : A) (ys : List Lexeme) → P a ys → Q a ys) → (H → H') → Gives P H o → Gives Q H' o
gives_map map up (gives a ys w) = gives a ys (map a ys w)
gives_map map up gives_none = gives_none
gives_map map up (gives_high h) = gives_high (up h)

-- a test, with what its outcome says
pub gives_if : {A : Type 0} {P : A → List Lexeme → Type 0} {H : Type 0} (t : Bool) {x y : Outcome A}
    → (t ≡ true → Gives P H x) → (t ≡ false → Gives P H y) → Gives P H (if t then x else y)
gives_if true yes_ no_ = yes_ refl
gives_if false yes_ no_ = no_ refl

-- the same of readers of tokens and types
pub limited : {A : Type 0} (R : A → List Lexeme → List Lexeme → Type 0) (H : Type 0) (xs : List Lexeme) (o : Outcome A)
    → Limited R H xs o
    → Gives (λ a ys. R a xs ys) H o
limited R H xs (Ok p) w = gives p.0 p.1 w
limited R H xs (Err no_tree) w = gives_none
limited R H xs (Err too_high) w = gives_high w
