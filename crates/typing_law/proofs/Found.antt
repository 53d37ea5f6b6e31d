-- What is found in lists and options.
use Rattle.std.proofs.Common.{◌≡◌, ◌∙◌, ℕ, zero, suc, ◌+◌, ◌<◌, Bool, true, false, List, [], ◌∷◌, length, Option, Some, None, is_some, slice_get, find, refl, ap, arith, if◌then◌else◌, not, IsTrue, ◌==◌, ◌||◌, sym}
use Rattle.std.specs.List.{range_with_len, list_any}
use Rattle.std.proofs.lemmas.Option.{none-some, same_Some}
use Rattle.std.proofs.lemmas.Bool.{false≢true, or_left, or_right, eqb-true}

pub some_of : {X : Type 0} (found : Option X) → is_some found ≡ true → (x : X) × (found ≡ Some x)
some_of None is = absurd (false≢true is)
some_of (Some x) is = (x, refl)

none_below : (k : ℕ) → k < 0 → ⊥
none_below k below = omega arith

-- below a list's length something stands
pub some_within : {X : Type 0} (xs : List X) (k : ℕ) → k < length xs → (x : X) × (slice_get xs k ≡ Some x)
some_within [] k below = absurd (none_below k below)
some_within (x ∷ xs) zero below = (x, refl)
some_within (x ∷ xs) (suc k) below = some_within xs k (omega arith)

-- where an item passes a test, one is found by it
pub find_there : {X : Type 0} (test : X → Bool) (xs : List X) (k : ℕ) (x : X) → slice_get xs k ≡ Some x → test x ≡ true → (y : X) × (find test xs ≡ Some y)
find_there test [] k x is holds = absurd (none-some x is)
find_there test (y ∷ xs) zero x is holds = (y, ap (λ b. if b then Some y else find test xs) (ap test (same_Some y x is) ∙ holds))
find_there test (y ∷ xs) (suc k) x is holds = cases (find_there test xs k x is holds) (test y)
  where
    cases : (z : _) × (find test xs ≡ Some z) → (b : Bool) → (z : _) × ((if b then Some y else find test xs) ≡ Some z)
    cases there true = (y, refl)
    cases there false = there

pub empty_of_length : {X : Type 0} (xs : List X) → length xs ≡ 0 → xs ≡ []
empty_of_length [] is = refl
empty_of_length (x ∷ xs) is = absurd (omega arith)

pub numbers_shift : (n k : ℕ) → suc n + k ≡ n + suc k
numbers_shift n k = omega arith

pub numbers_one : (n k : ℕ) → n + 1 + k ≡ n + suc k
numbers_one n k = omega arith

pub no_length : (n : ℕ) → ◌≡◌ {A = ℕ} 0 (suc n) → ⊥
no_length n e = omega arith

-- a number that isn't below 18, the number of built-in classes
pub too_great : (c : ℕ) {Q : Type 0} → suc (suc (suc (suc (suc (suc (suc (suc (suc (suc (suc (suc (suc (suc (suc (suc (suc (suc c))))))))))))))))) < 18 → Q
too_great c below = absurd (omega arith)

pub range_at : (a n k : ℕ) → k < n → slice_get (range_with_len a n) k ≡ Some (a + k)
range_at a zero k below = absurd (none_below k below)
range_at a (suc n) zero below = let e : a ≡ a + 0 = omega arith in ap Some e
range_at a (suc n) (suc k) below = range_at (a + 1) n k (omega arith) ∙ ap Some (numbers_one a k)

pub not_false : (b : Bool) → not b ≡ false → b ≡ true
not_false true is = refl
not_false false is = absurd (false≢true (sym is))

-- a test passes of some number of a list where it passes of one that is in the list
pub any_of : (test : ℕ → Bool) (xs : List ℕ) (e : ℕ) → IsTrue (list_any (λ a. a == e) xs) → test e ≡ true → list_any test xs ≡ true
any_of test [] e is passes = absurd (false≢true is)
any_of test (x ∷ xs) e is passes = cases (any_of test xs e) (x == e) refl is
  where
    cases : (IsTrue (list_any (λ a. a == e) xs) → test e ≡ true → list_any test xs ≡ true) → (b : Bool) → (x == e) ≡ b → IsTrue (b || list_any (λ a. a == e) xs) → list_any test (x ∷ xs) ≡ true
    cases more true same is = or_left (test x) (list_any test xs) (ap test (eqb-true x e same) ∙ passes)
    cases more false other is = or_right (test x) (list_any test xs) (more is passes)
