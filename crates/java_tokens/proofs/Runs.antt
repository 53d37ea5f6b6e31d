-- A list is the run of elements in front that pass a test, and what stands after them.
use Rattle.std.proofs.Common.{◌≡◌, ℕ, ◌+◌, suc, Bool, true, false, List, [], ◌∷◌, length, take, drop, refl, subst, arith}
use Rattle.std.specs.List.{list_all, prefix_len}
use Rattle.std.proofs.lemmas.Bool.{and_parts, and_from, cond_both}
use Rattle.java_tokens.specs.Characters.{first_passes}

-- the run passes
pub list_all-run : (p : ℕ → Bool) (xs : List ℕ) → list_all p (take (prefix_len p xs) xs) ≡ true
list_all-run p [] = refl
list_all-run p (x ∷ xs) =
    cond_both (p x) (1 + prefix_len p xs) 0 (λ n. list_all p (take n (x ∷ xs)) ≡ true)
    (λ passes. let one_more : suc (prefix_len p xs) ≡ 1 + prefix_len p xs = omega arith in
    subst (λ n. list_all p (take n (x ∷ xs)) ≡ true) one_more (and_from (p x) _ passes (list_all-run p xs)))
    (λ _. refl)

-- what stands after the run fails
pub first_passes-behind : (p : ℕ → Bool) (xs : List ℕ) → first_passes p (drop (prefix_len p xs) xs) ≡ false
first_passes-behind p [] = refl
first_passes-behind p (x ∷ xs) =
    cond_both (p x) (1 + prefix_len p xs) 0 (λ n. first_passes p (drop n (x ∷ xs)) ≡ false)
    (λ passes. let one_more : suc (prefix_len p xs) ≡ 1 + prefix_len p xs = omega arith in
    subst (λ n. first_passes p (drop n (x ∷ xs)) ≡ false) one_more (first_passes-behind p xs))
    (λ fails. fails)

-- a test that follows from another
pub list_all-weaker : (p q : ℕ → Bool) → ((c : ℕ) → p c ≡ true → q c ≡ true) → (xs : List ℕ) → list_all p xs ≡ true → list_all q xs ≡ true
list_all-weaker p q weaker [] passes = refl
list_all-weaker p q weaker (x ∷ xs) passes =
    let both = and_parts (p x) (list_all p xs) passes in
    and_from (q x) (list_all q xs) (weaker x both.0) (list_all-weaker p q weaker xs both.1)

-- a list that passes throughout and doesn't begin with what passes is empty
pub no_run : (p : ℕ → Bool) (xs : List ℕ) → list_all p xs ≡ true → first_passes p xs ≡ false → length xs ≡ 0
no_run p [] passes fails = refl
no_run p (x ∷ xs) passes fails = let first = (and_parts (p x) (list_all p xs) passes).0 in absurd (cc)
