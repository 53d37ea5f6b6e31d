-- Where a comment ends.
use Rattle.std.proofs.Common.{◌≡◌, ◌≢◌, ℕ, ◌+◌, suc, Bool, true, false, ◌||◌, List, [], ◌∷◌, ◌++◌, get_or, refl, ap, ◌∙◌, arith}
use Rattle.std.proofs.lemmas.Bool.{or_right}
use Rattle.std.proofs.lemmas.Bool.Decides.{nat_tests}
use Rattle.java_tokens.specs.Reading.{begins_pair}

-- somewhere stands `*/`
abbrev pub has_end : List ℕ → Bool
has_end [] = false
has_end (c ∷ cs) = begins_pair 42 47 (c ∷ cs) || has_end cs

-- what begins with two characters has them at its first places
pub begins_pair-reads : (a b : ℕ) (xs : List ℕ) → begins_pair a b xs ≡ true → (get_or xs 0 0 ≡ a) × (get_or xs 1 0 ≡ b)
begins_pair-reads a b [] begins = absurd (cc)
begins_pair-reads a b (c ∷ []) begins = absurd (grind (arith, nat_tests))
begins_pair-reads a b (c ∷ d ∷ cs) begins = (grind (arith, nat_tests), grind (arith, nat_tests))

pub has_end-none : (body : List ℕ) → ((i : ℕ) → get_or body i 0 ≡ 42 → get_or body (i + 1) 0 ≢ 47) → has_end body ≡ false
has_end-none [] none = refl
has_end-none (c ∷ cs) none =
    let one : (i : ℕ) → get_or (c ∷ cs) (i + 1) 0 ≡ get_or cs i 0 = (λ i. let up : i + 1 ≡ suc i = omega arith in ap (λ j. get_or (c ∷ cs) j 0) up) in
    let more = has_end-none cs (λ i star slash. none (i + 1) (one i ∙ star) (one (i + 1) ∙ slash)) in
    by_test (begins_pair 42 47 (c ∷ cs)) refl more where
      by_test : (b : Bool) → begins_pair 42 47 (c ∷ cs) ≡ b → has_end cs ≡ false → has_end (c ∷ cs) ≡ false
      by_test false is more = rw is more
      by_test true is more = let reads = begins_pair-reads 42 47 (c ∷ cs) is in absurd (none 0 reads.0 reads.1)

pub has_end-here : (body more : List ℕ) → has_end (body ++ 42 ∷ 47 ∷ more) ≡ true
has_end-here [] more = refl
has_end-here (c ∷ cs) more = or_right (begins_pair 42 47 (c ∷ (cs ++ 42 ∷ 47 ∷ more))) (has_end (cs ++ 42 ∷ 47 ∷ more)) (has_end-here cs more)
