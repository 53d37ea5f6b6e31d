-- When a clause adds to others: a set that propagation does not leave is enough.
use Rattle.std.proofs.Common.{◌≡◌, ◌≢◌, Bool, true, false, ℤ, List, [], ◌∷◌, refl, sym, ◌∙◌, ap, subst, ◌⊎◌, inl, inr}
use Rattle.std.specs.Prelude.{neg_ℤ, slice_index_or}
use Rattle.std.specs.List.{All}
use Rattle.std.specs.Ordering.{int_eq}
use Rattle.std.proofs.lemmas.Bool.{cases_Bool, both_ways, false≢true, or_left, or_right, or_cases}
use Rattle.clause_form.specs.Clauses.{has, IsFull}
use Rattle.clause_form.specs.Derivation.{HasUnits, Propagated, NegatedOthers, AddsAt, Adds}
use Rattle.clause_form.proofs.Members.{int_eq-true, int_eq-same, negated-negated}

-- a test fails at some literal, or passes at each
pub fails_or_passes : (q : ℤ → Bool) (c : List ℤ) → ((m : ℤ) × (has m c ≡ true) × (q m ≡ false)) ⊎ ((m : ℤ) → has m c ≡ true → q m ≡ true)
fails_or_passes q [] = inr (λ m h. absurd (false≢true h))
fails_or_passes q (l ∷ c) = elim (cases_Bool (q l)) [
  | inr f ↦ inl (l, or_left _ _ (int_eq-same l l refl), f)
  | inl t ↦ elim (fails_or_passes q c) [
    | inl r ↦ inl (r.0, or_right _ _ r.1, r.2)
    | inr all ↦ inr (λ m h. elim (or_cases (int_eq l m) (has m c) h) [
      | inl e ↦ ap q (sym (int_eq-true l m e)) ∙ t
      | inr u ↦ all m u
    ])
  ]
]

abbrev pub Opposed : (ℤ → Bool) → Type 0
Opposed s = (m : ℤ) → s m ≡ true → s (neg_ℤ m) ≡ true → ⊥

-- a set that is closed under units and has no literal with its negation refutes no clause
pub open_literal : (s : ℤ → Bool) (d : List ℤ) → Opposed s → IsFull d → HasUnits s d → (m : ℤ) × (has m d ≡ true) × (s (neg_ℤ m) ≡ false)
open_literal s d opposed full units = elim (fails_or_passes (λ m. s (neg_ℤ m)) d) [
  | inl r ↦ r
  | inr all ↦ absurd (opposed full.0 (units full.0 full.1 (λ m h _. all m h)) (all full.0 full.1))
]

module _ (clauses : List (List ℤ)) (c : List ℤ) (l : ℤ) (s : ℤ → Bool) (among : has l c ≡ true) (closed : All (HasUnits s) clauses) (others : (m : ℤ) → has m c ≡ true → m ≢ l → s (neg_ℤ m) ≡ true) where
  -- what propagation finds from the negated others is in the set
  found_in : (m : ℤ) → Propagated clauses (NegatedOthers c l) m → s m ≡ true
  found_in m found = found s (λ x h. subst (λ y. s y ≡ true) (negated-negated x) (others (neg_ℤ x) h.0 h.1)) closed

  pub adds_at : s l ≡ false → Opposed s → All IsFull clauses → AddsAt clauses c l
  adds_at out opposed full = record {
    among = among;
    unfound = λ found. both_ways (s l) out (found_in l found);
    quiet = λ k d lt conflict.
        let r = open_literal s (slice_index_or clauses k d) opposed (full k d lt) (closed k d lt) in
        both_ways (s (neg_ℤ r.0)) r.2 (found_in (neg_ℤ r.0) (conflict r.0 r.1));
  }

-- a clause that adds contains none of the clauses
pub adds-new : (clauses : List (List ℤ)) (c : List ℤ) → Adds clauses c → All (λ d. ((m : ℤ) → has m d ≡ true → has m c ≡ true) → ⊥) clauses
adds-new clauses c adds k d lt within =
    let e = slice_index_or clauses k d in
    let l = adds.at.0 in
    let at = adds.at.1 in
    let given : (m : ℤ) → has m e ≡ true → m ≢ l → Propagated clauses (NegatedOthers c l) (neg_ℤ m) = λ m h ne s has_given _. has_given (neg_ℤ m) (rw (negated-negated m) (within m h), λ same. ne (sym (negated-negated m) ∙ same)) in
    elim (cases_Bool (has l e)) [
      | inl t ↦ at.unfound (λ s has_given closed. closed k d lt l t (λ m h ne. given m h ne s has_given closed))
      | inr f ↦ at.quiet k d lt (λ m h. given m h (λ same. both_ways _ f (ap (λ x. has x e) (sym same) ∙ h)))
    ]
