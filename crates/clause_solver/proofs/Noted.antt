-- A trail's literals against the places noted at their variables.
use Rattle.std.proofs.Common.{◌≡◌, ◌≢◌, ℕ, ◌+◌, ◌-◌, ◌<◌, true, false, not, ◌||◌, ℤ, List, length, sym, ◌∙◌, ap, subst, ◌⊎◌, inl, inr, arith, eqb}
use Rattle.std.specs.Prelude.{neg_ℤ, unsigned_abs, slice_index}
use Rattle.std.proofs.lemmas.Bool.{false_from_ne_true, or_from, or_left, or_right, and_parts, ltb-true, cases_eq, eq-eqb, ne_eqb}
use Rattle.clause_form.specs.Clauses.{has, is_literal}
use Rattle.clause_solver.specs.Assigned.{Assigned, at, IsTrail, IsConsistent, IsOpen, Named}
use Rattle.std.specs.Ordering.{int_eq}
use Rattle.clause_form.proofs.Members.{same, apart, compared, negated-negated}
use Rattle.clause_solver.proofs.Pigeons.{pigeon}
use Rattle.clause_solver.proofs.Places.{has-place, place-has, abs-negated}

-- literals of one variable are the same or each other's negation
pub same_variable : (l m : ℤ) → unsigned_abs l ≡ unsigned_abs m → (l ≡ m) ⊎ (l ≡ neg_ℤ m)
same_variable l m e = grind arith

pub abs-literal : (l : ℤ) → is_literal l ≡ true → 0 < unsigned_abs l
abs-literal l h = ltb-true 0 (unsigned_abs l) (and_parts _ _ h).0

module _ (literals : List ℤ) (places : List ℕ) (ok : IsTrail literals places) where
  -- a literal that holds is noted at its variable
  pub noted_of : (l : ℤ) → has l literals ≡ true
      → (p : ℕ) × (p < length literals) × (at literals p ≡ l) × (slice_index places (unsigned_abs l - 1) ≡ p + 1)
  noted_of l h =
      let r = has-place l literals h in
      (r.0, r.1, r.2, ap (λ x. slice_index places (unsigned_abs x - 1)) (sym r.2) ∙ ok.noted r.0 r.1)

  -- nothing is noted where neither literal of the variable holds
  pub none_noted : (l : ℤ) → slice_index places (unsigned_abs l - 1) ≡ 0 → has l literals ≡ false
  none_noted l none = false_from_ne_true _ (λ h. let r = noted_of l h in absurd (omega (arith, none, r.3)))

  pub one_place : (p q : ℕ) → p < length literals → q < length literals
      → unsigned_abs (at literals p) ≡ unsigned_abs (at literals q) → p ≡ q
  one_place p q lt within e = omega (arith, ok.noted p lt, ok.noted q within, ap (λ v. slice_index places (v - 1)) e)

  -- a literal of the variable whose place is noted holds exactly where it is the literal there
  pub noted_other : (l : ℤ) (p : ℕ) → slice_index places (unsigned_abs l - 1) ≡ p + 1 → at literals p ≢ l
      → has l literals ≡ false
  noted_other l p noted ne = false_from_ne_true _ (λ h.
      let r = noted_of l h in
      let same : r.0 ≡ p = omega (arith, r.3, noted) in
      ne (ap (at literals) (sym same) ∙ r.2))

pub consistent_trail : (literals : List ℤ) (places : List ℕ) → IsTrail literals places
    → IsConsistent (record { variables = length places; literals = literals })
consistent_trail literals places ok = record {
  named = λ l h. let r = has-place l literals h in subst (λ x. Named (record { variables = length places; literals = literals }) x) r.2 (ok.literal r.0 r.1, ok.named r.0 r.1);
  one = one_place literals places ok;
  few = pigeon (length places) (length literals) (λ p. unsigned_abs (at literals p) - 1)
      (λ p lt. let some = abs-literal (at literals p) (ok.literal p lt) in omega (arith, some, ok.named p lt))
      (λ p q lt within e. one_place literals places ok p q lt within (let some = abs-literal (at literals p) (ok.literal p lt) in let other = abs-literal (at literals q) (ok.literal q within) in omega (arith, some, other, e)));
}

module _ (literals : List ℤ) (places : List ℕ) (ok : IsTrail literals places) (l : ℤ) (v : ℕ) (variable : v + 1 ≡ unsigned_abs l) where
  pub none_at : slice_index places v ≡ 0 → has l literals ≡ false
  none_at none = none_noted literals places ok l (ap (λ i. slice_index places i) (omega arith) ∙ none)

  pub holds_at : v < length places → 0 < slice_index places v
      → int_eq (at literals (slice_index places v - 1)) l ≡ has l literals
  holds_at within some =
      let p = slice_index places v - 1 in
      let b = ok.back v within some in
      let place : unsigned_abs l - 1 ≡ v = omega (arith, variable) in
      let next : slice_index places v ≡ p + 1 = omega (arith, some) in
      elim (compared (at literals p) l) [
        | same e t ↦ t ∙ sym (ap (λ x. has x literals) (sym e) ∙ place-has literals p (omega (arith, b.0, some)))
        | apart ne f ↦ f ∙ sym (noted_other literals places ok l p (ap (λ i. slice_index places i) place ∙ next) ne)
      ]

  pub open_at : v < length places → eqb (slice_index places v) 0 ≡ not (has l literals || has (neg_ℤ l) literals)
  open_at within = elim (cases_eq (slice_index places v) 0) [
    | inl none ↦ eq-eqb _ 0 none ∙ sym (ap not (or_from _ _ (none_noted literals places ok l (ap (λ i. slice_index places i) place_of ∙ none)) (none_noted literals places ok (neg_ℤ l) (ap (λ i. slice_index places i) negated_place_of ∙ none))))
    | inr ne ↦
        let b = ok.back v within (omega (arith, ne)) in
        let held = place-has literals (slice_index places v - 1) (omega (arith, b.0, ne)) in
        let variables : unsigned_abs l ≡ unsigned_abs (at literals (slice_index places v - 1)) = sym (b.1 ∙ variable) in
        ne_eqb _ 0 ne ∙ sym (ap not (elim (same_variable (at literals (slice_index places v - 1)) l (sym variables)) [
          | inl e ↦ or_left _ _ (ap (λ x. has x literals) (sym e) ∙ held)
          | inr e ↦ or_right _ _ (ap (λ x. has x literals) (sym e) ∙ held)
        ]))
  ] where
    place_of : unsigned_abs l - 1 ≡ v
    place_of = omega (arith, variable)

    negated_place_of : unsigned_abs (neg_ℤ l) - 1 ≡ v
    negated_place_of = omega (arith, variable, abs-negated l)

-- literals of one variable are both open or neither is
pub open_variable : (a : Assigned) (l m : ℤ) → unsigned_abs l ≡ unsigned_abs m → IsOpen a l ≡ IsOpen a m
open_variable a l m e = elim (same_variable l m e) [
  | inl equal ↦ ap (IsOpen a) equal
  | inr other ↦ ap (IsOpen a) other ∙ ap (λ x. not (has (neg_ℤ m) a.literals || has x a.literals)) (negated-negated m) ∙ ap not (grind arith)
]
