-- A scan of a clause for the literals that aren't false.
use Rattle.std.proofs.Common.{◌≡◌, ◌≢◌, ℕ, zero, suc, ◌+◌, ◌<◌, true, false, ℤ, List, [], ◌∷◌, length, take, sym, ◌∙◌, ap, ◌⊎◌, inl, inr, arith, Option, Some, None}
use Rattle.std.specs.Prelude.{neg_ℤ, is_some}
use Rattle.std.proofs.lemmas.Bool.{cases_lt, both_ways, and_parts, not-true}
use Rattle.clause_form.specs.Clauses.{has, is_distinct}
use Rattle.clause_form.specs.Derivation.{HasUnits}
use Rattle.clause_form.proofs.Members.{same, apart, compared}
use Rattle.clause_solver.specs.Assigned.{at, Assigned, IsConsistent}
use Rattle.clause_solver.specs.Propagation.{IsScanned}
use Rattle.clause_solver.proofs.Places.{has-take_place, has-take_all, take-has, place-has}
use Rattle.clause_solver.proofs.Analysis.{opposed_all}

pub distinct-apart : (c : List ℤ) (p i : ℕ) → p < i → i < length c → is_distinct c ≡ true → at c p ≢ at c i
distinct-apart [] p i lt within h e = absurd (omega arith)
distinct-apart (x ∷ c) p zero lt within h e = absurd (omega arith)
distinct-apart (x ∷ c) zero (suc i) lt within h e =
    both_ways (has x c) (not-true _ (and_parts _ _ h).0) (ap (λ y. has y c) e ∙ place-has c i (omega arith))
distinct-apart (x ∷ c) (suc p) (suc i) lt within h e = distinct-apart c p i (omega arith) (omega arith) (and_parts _ _ h).1 e

pub has-take_next : (c : List ℤ) (i : ℕ) (m : ℤ) → has m (take (i + 1) c) ≡ true
    → (has m (take i c) ≡ true) ⊎ (at c i ≡ m)
has-take_next c i m h =
    let r = has-take_place m c (i + 1) h in
    elim (cases_lt r.0 i) [
      | inl below ↦ inl (ap (λ x. has x (take i c)) (sym r.3) ∙ take-has c i r.0 below r.2)
      | inr above ↦ let here : r.0 ≡ i = omega (arith, r.1) in inr (ap (at c) (sym here) ∙ r.3)
    ]

pub has-take_grown : (c : List ℤ) (i : ℕ) (m : ℤ) → has m (take i c) ≡ true → has m (take (i + 1) c) ≡ true
has-take_grown c i m h = let r = has-take_place m c i h in ap (λ x. has x (take (i + 1) c)) (sym r.3) ∙ take-has c (i + 1) r.0 (omega (arith, r.1)) r.2

-- one more literal that is false
pub scanned-false : (holding c : List ℤ) (i : ℕ) (unit : Option ℤ) → IsScanned holding (take i c) unit
    → has (neg_ℤ (at c i)) holding ≡ true → IsScanned holding (take (i + 1) c) unit
scanned-false holding c i None s f = λ m h. elim (has-take_next c i m h) [
  | inl old ↦ s m old
  | inr e ↦ ap (λ x. has (neg_ℤ x) holding) (sym e) ∙ f
]
scanned-false holding c i (Some u) s f = (
  has-take_grown c i u s.0,
  s.1,
  s.2,
  λ m h ne. elim (has-take_next c i m h) [
    | inl old ↦ s.3 m old ne
    | inr e ↦ ap (λ x. has (neg_ℤ x) holding) (sym e) ∙ f
  ],
)

-- the first literal that isn't
pub scanned-open : (holding c : List ℤ) (i : ℕ) (unit : Option ℤ) → i < length c → is_some unit ≡ false
    → IsScanned holding (take i c) unit → has (neg_ℤ (at c i)) holding ≡ false → has (at c i) holding ≡ false
    → IsScanned holding (take (i + 1) c) (Some (at c i))
scanned-open holding c i (Some u) lt none s f g = absurd (cc)
scanned-open holding c i None lt none s f g = (
  take-has c (i + 1) i (omega arith) lt,
  f,
  g,
  λ m h ne. elim (has-take_next c i m h) [ inl old ↦ s m old | inr e ↦ absurd (ne (sym e)) ],
)

-- a literal that holds
pub units-held : (a : Assigned) → IsConsistent a → (c : List ℤ) (v : ℤ) → has v c ≡ true → has v a.literals ≡ true
    → HasUnits (λ l. has l a.literals) c
units-held a ok c v h held l k others = elim (compared l v) [
  | same e s ↦ ap (λ x. has x a.literals) e ∙ held
  | apart ne f ↦ absurd (opposed_all a ok v held (others v h (λ e. ne (sym e))))
]

-- two literals that aren't false
pub units-two : (holding c : List ℤ) (i : ℕ) (unit : Option ℤ) → i < length c → is_distinct c ≡ true
    → is_some unit ≡ true → IsScanned holding (take i c) unit → has (neg_ℤ (at c i)) holding ≡ false
    → HasUnits (λ l. has l holding) c
units-two holding c i None lt apart_all some s f = absurd (cc)
units-two holding c i (Some u) lt apart_all some s f = λ l k others.
    let r = has-take_place u c i s.0 in
    let ne : u ≢ at c i = λ e. distinct-apart c r.0 i r.1 lt apart_all (r.3 ∙ e) in
    elim (compared u l) [
      | same e g ↦ absurd (both_ways _ f (others (at c i) (place-has c i lt) (λ x. ne (e ∙ sym x))))
      | apart other g ↦ absurd (both_ways _ s.1 (others u (has-take_all u c i s.0) other))
    ]
