-- Propagated clauses stay propagated while the trail grows, and a literal more may be counted once its clauses were
-- visited.
use Rattle.std.proofs.Common.{◌≡◌, ℕ, ◌+◌, ◌-◌, ◌<◌, ◌≤◌, true, false, ℤ, pos, List, [], ◌∷◌, ◌++◌, length, get_or, take, refl, sym, ◌∙◌, ap, subst, inl, inr, arith, length-append, append_assoc}
use Rattle.std.specs.Prelude.{neg_ℤ, slice_index}
use Rattle.std.specs.List.{All}
use Rattle.std.proofs.lemmas.Bool.{cases_lt, cases_Bool, both_ways, or_left}
use Rattle.std.proofs.lemmas.Grind.{common_steps}
use Rattle.std.proofs.lemmas.List.{get_or_read, get_or_default, take-append-le, get_or_append_left, get_or-append_right}
use Rattle.clause_form.specs.Clauses.{has}
use Rattle.clause_form.specs.Derivation.{HasUnits}
use Rattle.clause_form.proofs.Members.{has-append, negated-negated}
use Rattle.clause_solver.specs.Assigned.{at}
use Rattle.clause_solver.specs.Learning.{IsReason}
use Rattle.clause_solver.specs.Propagation.{IsPropagated, AreReasons, KeepsDecisions, Visited, Extends, OccurrencesOf}
use Rattle.clause_solver.specs.Learning.{clause_at}
use Rattle.clause_solver.proofs.Places.{has-take_place, has-take_all, take-has}

pub extends-length : (old new : List ℤ) → Extends old new → length old ≤ length new
extends-length old new e = omega (arith, ap length e.1, length-append old e.0)

pub extends-take : (old new : List ℤ) (p : ℕ) → Extends old new → p ≤ length old → take p new ≡ take p old
extends-take old new p e le = ap (take p) e.1 ∙ take-append-le p old e.0 le

pub extends-at : (old new : List ℤ) (p : ℕ) → Extends old new → p < length old → at new p ≡ at old p
extends-at old new p e lt = ap (λ x. at x p) e.1 ∙ get_or_append_left old e.0 (pos 0) p lt

pub extends-has : (old new : List ℤ) (l : ℤ) → Extends old new → has l old ≡ true → has l new ≡ true
extends-has old new l e h = ap (has l) e.1 ∙ has-append l old e.0 ∙ or_left _ _ h

pub IsPropagated-grown : (p : ℕ) (old new c : List ℤ) → Extends old new → p ≤ length old → IsPropagated p old c
    → IsPropagated p new c
IsPropagated-grown p old new c e le w l h others =
    extends-has old new l e (w l h (λ m k ne. ap (has (neg_ℤ m)) (sym (extends-take old new p e le)) ∙ others m k ne))

pub IsPropagated-visited : (p : ℕ) (holding c : List ℤ) → HasUnits (λ l. has l holding) c → IsPropagated p holding c
IsPropagated-visited p holding c units l h others = units l h (λ m k ne. has-take_all (neg_ℤ m) holding p (others m k ne))

-- a clause that doesn't have the negation of the next literal
pub IsPropagated-next : (p : ℕ) (holding c : List ℤ) → p < length holding → has (neg_ℤ (at holding p)) c ≡ false
    → IsPropagated p holding c → IsPropagated (p + 1) holding c
IsPropagated-next p holding c lt none w l h others = w l h (λ m k ne.
    let r = has-take_place (neg_ℤ m) holding (p + 1) (others m k ne) in
    elim (cases_lt r.0 p) [
      | inl below ↦ ap (λ x. has x (take p holding)) (sym r.3) ∙ take-has holding p r.0 below r.2
      | inr above ↦
          let here : r.0 ≡ p = omega (arith, r.1) in
          let opposite : neg_ℤ (at holding p) ≡ m = ap neg_ℤ (ap (at holding) (sym here) ∙ r.3) ∙ negated-negated m in
          absurd (both_ways _ none (ap (λ x. has x c) opposite ∙ k))
    ])

pub IsReason-grown : (old new c : List ℤ) (p : ℕ) → Extends old new → p < length old → IsReason old c p
    → IsReason new c p
IsReason-grown old new c p e lt why =
    let here = extends-at old new p e lt in
    record {
      among = ap (λ x. has x c) here ∙ why.among;
      others = λ m h ne. ap (has (neg_ℤ m)) (extends-take old new p e (omega arith)) ∙ why.others m h (λ s. ne (s ∙ sym here));
    }

-- the trail has grown by what a visit changed
pub visited-extends : (old new : List ℤ) (rs ss : List ℕ) (c : List ℤ) (k : ℕ) → Visited old new rs ss c k
    → Extends old new
visited-extends old new rs ss c k v = elim v.change [
  | inl x ↦ ([], x.0 ∙ grind (arith, common_steps))
  | inr y ↦ (y.0 ∷ [], y.1)
]

pub visited-paired : (old new : List ℤ) (rs ss : List ℕ) (c : List ℤ) (k : ℕ) → Visited old new rs ss c k
    → length rs ≡ length old → length ss ≡ length new
visited-paired old new rs ss c k v h = elim v.change [
  | inl x ↦ ap length x.1 ∙ h ∙ sym (ap length x.0)
  | inr y ↦ omega (arith, h, ap length y.1, ap length y.2, length-append old (y.0 ∷ []), length-append rs (k ∷ []))
]

pub visited-reasons : (clauses : List (List ℤ)) (old new : List ℤ) (rs ss : List ℕ) (k : ℕ) → k ≤ length clauses
    → Visited old new rs ss (clause_at clauses k) k → length rs ≡ length old → AreReasons clauses old rs
    → AreReasons clauses new ss
visited-reasons clauses old new rs ss k le v pair all p lt =
    let ext = visited-extends old new rs ss (clause_at clauses k) k v in
    let kept : p < length old → slice_index ss p ≡ slice_index rs p → (slice_index ss p ≤ length clauses) × (0 < slice_index ss p → IsReason new (clause_at clauses (slice_index ss p)) p) =
    λ within number. (
      omega (arith, (all p within).0, number),
      λ some. subst (λ n. IsReason new (clause_at clauses n) p) (sym number) (IsReason-grown old new (clause_at clauses (slice_index rs p)) p ext within ((all p within).1 (omega (arith, number)))),
    ) in
    elim v.change [
      | inl x ↦ kept (omega (arith, ap length x.0)) (ap (λ r. slice_index r p) x.1)
      | inr y ↦ elim (cases_lt p (length old)) [
        | inl within ↦ kept within (ap (λ r. slice_index r p) y.2 ∙ get_or_append_left rs (k ∷ []) 0 p (omega (arith, pair)))
        | inr above ↦
            let last : p ≡ length old = omega (arith, ap length y.1, length-append old (y.0 ∷ [])) in
            let first : p - length old ≡ 0 = omega arith in
            let here : at new p ≡ y.0 = ap (λ x. at x p) y.1 ∙ get_or-append_right old (y.0 ∷ []) (length old) p (pos 0) refl (omega arith) ∙ ap (λ j. get_or (y.0 ∷ []) j (pos 0)) first in
            let number : slice_index ss p ≡ k = ap (λ r. slice_index r p) y.2 ∙ get_or-append_right rs (k ∷ []) (length old) p 0 pair (omega arith) ∙ ap (λ j. get_or (k ∷ []) j 0) first in (
              omega (arith, number),
              λ some. subst (λ n. IsReason new (clause_at clauses n) p) (sym number) (record {
                among = ap (λ x. has x (clause_at clauses k)) here ∙ y.3;
                others = λ m h ne. ap (has (neg_ℤ m)) (extends-take old new p ext (omega arith) ∙ ap (λ n. take n old) last ∙ grind (arith, common_steps)) ∙ y.4 m h (λ e. ne (e ∙ sym here));
              }),
            )
      ]
    ]

pub visited-decisions : (old new : List ℤ) (rs ss : List ℕ) (c : List ℤ) (k : ℕ) → 0 < k → Visited old new rs ss c k
    → KeepsDecisions rs ss
visited-decisions old new rs ss c k some v p lt none = elim v.change [
  | inl x ↦ (omega (arith, ap length x.1), sym (ap (λ r. slice_index r p) x.1) ∙ none)
  | inr y ↦ elim (cases_lt p (length rs)) [
    | inl within ↦ (within, sym (ap (λ r. slice_index r p) y.2 ∙ get_or_append_left rs (k ∷ []) 0 p within) ∙ none)
    | inr above ↦
        let first : p - length rs ≡ 0 = omega (arith, ap length y.2, length-append rs (k ∷ [])) in
        let number : slice_index ss p ≡ k = ap (λ r. slice_index r p) y.2 ∙ get_or-append_right rs (k ∷ []) (length rs) p 0 refl above ∙ ap (λ j. get_or (k ∷ []) j 0) first in
        absurd (omega (arith, number))
  ]
]

pub decisions-then : (x y z : List ℕ) → KeepsDecisions x y → KeepsDecisions y z → KeepsDecisions x z
decisions-then x y z e f p lt none = let r = f p lt none in e p r.0 r.1

pub extends-then : (x y z : List ℤ) → Extends x y → Extends y z → Extends x z
extends-then x y z e f = (e.0 ++ f.0, f.1 ∙ ap (λ w. w ++ f.0) e.1 ∙ append_assoc x e.0 f.0)

-- a visit of the clause that a read gave is one of the clause of that number
pub visited-at : (clauses : List (List ℤ)) (old new : List ℤ) (rs ss : List ℕ) (k : ℕ) (x : List ℤ)
    → k - 1 < length clauses → x ≡ get_or clauses (k - 1) x → Visited old new rs ss x k
    → Visited old new rs ss (clause_at clauses k) k
visited-at clauses old new rs ss k x lt is v = subst (λ y. Visited old new rs ss y k) (get_or_read clauses (k - 1) x lt is []) v

-- once the occurrences of the next literal's negation were visited, it may be counted
pub all-next : (clauses : List (List ℤ)) (old new : List ℤ) (occurrences : List ℕ) (head : ℕ) → Extends old new
    → head < length old → OccurrencesOf clauses (neg_ℤ (at old head)) occurrences → All (IsPropagated head new) clauses
    → ((j : ℕ) → j < length occurrences → IsPropagated (head + 1) new (clause_at clauses (slice_index occurrences j)))
    → All (IsPropagated (head + 1) new) clauses
all-next clauses old new occurrences head e lt complete propagated visited k d within =
    let c = get_or clauses k d in
    let long = extends-length old new e in
    let t = extends-at old new head e lt in
    elim (cases_Bool (has (neg_ℤ (at new head)) c)) [
      | inr none ↦ IsPropagated-next head new c (omega (arith, long)) none (propagated k d within)
      | inl some ↦
          let default = get_or_default clauses k d [] within in
          let found = complete k within (ap (λ x. has (neg_ℤ x) (get_or clauses k [])) (sym t) ∙ ap (has (neg_ℤ (at new head))) (sym default) ∙ some) in
          let place : slice_index occurrences found.0 - 1 ≡ k = omega (arith, found.2) in
          subst (λ x. IsPropagated (head + 1) new x) (ap (λ n. get_or clauses n []) place ∙ sym default) (visited found.0 found.1)
    ]
