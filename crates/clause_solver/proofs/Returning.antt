-- A learned clause where the search went back.
use Rattle.std.proofs.Common.{◌≡◌, ℕ, ◌-◌, ◌<◌, ℤ, List, length, take, sym, ◌∙◌, ap, subst, arith}
use Rattle.std.specs.Prelude.{neg_ℤ, slice_index, nat_lt, ◌&&◌, ◌^◌}
use Rattle.std.proofs.lemmas.Bool.{both_ways}
use Rattle.std.proofs.lemmas.List.{take-take, get_or-take, length-take-le}
use Rattle.clause_form.specs.Clauses.{has}
use Rattle.clause_form.specs.Derivation.{HasUnits}
use Rattle.clause_form.proofs.Members.{compared, same, apart}
use Rattle.clause_solver.specs.Assigned.{Assigned, Named, IsConsistent}
use Rattle.clause_solver.specs.Learning.{IsLatest}
use Rattle.clause_solver.specs.Propagation.{AreNamed}
use Rattle.clause_solver.specs.Searching.{Backjumped, AtLevels}
use Rattle.clause_solver.specs.declared.learn.Latest.{Latest}
use Rattle.clause_solver.specs.declared.search.Search.{Search}
use Rattle.clause_solver.proofs.Places.{not_before, place-has, has-take_all, abs-negated}

pub named-negated : (a : Assigned) (m : ℤ) → Named a (neg_ℤ m) → Named a m
named-negated a m named = (ap (λ n. nat_lt 0 n && nat_lt n (2 ^ 31)) (sym (abs-negated m)) ∙ named.0, omega (arith, named.1, abs-negated m))

module _ (a : Assigned) (ok : IsConsistent a) (c : List ℤ) (r : Latest) (is : IsLatest a.literals c r) where
  -- each literal of the clause is one of the variables'
  pub latest-named : AreNamed a c
  latest-named m h = named-negated a m (ok.named (neg_ℤ m) (elim (compared m r.literal) [
    | same e t ↦ ap (λ x. has (neg_ℤ x) a.literals) e ∙ ap (λ x. has x a.literals) (sym is.here) ∙ place-has a.literals r.place is.within
    | apart ne f ↦ has-take_all (neg_ℤ m) a.literals r.rest (is.others m h ne)
  ]))

  -- before the others were false two literals weren't, so nothing is left to do
  units_before : (s : ℕ) → s < r.rest → HasUnits (λ l. has l (take s a.literals)) c
  units_before s below l h others =
      let second = is.second (omega arith) in
      let m = second.0 in
      elim (compared l r.literal) [
        | same e t ↦
            let out = not_before a ok (r.rest - 1) s (neg_ℤ m) (omega (arith, is.before, is.within)) second.3 (omega arith) in
            absurd (both_ways _ out (others m second.1 (λ x. second.2 (x ∙ e))))
        | apart ne f ↦
            let out = not_before a ok r.place s (neg_ℤ r.literal) is.within is.here (omega (arith, is.before)) in
            absurd (both_ways _ out (others r.literal is.among (λ x. ne (sym x))))
      ]

  -- nothing is left to do at the clause at the decisions that remain
  pub latest-at_levels : (s t : Search) → s.trail ≡ a → Backjumped s t r.rest
      → AtLevels t.trail.literals t.levels.items c
  latest-at_levels s t trail back j lt =
      let t0 = slice_index s.levels.items back.place in
      let count = length-take-le back.place s.levels.items (omega (arith, back.within)) in
      let below : j < back.place = omega (arith, lt, ap length back.levels, count) in
      let start : slice_index t.levels.items j ≡ slice_index s.levels.items j = ap (λ xs. slice_index xs j) back.levels ∙ get_or-take back.place s.levels.items j 0 below in
      let early = back.before j below in
      let holding : take (slice_index t.levels.items j) t.trail.literals ≡ take (slice_index s.levels.items j) a.literals =
      ap (λ n. take n t.trail.literals) start ∙ ap (take (slice_index s.levels.items j)) back.literals
      ∙ take-take (slice_index s.levels.items j) t0 s.trail.literals (omega (arith, early, back.enough))
      ∙ ap (λ (x : Assigned). take (slice_index s.levels.items j) x.literals) trail in
      subst (λ h. HasUnits (λ l. has l h) c) (sym holding) (units_before (slice_index s.levels.items j) early)
