-- What the literals that hold at the end satisfy.
use Rattle.std.proofs.Common.{◌≡◌, ◌≢◌, ℕ, zero, suc, ◌+◌, ◌<◌, Bool, true, false, not, ℤ, pos, List, [], ◌∷◌, length, refl, ◌∙◌, ap, inl, inr, arith, None}
use Rattle.std.specs.Prelude.{neg_ℤ, negsuc, slice_index_or}
use Rattle.std.proofs.lemmas.Bool.{cases_Bool, both_ways, false_from_ne_true, or_left, or_from}
use Rattle.clause_form.specs.Clauses.{has, value, listed, Holds, IsFull}
use Rattle.clause_form.proofs.Members.{has-any, int_eq-same}
use Rattle.clause_form.proofs.Adding.{open_literal}
use Rattle.clause_solver.specs.Assigned.{Assigned, IsConsistent, IsOpen}
use Rattle.clause_solver.specs.Searching.{IsSearch, IsSettled, AreValues}
use Rattle.clause_solver.specs.declared.search.Search.{Search}
use Rattle.clause_solver.proofs.Analysis.{opposed_all}
use Rattle.clause_solver.proofs.Decisions.{saturated-propagated}

pub full-from : (c : List ℤ) → length c ≢ 0 → IsFull c
full-from [] ne = absurd (ne refl)
full-from (l ∷ c) ne = (l, or_left _ _ (int_eq-same l l refl))

pub empty-from : (c : List ℤ) → length c ≡ 0 → c ≡ []
empty-from [] e = refl
empty-from (l ∷ c) e = absurd (omega (arith, e))

-- each literal that holds is true by the variables' values
pub values-true : (a : Assigned) (values : List Bool) → IsConsistent a
    → ((n : ℕ) → n < a.variables → slice_index_or values n false ≡ has (pos (n + 1)) a.literals) → (l : ℤ)
    → has l a.literals ≡ true → value (listed values) l ≡ true
values-true a values ok said (pos zero) h = absurd (let named = ok.named (pos zero) h in cc)
values-true a values ok said (pos (suc n)) h = said n (omega (arith, (ok.named (pos (suc n)) h).1)) ∙ ap (λ i. has (pos i) a.literals) (omega arith) ∙ h
values-true a values ok said (negsuc n) h =
    let out : has (pos (suc n)) a.literals ≡ false = false_from_ne_true _ (λ k. opposed_all a ok (negsuc n) h k) in
    ap not (said n (omega (arith, (ok.named (negsuc n) h).1)) ∙ ap (λ i. has (pos i) a.literals) (omega arith) ∙ out)

-- a literal that isn't open and whose negation doesn't hold holds
pub held : (a : Assigned) (m : ℤ) → IsOpen a m ≡ false → has (neg_ℤ m) a.literals ≡ false → has m a.literals ≡ true
held a m closed out = elim (cases_Bool (has m a.literals)) [
  | inl t ↦ t
  | inr f ↦ absurd (both_ways _ closed (ap not (or_from _ _ f out)))
]

-- where nothing is left to do, the values satisfy the clauses
pub settled-holds : (s : Search) (values : List Bool) → IsConsistent s.trail → IsSearch s → s.conflict ≡ None
    → IsSettled s → AreValues s.trail values → Holds s.clauses.items (listed values)
settled-holds s values ok kept quiet settled are k d lt =
    let c = slice_index_or s.clauses.items k d in
    let saturated = saturated-propagated s.clauses.items s.trail.literals s.head settled.propagated (rw quiet at kept.propagated) in
    let r = open_literal (λ l. has l s.trail.literals) c (opposed_all s.trail ok) (kept.full k d lt) (saturated k d lt) in
    let m = r.0 in
    has-any (value (listed values)) c m r.1 (are.true_so m (held s.trail m (settled.decided m (kept.named k d lt m r.1)) r.2))
