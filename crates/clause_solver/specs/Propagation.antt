-- What propagation keeps.
use Rattle.std.specs.Prelude.{ℕ, ◌≡◌, ◌≢◌, ◌+◌, ◌<◌, ◌≤◌, ◌++◌, ◌∷◌, ◌⊎◌, true, false, ℤ, neg_ℤ, List, [], length, slice_index_or, slice_index, take, Option, Some, None}
use Rattle.clause_form.specs.Clauses.{has}
use Rattle.clause_solver.specs.Assigned.{Assigned, Named}
use Rattle.clause_solver.specs.Learning.{IsReason, AllFalse, clause_at}

-- if all literals of the clause but one were false when p literals held, that one holds
abbrev pub IsPropagated : ℕ → List ℤ → List ℤ → Type 0
IsPropagated p holding c =
    (l : ℤ) → has l c ≡ true → ((m : ℤ) → has m c ≡ true → m ≢ l → has (neg_ℤ m) (take p holding) ≡ true)
    → has l holding ≡ true

-- each literal on the trail has a reason or is a decision
abbrev pub AreReasons : List (List ℤ) → List ℤ → List ℕ → Type 0
AreReasons clauses holding reasons =
    (p : ℕ) → p < length holding
    → (slice_index reasons p ≤ length clauses)
    × (0 < slice_index reasons p → IsReason holding (clause_at clauses (slice_index reasons p)) p)

-- no literal came to be a decision
abbrev pub KeepsDecisions : List ℕ → List ℕ → Type 0
KeepsDecisions old new = (p : ℕ) → p < length new → slice_index new p ≡ 0 → (p < length old) × (slice_index old p ≡ 0)

-- the clauses name the trail's variables alone
abbrev pub AreNamed : Assigned → List ℤ → Type 0
AreNamed a c = (m : ℤ) → has m c ≡ true → Named a m

-- the trail and its reasons begin with those from before; at most one literal came, propagated from the clause
pub record Visited (old new : List ℤ) (reasons_old reasons_new : List ℕ) (c : List ℤ) (number : ℕ) : Type 0 where
  pub change : ((new ≡ old) × (reasons_new ≡ reasons_old))
      ⊎ ((l : ℤ) × (new ≡ old ++ l ∷ []) × (reasons_new ≡ reasons_old ++ number ∷ []) × (has l c ≡ true)
      × ((m : ℤ) → has m c ≡ true → m ≢ l → has (neg_ℤ m) old ≡ true))

abbrev pub Extends : List ℤ → List ℤ → Type 0
Extends old new = (more : List ℤ) × (new ≡ old ++ more)

-- the numbers are those of clauses
abbrev pub AreNumbers : ℕ → List ℕ → Type 0
AreNumbers count numbers = (j : ℕ) → j < length numbers → (0 < slice_index numbers j) × (slice_index numbers j ≤ count)

-- each clause that has the literal is among the numbers
abbrev pub OccurrencesOf : List (List ℤ) → ℤ → List ℕ → Type 0
OccurrencesOf clauses l numbers =
    (k : ℕ) → k < length clauses → has l (slice_index_or clauses k []) ≡ true
    → (j : ℕ) × (j < length numbers) × (slice_index numbers j ≡ k + 1)

-- of a clause's literals all are false, or all but one, which is open
abbrev pub IsScanned : List ℤ → List ℤ → Option ℤ → Type 0
IsScanned holding c None = AllFalse c holding
IsScanned holding c (Some u) =
    (has u c ≡ true) × (has (neg_ℤ u) holding ≡ false) × (has u holding ≡ false)
    × ((m : ℤ) → has m c ≡ true → m ≢ u → has (neg_ℤ m) holding ≡ true)
