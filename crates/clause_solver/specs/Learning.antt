-- Conflicts, and the reasons of the literals on the trail.
use Rattle.std.specs.Prelude.{ℕ, ◌≡◌, ◌≢◌, ◌+◌, ◌-◌, ◌<◌, ◌≤◌, true, ℤ, neg_ℤ, List, [], length, slice_index_or, slice_index, take, option_and_then, Some, nat_lt, nat_le, if◌then◌else◌}
use Rattle.std.specs.List.{All}
use Rattle.clause_form.specs.declared.derivation.Cut.{Cut}
use Rattle.clause_form.specs.Clauses.{has}
use Rattle.clause_form.specs.Derivation.{numbered, after_cuts}
use Rattle.clause_form.specs.Derivation.{HasUnits}
use Rattle.clause_solver.specs.Assigned.{at}
use Rattle.clause_solver.specs.declared.learn.Latest.{Latest}

-- the negation of each literal holds
abbrev pub AllFalse : List ℤ → List ℤ → Type 0
AllFalse c holding = (m : ℤ) → has m c ≡ true → has (neg_ℤ m) holding ≡ true

-- the clause of a number
abbrev pub clause_at : List (List ℤ) → ℕ → List ℤ
clause_at clauses k = slice_index_or clauses (k - 1) []

-- the number is that of a clause whose literals are all false
pub record IsConflict (clauses : List (List ℤ)) (holding : List ℤ) (k : ℕ) : Type 0 where
  pub some : 0 < k
  pub within : k ≤ length clauses
  pub all_false : AllFalse (clause_at clauses k) holding

-- the literal of a false clause that came to be false last, the index of its negation, and how long the trail was when
-- the others were false
pub record IsLatest (holding c : List ℤ) (r : Latest) : Type 0 where
  pub among : has r.literal c ≡ true
  pub within : r.place < length holding
  pub here : at holding r.place ≡ neg_ℤ r.literal
  pub before : r.rest ≤ r.place
  pub others : (m : ℤ) → has m c ≡ true → m ≢ r.literal → has (neg_ℤ m) (take r.rest holding) ≡ true
  pub second : 0 < r.rest → (m : ℤ) × (has m c ≡ true) × (m ≢ r.literal) × (at holding (r.rest - 1) ≡ neg_ℤ m)

-- the clause is the reason of the literal with that index
pub record IsReason (holding c : List ℤ) (p : ℕ) : Type 0 where
  pub among : has (at holding p) c ≡ true
  pub others : (m : ℤ) → has m c ≡ true → m ≢ at holding p → has (neg_ℤ m) (take p holding) ≡ true

-- each literal after the start has a reason
abbrev pub HaveReasons : List (List ℤ) → List ℤ → List ℕ → ℕ → Type 0
HaveReasons clauses holding reasons start =
    (p : ℕ) → start ≤ p → p < length holding
    → (0 < slice_index reasons p) × (slice_index reasons p ≤ length clauses)
    × IsReason holding (slice_index_or clauses (slice_index reasons p - 1) []) p

-- nothing is left to propagate from the first literals
abbrev pub IsSaturated : List (List ℤ) → List ℤ → Type 0
IsSaturated clauses holding = All (HasUnits (λ l. has l holding)) clauses

-- the clause after the cuts, begun with a clause by its number
abbrev pub MakesClause : List (List ℤ) → ℕ → List Cut → List ℤ → Type 0
MakesClause clauses first cuts c = option_and_then (λ d. after_cuts clauses d cuts) (numbered clauses first) ≡ Some c

-- the latest of two, by their places
abbrev pub later_of : Latest → ℤ → ℕ → Latest
later_of r l p =
    if nat_lt r.place p then record { literal = l; place = p; rest = r.place + 1 }
    else (if nat_le r.rest p then record { literal = r.literal; place = r.place; rest = p + 1 } else r)
