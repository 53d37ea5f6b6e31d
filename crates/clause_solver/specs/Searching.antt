-- The invariants of the search.
use Rattle.std.specs.Prelude.{ℕ, ◌≡◌, Bool, true, ◌-◌, ◌<◌, ◌≤◌, ℤ, List, [], ◌∷◌, ◌++◌, length, slice_index, take, Some, None, IfSome, IfNone}
use Rattle.std.specs.List.{All}
use Rattle.clause_form.specs.Clauses.{has, IsFull, value, listed}
use Rattle.clause_form.specs.Derivation.{HasUnits, Adds, clause_of}
use Rattle.clause_form.specs.declared.derivation.Line.{Line}
use Rattle.clause_solver.specs.Assigned.{Assigned, NoneIsOpen}
use Rattle.clause_solver.specs.Learning.{IsConflict, IsSaturated}
use Rattle.clause_solver.specs.Propagation.{IsPropagated, AreReasons, AreNamed}
use Rattle.clause_solver.specs.Occurrences.{AreOccurrences}
use Rattle.clause_solver.specs.declared.search.Search.{Search}
use Rattle.clause_solver.specs.declared.turn.Turn.{Turn}
use Rattle.clause_solver.specs.declared.turn.Turn.TheVariants as turns

-- where each decision level begins on the trail, in order; nothing was left to propagate when its decision was made
pub record AreDecisions (clauses : List (List ℤ)) (holding : List ℤ) (reasons levels : List ℕ) : Type 0 where
  pub rising : (i j : ℕ) → i < j → j < length levels → slice_index levels i < slice_index levels j
  pub within : (j : ℕ) → j < length levels → slice_index levels j < length holding
  pub saturated : (j : ℕ) → j < length levels → IsSaturated clauses (take (slice_index levels j) holding)
  pub decided : (p : ℕ) → p < length holding → slice_index reasons p ≡ 0
      → (j : ℕ) × (j < length levels) × (slice_index levels j ≡ p)

-- the parts of the search fit together; where there is no conflict, what is before the head is propagated
pub record IsSearch (s : Search) : Type 0 where
  pub named : All (AreNamed s.trail) s.clauses.items
  pub full : All IsFull s.clauses.items
  pub paired : length s.reasons.items ≡ length s.trail.literals
  pub reasons : AreReasons s.clauses.items s.trail.literals s.reasons.items
  pub occurrences : AreOccurrences s.trail.variables s.clauses.items s.occurrences.lists.items
  pub decisions : AreDecisions s.clauses.items s.trail.literals s.reasons.items s.levels.items
  pub head : s.head ≤ length s.trail.literals
  pub conflict : IfSome s.conflict (IsConflict s.clauses.items s.trail.literals)
  pub propagated : IfNone s.conflict (All (IsPropagated s.head s.trail.literals) s.clauses.items)

-- the clauses are the same, and the trail isn't shorter
pub record SearchesOn (s t : Search) : Type 0 where
  pub variables : t.trail.variables ≡ s.trail.variables
  pub clauses : t.clauses.items ≡ s.clauses.items
  pub longer : length s.trail.literals ≤ length t.trail.literals

-- the clause had nothing left to propagate where each level begins
abbrev pub AtLevels : List ℤ → List ℕ → List ℤ → Type 0
AtLevels holding levels c = (j : ℕ) → j < length levels → HasUnits (λ l. has l (take (slice_index levels j) holding)) c

-- nothing is left to propagate or to decide
pub record IsSettled (s : Search) : Type 0 where
  pub propagated : s.head ≡ length s.trail.literals
  pub decided : NoneIsOpen s.trail

-- the levels from one on are taken off; it begins at `rest` or later, and those before it begin earlier
pub record IsPopped (old new : List ℕ) (rest start : ℕ) : Type 0 where
  pub place : ℕ
  pub within : place < length old
  pub kept : new ≡ take place old
  pub start_is : start ≡ slice_index old place
  pub enough : rest ≤ start
  pub before : 0 < place → slice_index old (place - 1) < rest

-- the search went back to before the first level that begins at `rest` literals or more
pub record Backjumped (s t : Search) (rest : ℕ) : Type 0 where
  pub place : ℕ
  pub within : place < length s.levels.items
  pub levels : t.levels.items ≡ take place s.levels.items
  pub literals : t.trail.literals ≡ take (slice_index s.levels.items place) s.trail.literals
  pub enough : rest ≤ slice_index s.levels.items place
  pub before : (j : ℕ) → j < place → slice_index s.levels.items j < rest

-- the clause of the line came after the clauses, and it adds to them
pub record Grew (s t : Search) (line : Line) : Type 0 where
  pub clause : List ℤ
  pub made : clause_of s.clauses.items line ≡ Some clause
  pub adds : Adds s.clauses.items clause
  pub clauses : t.clauses.items ≡ s.clauses.items ++ clause ∷ []

-- what a turn came to
abbrev pub Took : Search → Search → Turn → Type 0
Took s t turns.Satisfied = (t.clauses.items ≡ s.clauses.items) × (t.conflict ≡ None) × IsSettled t
Took s t (turns.Refuted line) = clause_of s.clauses.items line ≡ Some []
Took s t (turns.Learned line) = Grew s t line

-- a value for each variable, by which each literal on the trail is true
pub record AreValues (a : Assigned) (values : List Bool) : Type 0 where
  pub count : length values ≡ a.variables
  pub true_so : (l : ℤ) → has l a.literals ≡ true → value (listed values) l ≡ true
