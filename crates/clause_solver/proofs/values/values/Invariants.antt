use Rattle.std.proofs.Common.{◌≡◌, ◌+◌, ◌<◌, ℕ, pos, false, length}
use Rattle.std.specs.Prelude.{slice_index_or}
use Rattle.clause_form.specs.Clauses.{has}
use Rattle.clause_solver.proofs.values.values.Given as goal

-- the values so far say which variables hold
abbrev pub invariant-loop-index : goal.invariant-loop-index
invariant-loop-index l = record {
  count : length l.values.items ≡ l.index;
  so_far : (n : ℕ) → n < l.index → slice_index_or l.values.items n false ≡ has (pos (n + 1)) l.trail.literals;
}
