use Rattle.std.proofs.Common.{ℕ, ◌<◌, ◌≤◌, pos}
use Rattle.std.specs.Prelude.{slice_index_or, unsigned_abs}
use Rattle.clause_form.proofs.clauses.Clauses.names.Given as goal

-- the literals so far are of these variables
abbrev pub invariant-loop-literal : goal.invariant-loop-literal
invariant-loop-literal l = (j : ℕ) → j < l.literal-index → unsigned_abs (slice_index_or l.literal-items j (pos 0)) ≤ l.self.variables
