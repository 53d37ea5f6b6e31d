use Rattle.std.proofs.Common.{◌≡◌, ◌≤◌, false, ℤ}
use Rattle.std.specs.Prelude.{unsigned_abs}
use Rattle.clause_solver.specs.Assigned.{Named, IsOpen}
use Rattle.clause_solver.proofs.order.first_open.Given as goal

-- no literal of the variables so far is open
abbrev pub invariant-loop-index : goal.invariant-loop-index
invariant-loop-index l = (m : ℤ) → Named l.trail m → unsigned_abs m ≤ l.index → IsOpen l.trail m ≡ false
