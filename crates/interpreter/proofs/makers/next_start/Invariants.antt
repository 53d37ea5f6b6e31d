use Rattle.std.proofs.Common.{◌≡◌, ◌-◌, drop, length}
use Rattle.interpreter.specs.Starts.{next_start}
use Rattle.interpreter.proofs.makers.next_start.Given as goal

abbrev pub invariant-loop-at : goal.invariant-loop-at
invariant-loop-at l = next_start l.fn.class l.at (drop l.at l.fields) ≡ next_start l.fn.class l.fn.from (drop l.fn.from l.fields)

abbrev pub decreases-loop-at : goal.decreases-loop-at
decreases-loop-at l = length l.fields - l.at
