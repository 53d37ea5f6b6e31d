use Rattle.std.proofs.Common.{◌≡◌, length, take}
use Rattle.throw_check.proofs.locals.truncate.Given as goal

abbrev pub invariant-loop-slots : goal.invariant-loop-slots
invariant-loop-slots l = take l.count l.slots ≡ take l.count l.initial.slots

abbrev pub decreases-loop-slots : goal.decreases-loop-slots
decreases-loop-slots l = length l.slots
