use Rattle.std.proofs.Common.{◌≡◌, length}
use Rattle.class_table.specs.Members.{same_types}
use Rattle.class_table.proofs.overriding.same_types.Given as goal

abbrev pub invariant-loop-a : goal.invariant-loop-a
invariant-loop-a l = same_types l.fn.a l.fn.b ≡ same_types l.a l.b

abbrev pub decreases-loop-a : goal.decreases-loop-a
decreases-loop-a l = length l.a
