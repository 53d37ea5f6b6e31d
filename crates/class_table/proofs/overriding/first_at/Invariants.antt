use Rattle.std.proofs.Common.{◌≡◌, length}
use Rattle.class_table.specs.Nearest.{first_called}
use Rattle.class_table.proofs.overriding.first_at.Given as goal

abbrev pub invariant-loop-classes : goal.invariant-loop-classes
invariant-loop-classes l = first_called l.index.declared l.key l.fn.classes ≡ first_called l.index.declared l.key l.classes

abbrev pub decreases-loop-classes : goal.decreases-loop-classes
decreases-loop-classes l = length l.classes
