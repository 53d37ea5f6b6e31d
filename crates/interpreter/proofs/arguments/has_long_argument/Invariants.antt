use Rattle.std.proofs.Common.{◌≡◌, drop, map}
use Rattle.evaluation.specs.Run.{has_short_arguments}
use Rattle.interpreter.specs.Machine.{text_of}
use Rattle.interpreter.proofs.arguments.has_long_argument.Given as goal

abbrev pub invariant-loop-arg : goal.invariant-loop-arg
invariant-loop-arg l = has_short_arguments (map text_of (drop l.arg-index l.args)) ≡ has_short_arguments (map text_of l.args)
