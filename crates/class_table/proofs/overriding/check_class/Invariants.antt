use Rattle.class_table.specs.Faults.{OfRule}
use Rattle.class_table.specs.Nearest.{NearestWrong}
use Rattle.class_table.proofs.Faults.{ClearBelow}
use Rattle.class_table.proofs.overriding.check_class.Given as goal

abbrev pub invariant-loop-method : goal.invariant-loop-method
invariant-loop-method l = ClearBelow l.methods (λ place m. OfRule 6 (NearestWrong l.index.names l.index.declared l.class m)) l.method-index
