use Rattle.std.proofs.Common.{◌≡◌}
use Rattle.class_table.specs.Faults.{InSome, OfRule}
use Rattle.class_table.specs.Nearest.{NearestWrong}
use Rattle.class_table.proofs.Faults.{ClearBelow}
use Rattle.class_table.proofs.overriding.check_nearest.Given as goal

abbrev pub invariant-loop-class : goal.invariant-loop-class
invariant-loop-class l = record {
  number : l.number ≡ l.class-index;
  clear : ClearBelow l.declared (λ number d. InSome d.methods (λ place m. OfRule 6 (NearestWrong l.index.names l.index.declared number m))) l.class-index;
}
