use Rattle.class_table.specs.Faults.{InSome, OfRule}
use Rattle.class_table.specs.Rules.{SameArity}
use Rattle.class_table.proofs.Faults.{ClearBelow}
use Rattle.class_table.proofs.methods.check_makers.Given as goal

abbrev pub invariant-loop-class : goal.invariant-loop-class
invariant-loop-class l = ClearBelow l.declared (λ number d. InSome d.makers (λ place m. OfRule 5 (SameArity d.makers place m))) l.class-index
