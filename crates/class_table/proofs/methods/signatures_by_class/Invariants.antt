use Rattle.std.proofs.Common.{◌≡◌, ◌++◌, drop}
use Rattle.class_table.specs.Faults.{InSome, OfRule}
use Rattle.class_table.specs.Index.{signatures_of}
use Rattle.class_table.specs.Rules.{CalledAlike}
use Rattle.class_table.proofs.Faults.{ClearBelow}
use Rattle.class_table.proofs.methods.signatures_by_class.Given as goal

abbrev pub invariant-loop-class : goal.invariant-loop-class
invariant-loop-class l = record {
  keys : signatures_of l.declared ≡ l.keys ++ signatures_of (drop l.class-index l.declared);
  clear : ClearBelow l.declared (λ number d. InSome d.methods (λ place m. OfRule 5 (CalledAlike d.methods place m))) l.class-index;
}
