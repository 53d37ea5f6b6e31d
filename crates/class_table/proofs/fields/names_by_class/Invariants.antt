use Rattle.std.proofs.Common.{◌≡◌, ◌++◌, drop}
use Rattle.class_table.specs.Faults.{InSome, OfRule}
use Rattle.class_table.specs.Index.{field_names_of}
use Rattle.class_table.specs.Rules.{FieldAgain}
use Rattle.class_table.proofs.Faults.{ClearBelow}
use Rattle.class_table.proofs.fields.names_by_class.Given as goal

abbrev pub invariant-loop-class : goal.invariant-loop-class
invariant-loop-class l = record {
  keys : field_names_of l.declared ≡ l.keys ++ field_names_of (drop l.class-index l.declared);
  clear : ClearBelow l.declared (λ number d. InSome d.fields (λ place f. OfRule 4 (FieldAgain d.fields place f))) l.class-index;
}
