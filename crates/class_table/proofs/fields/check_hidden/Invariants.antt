use Rattle.std.proofs.Common.{◌≡◌}
use Rattle.class_table.specs.Faults.{InSome, OfRule}
use Rattle.class_table.specs.Rules.{FieldHidden}
use Rattle.class_table.proofs.Faults.{ClearBelow}
use Rattle.class_table.proofs.fields.check_hidden.Given as goal

abbrev pub invariant-loop-class : goal.invariant-loop-class
invariant-loop-class l = record {
  number : l.number ≡ l.class-index;
  clear : ClearBelow l.declared (λ number d. InSome d.fields (λ place f. OfRule 4 (FieldHidden l.index.declared number f))) l.class-index;
}
