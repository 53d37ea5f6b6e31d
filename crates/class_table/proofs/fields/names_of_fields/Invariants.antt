use Rattle.std.proofs.Common.{◌≡◌, take}
use Rattle.class_table.specs.Faults.{OfRule}
use Rattle.class_table.specs.Index.{field_names}
use Rattle.class_table.specs.Rules.{FieldAgain}
use Rattle.class_table.proofs.Faults.{ClearBelow}
use Rattle.class_table.proofs.fields.names_of_fields.Given as goal

abbrev pub invariant-loop-field : goal.invariant-loop-field
invariant-loop-field l = record {
  keys : l.keys ≡ field_names (take l.field-index l.fields);
  clear : ClearBelow l.fields (λ place f. OfRule 4 (FieldAgain l.fields place f)) l.field-index;
}
