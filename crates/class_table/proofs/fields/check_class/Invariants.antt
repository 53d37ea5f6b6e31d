use Rattle.class_table.specs.Faults.{OfRule}
use Rattle.class_table.specs.Rules.{FieldHidden}
use Rattle.class_table.proofs.Faults.{ClearBelow}
use Rattle.class_table.proofs.fields.check_class.Given as goal

abbrev pub invariant-loop-field : goal.invariant-loop-field
invariant-loop-field l = ClearBelow l.fields (λ place f. OfRule 4 (FieldHidden l.index.declared l.class f)) l.field-index
