use Rattle.class_table.proofs.Faults.{clear_end}
use Rattle.class_table.proofs.fields.check_class.Goals as goal

pub returns-clause-clear : goal.returns-clause-clear
returns-clause-clear c = clear_end _ _ c.loop-field.field-index c.loop-field-test.false c.loop-field.invariant
