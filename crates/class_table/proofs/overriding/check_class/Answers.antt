use Rattle.class_table.proofs.Faults.{clear_end}
use Rattle.class_table.proofs.overriding.check_class.Goals as goal

pub returns-clause-clear : goal.returns-clause-clear
returns-clause-clear c = clear_end _ _ c.loop-method.method-index c.loop-method-test.false c.loop-method.invariant
