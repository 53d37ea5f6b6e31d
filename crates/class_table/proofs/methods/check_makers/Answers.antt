use Rattle.class_table.proofs.Faults.{clear_step, clear_end}
use Rattle.class_table.proofs.methods.check_makers.Goals as goal

pub loop-class-preserved : goal.loop-class-preserved
loop-class-preserved c = clear_step _ _ _ _ c.loop-class.invariant c.loop-class-test.true c.class-item.is (rw (← c.get.ensures, ← c.as_slice.ensures) c.in_ok-check_arities.ensures.clear)

pub returns-clause-clear : goal.returns-clause-clear
returns-clause-clear c = clear_end _ _ c.loop-class.class-index c.loop-class-test.false c.loop-class.invariant
