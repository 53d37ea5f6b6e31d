use Rattle.std.proofs.Common.{arith}
use Rattle.std.proofs.lemmas.Grind.{common_steps}
use Rattle.class_table.proofs.Faults.{clear_step, clear_end}
use Rattle.class_table.proofs.fields.names_by_class.Goals as goal

pub loop-class-preserved : goal.loop-class-preserved
loop-class-preserved c =
    let here = c.in_ok-names_of_fields.ensures in
    record {
      keys = grind (arith, common_steps);
      clear = clear_step _ _ _ _ c.loop-class.invariant.clear c.loop-class-test.true c.class-item.is (rw (← c.as_slice.ensures) here.clear);
    }

pub returns-clause-clear : goal.returns-clause-clear
returns-clause-clear c = clear_end _ _ c.loop-class.class-index c.loop-class-test.false c.loop-class.invariant.clear
