use Rattle.std.proofs.Common.{arith}
use Rattle.std.proofs.lemmas.Grind.{common_steps}
use Rattle.class_table.proofs.Faults.{clear_step, clear_end}
use Rattle.class_table.proofs.declare.declare.Goals as goal

pub loop-class-preserved : goal.loop-class-preserved
loop-class-preserved c = record {
  number = omega arith;
  all = grind (arith, common_steps);
  clear = clear_step _ _ _ _ c.loop-class.invariant.clear c.loop-class-test.true c.class-item.is c.in_ok-declaration.ensures.clear;
}

pub returns-clause-clear : goal.returns-clause-clear
returns-clause-clear c = clear_end _ _ c.loop-class.class-index (omega arith) c.loop-class.invariant.clear
