use Rattle.std.proofs.Common.{◌≡◌, ap, ◌+◌}
use Rattle.class_table.proofs.Faults.{clear_step, clear_end}
use Rattle.class_table.proofs.overriding.check_nearest.Goals as goal

pub loop-class-preserved : goal.loop-class-preserved
loop-class-preserved c =
    let e : c.loop-class.number ≡ c.loop-class.class-index = c.loop-class.invariant.number in
    let here = c.in_ok-check_class.ensures.clear in
    let got = c.get.ensures in
    let methods = c.as_slice.ensures in
    record {
      number = ap (λ n. n + 1) e;
      clear = clear_step _ _ _ _ c.loop-class.invariant.clear c.loop-class-test.true c.class-item.is (rw (← got, ← methods, ← e) here);
    }

pub returns-clause-clear : goal.returns-clause-clear
returns-clause-clear c = clear_end _ _ c.loop-class.class-index c.loop-class-test.false c.loop-class.invariant.clear
