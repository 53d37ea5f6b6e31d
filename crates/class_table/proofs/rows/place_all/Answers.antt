use Rattle.std.proofs.Common.{◌≡◌, ap, ◌+◌, arith, Some}
use Rattle.std.proofs.lemmas.Grind.{common_steps}
use Rattle.std.specs.List.{slice_get}
use Rattle.class_table.proofs.Faults.{clear_step, clear_end, item}
use Rattle.class_table.proofs.rows.place_all.Goals as goal

pub place_class-requires-clause-class : goal.place_class-requires-clause-class
place_class-requires-clause-class c =
    let e : c.loop-class.number ≡ c.loop-class.class-index = c.loop-class.invariant.number in
    let found : slice_get c.args.declared.now c.loop-class.class-index ≡ Some c.class-item.result = item _ _ _ c.loop-class-test.true c.class-item.is in
    rw (e, ← c.requires.same) found

pub loop-class-preserved : goal.loop-class-preserved
loop-class-preserved c =
    let e : c.loop-class.number ≡ c.loop-class.class-index = c.loop-class.invariant.number in
    let here = c.in_ok-fields.ensures.clear in
    record {
      number = ap (λ n. n + 1) e;
      parts = grind (arith, common_steps);
      clear = clear_step _ _ _ _ c.loop-class.invariant.clear c.loop-class-test.true c.class-item.is (rw (← e) here);
    }

pub returns-clause-clear : goal.returns-clause-clear
returns-clause-clear c = clear_end _ _ c.loop-class.class-index c.loop-class-test.false c.loop-class.invariant.clear
