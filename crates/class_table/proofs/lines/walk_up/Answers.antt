use Rattle.std.proofs.Common.{rules, ◌≡◌, ◌-◌, length, arith, refl}
use Rattle.class_table.specs.Ancestors.{up}
use Rattle.class_table.proofs.AncestorLemmas.{walk_top, walk_line, walk_next}
use Rattle.class_table.proofs.lines.walk_up.Goals as goal

pub loop-init : goal.loop-init
unfolding up
loop-init c =
    let e : length c.args.parents.now - 0 ≡ length c.args.parents.now = omega arith in
    record { line = rw e (search rules); next = refl }

pub loop-preserved : goal.loop-preserved
loop-preserved c = record {
  line = walk_line _ _ c.loop.line _ c.loop.counter c.in-Some.here c.loop.next _ c.loop-test.true c.in-Some.is c.loop.invariant.line c.in_ok-push.ensures.ok c.parent-next.ensures;
  next = walk_next _ _ c.loop.counter c.in-Some.here c.loop.next _ c.in-Some.is c.loop.invariant.next c.parent-next.ensures;
}

pub returns-in_default : goal.returns-in_default
returns-in_default c = walk_top _ _ c.loop.line c.loop.counter c.loop.next c.loop.auto.counter-end c.in_default.is c.loop.invariant.line c.loop.invariant.next

pub returns-in-None : goal.returns-in-None
returns-in-None c = walk_top _ _ c.loop.line c.loop.counter c.loop.next c.loop.auto.counter-end c.in-None.is c.loop.invariant.line c.loop.invariant.next
