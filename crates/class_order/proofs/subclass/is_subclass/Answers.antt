use Rattle.std.proofs.Common.{◌≡◌, ◌∙◌, ◌-◌, ◌+◌, ◌<◌, suc, length, sym, arith, rules}
use Rattle.class_order.proofs.Lines.{begins, no_step_left, is_missing, is_last, goes_up}
use Rattle.class_order.proofs.subclass.is_subclass.Goals as goal

pub loop-init : goal.loop-init
loop-init c = begins _ _ _

pub returns-in_default : goal.returns-in_default
returns-in_default c =
    let left : 0 < length c.args.classes.now - c.loop.counter = omega (arith, c.loop-test.true, c.len-end.ensures) in
    sym (c.loop.invariant ∙ is_missing _ _ _ _ _ left (search rules))

pub returns-in-None : goal.returns-in-None
returns-in-None c =
    let left : 0 < length c.args.classes.now - c.loop.counter = omega (arith, c.loop-test.true, c.len-end.ensures) in
    sym (c.loop.invariant ∙ is_last _ _ _ _ _ c.in-Some.here.now left (search rules) c.in-None.is)

pub loop-preserved : goal.loop-preserved
loop-preserved c =
    let left : length c.args.classes.now - c.loop.counter ≡ suc (length c.args.classes.now - (c.loop.counter + 1)) = omega (arith, c.loop-test.true, c.len-end.ensures) in
    c.loop.invariant ∙ goes_up _ _ _ _ _ _ _ c.in-Some.here.now left (search rules) c.in-Some-parent.is

pub returns : goal.returns
returns c = sym (c.loop.invariant ∙ no_step_left _ _ _ _ _ (omega (arith, c.loop-test.false, c.len-end.ensures)))
