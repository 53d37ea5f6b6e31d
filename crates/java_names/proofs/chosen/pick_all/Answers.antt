use Rattle.java_names.proofs.ChosenLemmas.{method_more, methods_done}
use Rattle.java_names.proofs.chosen.pick_all.Goals as goal

pub loop-method-preserved : goal.loop-method-preserved
loop-method-preserved c =
    rw c.pick_method.ensures (method_more c.args.methods.now _ c.method-item.result c.loop-method.picks _ c.loop-method-test.true c.method-item.is c.loop-method.invariant)

pub returns : goal.returns
returns c = methods_done c.args.methods.now _ c.loop-method.picks _ c.loop-method-test.false c.loop-method.invariant
