use Rattle.java_names.proofs.ChosenLemmas.{class_more, classes_done, chosen_at_first}
use Rattle.java_names.proofs.symbol.Symbols.chosen.Goals as goal

pub loop-above-init : goal.loop-above-init
loop-above-init c = rw (c.in_ok-picks.ensures, c.len.ensures, c.line-above-items.ensures) (chosen_at_first c.args.self.now c.args.class)

pub loop-above-preserved : goal.loop-above-preserved
loop-above-preserved c =
    rw (c.pick_all.ensures, c.methods_at.ensures) (class_more c.args.self.now c.line-above-items.result.now _ c.loop-above.picks _ c.loop-above-test.true c.loop-above.invariant)

pub returns : goal.returns
returns c = classes_done c.args.self.now c.line-above-items.result.now _ c.loop-above.picks _ c.loop-above-test.false c.loop-above.invariant
