use Rattle.std.proofs.Common.{◌∙◌, ap, drop, sym}
use Rattle.token_reading.proofs.Turns.{no_more, one_more}
use Rattle.spec_syntax.proofs.Suffixes.{skip_next}
use Rattle.spec_syntax.proofs.entry.skip_all.Goals as goal

pub loop-turn-preserved : goal.loop-turn-preserved
loop-turn-preserved c =
    let e = one_more (λ n. drop n c.loop-turn.tokens) _ c.loop-turn._turn c.loop-turn-test.true c.loop-turn.invariant in
    e ∙ skip_next _ c.loop-turn.tokens ∙ ap (drop _) (sym c.skip.ensures)

pub returns : goal.returns
returns c = sym (no_more (λ n. drop n c.loop-turn.tokens) _ c.loop-turn._turn c.loop-turn-test.false c.loop-turn.invariant)
