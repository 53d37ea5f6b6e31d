use Rattle.std.proofs.Common.{rules, arith}
use Rattle.std.proofs.lemmas.Grind.{common_steps}
use Rattle.java_reading.specs.ReadClass.{modifiers}
use Rattle.token_reading.proofs.Turns.{one_more}
use Rattle.java_parse.proofs.header.modifiers.Goals as goal

pub loop-turn-preserved : goal.loop-turn-preserved
unfolding modifiers
loop-turn-preserved c =
    let e = one_more (λ n. modifiers n c.loop-turn.found c.loop-turn.tokens) _ c.loop-turn._turn c.loop-turn-test.true c.loop-turn.invariant in
    first_of (search rules, grind (arith, common_steps))
