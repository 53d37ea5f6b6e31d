use Rattle.std.proofs.Common.{rules, arith}
use Rattle.std.proofs.lemmas.Grind.{common_steps}
use Rattle.token_reading.specs.ReadType.{brackets}
use Rattle.token_reading.proofs.Turns.{one_more}
use Rattle.token_reading.proofs.tokens.Tokens.all_brackets.Goals as goal

pub loop-turn-preserved : goal.loop-turn-preserved
unfolding brackets
loop-turn-preserved c =
    let e =
    one_more (λ n. brackets n c.loop-turn.found c.loop-turn.self) _
    c.loop-turn._turn c.loop-turn-test.true c.loop-turn.invariant.0 in
    (first_of (search rules, grind (arith, common_steps)), omega arith, omega arith)
