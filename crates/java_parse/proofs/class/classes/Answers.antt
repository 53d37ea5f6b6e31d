use Rattle.std.proofs.Common.{rules, arith}
use Rattle.std.proofs.lemmas.Grind.{common_steps}
use Rattle.java_reading.specs.ReadClass.{classes}
use Rattle.token_reading.proofs.Turns.{one_more}
use Rattle.java_parse.proofs.class.classes.Goals as goal

pub returns-in_err-next : goal.returns-in_err-next
unfolding classes
returns-in_err-next c =
    let e = one_more (λ n. classes c.args.most n c.loop-turn.found c.loop-turn.tokens) _ c.loop-turn._turn c.loop-turn-test.true c.loop-turn.invariant in
    first_of (search rules, grind (arith, common_steps))

pub loop-turn-preserved : goal.loop-turn-preserved
unfolding classes
loop-turn-preserved c =
    let e = one_more (λ n. classes c.args.most n c.loop-turn.found c.loop-turn.tokens) _ c.loop-turn._turn c.loop-turn-test.true c.loop-turn.invariant in
    first_of (search rules, grind (arith, common_steps))
