use Rattle.std.proofs.Common.{rules, arith}
use Rattle.std.proofs.lemmas.Grind.{common_steps}
use Rattle.token_reading.specs.ReadType.{more_params}
use Rattle.token_reading.proofs.Turns.{one_more}
use Rattle.token_reading.proofs.tokens.Tokens.more_params.Goals as goal

pub returns-in_err-expect : goal.returns-in_err-expect
unfolding more_params
returns-in_err-expect c =
    let e =
    one_more (λ n. more_params c.args.most n c.loop-turn.found c.loop-turn.self) _
    c.loop-turn._turn c.loop-turn-test.true c.loop-turn.invariant in
    first_of (search rules, grind (arith, common_steps))

pub returns-then-not-eat : goal.returns-then-not-eat
unfolding more_params
returns-then-not-eat c =
    let e =
    one_more (λ n. more_params c.args.most n c.loop-turn.found c.loop-turn.self) _
    c.loop-turn._turn c.loop-turn-test.true c.loop-turn.invariant in
    first_of (search rules, grind (arith, common_steps))

pub loop-turn-preserved : goal.loop-turn-preserved
unfolding more_params
loop-turn-preserved c =
    let e =
    one_more (λ n. more_params c.args.most n c.loop-turn.found c.loop-turn.self) _
    c.loop-turn._turn c.loop-turn-test.true c.loop-turn.invariant in
    first_of (search rules, grind (arith, common_steps))
