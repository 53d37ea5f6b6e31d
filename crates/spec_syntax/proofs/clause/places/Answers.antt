use Rattle.std.proofs.Common.{rules, arith}
use Rattle.std.proofs.lemmas.Grind.{common_steps}
use Rattle.token_reading.proofs.Turns.{one_more}
use Rattle.spec_reading.specs.ReadContract.{term_from, more_items}
use Rattle.spec_syntax.proofs.clause.places.Goals as goal

pub returns-then-not-eat : goal.returns-then-not-eat
unfolding more_items
returns-then-not-eat c =
    let e = one_more (λ n. more_items (term_from c.args.most 11) n c.loop-turn.found c.loop-turn.tokens) _ c.loop-turn._turn c.loop-turn-test.true c.loop-turn.invariant in
    first_of (search rules, grind (arith, common_steps))

pub returns-in_err-next : goal.returns-in_err-next
unfolding more_items
returns-in_err-next c =
    let e = one_more (λ n. more_items (term_from c.args.most 11) n c.loop-turn.found c.loop-turn.tokens) _ c.loop-turn._turn c.loop-turn-test.true c.loop-turn.invariant in
    first_of (search rules, grind (arith, common_steps))

pub loop-turn-preserved : goal.loop-turn-preserved
unfolding more_items
loop-turn-preserved c =
    let e = one_more (λ n. more_items (term_from c.args.most 11) n c.loop-turn.found c.loop-turn.tokens) _ c.loop-turn._turn c.loop-turn-test.true c.loop-turn.invariant in
    first_of (search rules, grind (arith, common_steps))
