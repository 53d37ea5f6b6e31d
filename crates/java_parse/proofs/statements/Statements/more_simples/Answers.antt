use Rattle.std.proofs.Common.{rules, arith}
use Rattle.std.proofs.lemmas.Grind.{common_steps}
use Rattle.java_reading.specs.ReadStmt.{value, arguments, unended, statement, more_simples}
use Rattle.token_reading.proofs.Turns.{one_more}
use Rattle.java_parse.proofs.statements.Statements.more_simples.Goals as goal

pub returns-in_err-expect : goal.returns-in_err-expect
unfolding more_simples
returns-in_err-expect g c =
    let p = c.args.self.now.parts in
    let e = one_more (λ n. more_simples (value p) (arguments p) (unended p) (statement p) c.args.close n c.loop-turn.found c.loop-turn.tokens) _ c.loop-turn._turn c.loop-turn-test.true c.loop-turn.invariant in
    first_of (search rules, grind (arith, common_steps))

pub returns-then-not-eat : goal.returns-then-not-eat
unfolding more_simples
returns-then-not-eat g c =
    let p = c.args.self.now.parts in
    let e = one_more (λ n. more_simples (value p) (arguments p) (unended p) (statement p) c.args.close n c.loop-turn.found c.loop-turn.tokens) _ c.loop-turn._turn c.loop-turn-test.true c.loop-turn.invariant in
    first_of (search rules, grind (arith, common_steps))

pub loop-turn-preserved : goal.loop-turn-preserved
unfolding more_simples
loop-turn-preserved g c =
    let p = c.args.self.now.parts in
    let e = one_more (λ n. more_simples (value p) (arguments p) (unended p) (statement p) c.args.close n c.loop-turn.found c.loop-turn.tokens) _ c.loop-turn._turn c.loop-turn-test.true c.loop-turn.invariant in
    first_of (search rules, grind (arith, common_steps))
