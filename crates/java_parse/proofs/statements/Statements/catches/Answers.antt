use Rattle.std.proofs.Common.{rules, arith}
use Rattle.std.proofs.lemmas.Grind.{common_steps}
use Rattle.java_reading.specs.ReadStmt.{value, arguments, unended, statement, catches}
use Rattle.token_reading.proofs.Turns.{one_more}
use Rattle.java_parse.proofs.statements.Statements.catches.Goals as goal

pub returns-in_err-next : goal.returns-in_err-next
unfolding catches
returns-in_err-next g c =
    let p = c.args.self.now.parts in
    let e = one_more (λ n. catches (value p) (arguments p) (unended p) (statement p) n c.loop-turn.found c.loop-turn.tokens) _ c.loop-turn._turn c.loop-turn-test.true c.loop-turn.invariant in
    first_of (search rules, grind (arith, common_steps))

pub loop-turn-preserved : goal.loop-turn-preserved
unfolding catches
loop-turn-preserved g c =
    let p = c.args.self.now.parts in
    let e = one_more (λ n. catches (value p) (arguments p) (unended p) (statement p) n c.loop-turn.found c.loop-turn.tokens) _ c.loop-turn._turn c.loop-turn-test.true c.loop-turn.invariant in
    first_of (search rules, grind (arith, common_steps))
