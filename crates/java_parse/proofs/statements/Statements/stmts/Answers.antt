use Rattle.std.proofs.Common.{refl, sym}
use Rattle.java_reading.specs.ReadStmt.{value, arguments, unended, statement, stmts}
use Rattle.token_reading.proofs.Sequence.{failed, first, kept}
use Rattle.token_reading.proofs.Turns.{one_more}
use Rattle.java_parse.proofs.statements.Statements.stmts.Goals as goal

pub returns-in_err-next : goal.returns-in_err-next
unfolding stmts
returns-in_err-next g c =
    let p = c.args.self.now.parts in
    let e = one_more (λ n. stmts (value p) (arguments p) (unended p) (statement p) n c.loop-turn.found c.loop-turn.tokens) _ c.loop-turn._turn c.loop-turn-test.true c.loop-turn.invariant in
    failed _ _ _ _ c.from_residual.ensures.1 (rw (e, sym c.if-eat.ensures.found, kept _ _ _ _ c.if-eat.ensures.found c.if-eat.ensures.after) (first _ _ _ c.in_err-next.ensures))

pub loop-turn-preserved : goal.loop-turn-preserved
unfolding stmts
loop-turn-preserved g c =
    let p = c.args.self.now.parts in
    let e = one_more (λ n. stmts (value p) (arguments p) (unended p) (statement p) n c.loop-turn.found c.loop-turn.tokens) _ c.loop-turn._turn c.loop-turn-test.true c.loop-turn.invariant in
    rw (e, sym c.if-eat.ensures.found, kept _ _ _ _ c.if-eat.ensures.found c.if-eat.ensures.after, c.in_ok-next.ensures, c.in_ok-push.ensures.ok) refl
