use Rattle.std.proofs.Common.{refl}
use Rattle.java_reading.specs.ReadStmt.{for_stmt}
use Rattle.token_reading.proofs.Sequence.{failed, first}
use Rattle.java_parse.proofs.statements.Statements.for_stmt.Goals as goal

pub returns-in_err-start : goal.returns-in_err-start
unfolding for_stmt
returns-in_err-start g c =
    failed _ _ _ _ c.from_residual-in_err-start.ensures.1
    (rw c.in_ok-expect.ensures (first _ _ _ c.in_err-start.ensures))

pub returns-in_err-condition : goal.returns-in_err-condition
unfolding for_stmt
returns-in_err-condition g c =
    failed _ _ _ _ c.from_residual-in_err-condition.ensures.1
    (rw (c.in_ok-expect.ensures, c.in_ok-start.ensures) (first _ _ _ c.in_err-condition.ensures))

pub returns-in_err-update : goal.returns-in_err-update
unfolding for_stmt
returns-in_err-update g c =
    failed _ _ _ _ c.from_residual-in_err-update.ensures.1
    (rw (c.in_ok-expect.ensures, c.in_ok-start.ensures, c.in_ok-condition.ensures) (first _ _ _ c.in_err-update.ensures))

pub returns-in_err-body : goal.returns-in_err-body
unfolding for_stmt
returns-in_err-body g c =
    failed _ _ _ _ c.from_residual-in_err-body.ensures.1
    (rw (c.in_ok-expect.ensures, c.in_ok-start.ensures, c.in_ok-condition.ensures, c.in_ok-update.ensures) (first _ _ _ c.in_err-body.ensures))

pub returns : goal.returns
unfolding for_stmt
returns g c =
    rw (c.in_ok-expect.ensures, c.in_ok-start.ensures, c.in_ok-condition.ensures, c.in_ok-update.ensures, c.in_ok-body.ensures, c.in_ok-for_node.ensures) refl
