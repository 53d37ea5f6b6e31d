use Rattle.std.proofs.Common.{refl}
use Rattle.java_reading.specs.ReadStmt.{while_stmt}
use Rattle.token_reading.proofs.Sequence.{failed, first}
use Rattle.java_parse.proofs.statements.Statements.while_stmt.Goals as goal

pub returns-in_err-body : goal.returns-in_err-body
unfolding while_stmt
returns-in_err-body g c =
    failed _ _ _ _ c.from_residual-in_err-body.ensures.1
    (rw c.in_ok-condition.ensures (first _ _ _ c.in_err-body.ensures))

pub returns : goal.returns
unfolding while_stmt
returns g c =
    rw (c.in_ok-condition.ensures, c.in_ok-body.ensures, c.in_ok-while_node.ensures) refl
