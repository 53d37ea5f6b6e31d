use Rattle.std.proofs.Common.{refl}
use Rattle.java_reading.specs.ReadStmt.{if_stmt}
use Rattle.token_reading.proofs.Sequence.{failed, first}
use Rattle.java_parse.proofs.statements.Statements.if_stmt.Goals as goal

pub returns-in_err-then : goal.returns-in_err-then
unfolding if_stmt
returns-in_err-then g c =
    failed _ _ _ _ c.from_residual-in_err-then.ensures.1
    (rw c.in_ok-condition.ensures (first _ _ _ c.in_err-then.ensures))

pub returns-in_err-other : goal.returns-in_err-other
unfolding if_stmt
returns-in_err-other g c =
    failed _ _ _ _ c.from_residual-in_err-other.ensures.1
    (rw (c.in_ok-condition.ensures, c.in_ok-then.ensures) (first _ _ _ c.in_err-other.ensures))

pub returns : goal.returns
unfolding if_stmt
returns g c =
    rw (c.in_ok-condition.ensures, c.in_ok-then.ensures, c.in_ok-other.ensures, c.in_ok-if_node.ensures) refl
