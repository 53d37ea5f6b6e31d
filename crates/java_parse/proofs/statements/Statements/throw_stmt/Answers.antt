use Rattle.std.proofs.Common.{refl}
use Rattle.java_reading.specs.ReadStmt.{throw_stmt}
use Rattle.token_reading.proofs.Sequence.{failed, first}
use Rattle.java_parse.proofs.statements.Statements.throw_stmt.Goals as goal

pub returns-in_err-expect : goal.returns-in_err-expect
unfolding throw_stmt
returns-in_err-expect g c =
    failed _ _ _ _ c.from_residual-in_err-expect.ensures.1
    (rw c.in_ok-value.ensures (first _ _ _ c.in_err-expect.ensures))

pub returns : goal.returns
unfolding throw_stmt
returns g c =
    rw (c.in_ok-value.ensures, c.in_ok-expect.ensures) refl
