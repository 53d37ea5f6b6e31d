use Rattle.std.proofs.Common.{refl}
use Rattle.java_reading.specs.ReadStmt.{condition}
use Rattle.token_reading.proofs.Sequence.{failed, first}
use Rattle.java_parse.proofs.statements.Statements.condition.Goals as goal

pub returns-in_err-condition : goal.returns-in_err-condition
unfolding condition
returns-in_err-condition g c =
    failed _ _ _ _ c.from_residual-in_err-condition.ensures.1
    (rw c.in_ok-expect.ensures (first _ _ _ c.in_err-condition.ensures))

pub returns-in_err-expect-2 : goal.returns-in_err-expect-2
unfolding condition
returns-in_err-expect-2 g c =
    failed _ _ _ _ c.from_residual-in_err-expect-2.ensures.1
    (rw (c.in_ok-expect.ensures, c.in_ok-condition.ensures) (first _ _ _ c.in_err-expect-2.ensures))

pub returns : goal.returns
unfolding condition
returns g c =
    rw (c.in_ok-expect.ensures, c.in_ok-condition.ensures, c.in_ok-expect-2.ensures) refl
