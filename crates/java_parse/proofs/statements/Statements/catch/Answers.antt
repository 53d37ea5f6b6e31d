use Rattle.std.proofs.Common.{refl}
use Rattle.java_reading.specs.ReadStmt.{catch}
use Rattle.token_reading.proofs.Sequence.{failed, first}
use Rattle.java_parse.proofs.statements.Statements.catch.Goals as goal

pub returns-in_err-class : goal.returns-in_err-class
unfolding catch
returns-in_err-class g c =
    failed _ _ _ _ c.from_residual-in_err-class.ensures.1
    (rw c.in_ok-expect.ensures (first _ _ _ c.in_err-class.ensures))

pub returns-in_err-name : goal.returns-in_err-name
unfolding catch
returns-in_err-name g c =
    failed _ _ _ _ c.from_residual-in_err-name.ensures.1
    (rw (c.in_ok-expect.ensures, c.in_ok-class.ensures) (first _ _ _ c.in_err-name.ensures))

pub returns-in_err-expect-2 : goal.returns-in_err-expect-2
unfolding catch
returns-in_err-expect-2 g c =
    failed _ _ _ _ c.from_residual-in_err-expect-2.ensures.1
    (rw (c.in_ok-expect.ensures, c.in_ok-class.ensures, c.in_ok-name.ensures) (first _ _ _ c.in_err-expect-2.ensures))

pub returns-in_err-body : goal.returns-in_err-body
unfolding catch
returns-in_err-body g c =
    failed _ _ _ _ c.from_residual-in_err-body.ensures.1
    (rw (c.in_ok-expect.ensures, c.in_ok-class.ensures, c.in_ok-name.ensures, c.in_ok-expect-2.ensures) (first _ _ _ c.in_err-body.ensures))

pub returns : goal.returns
unfolding catch
returns g c =
    rw (c.in_ok-expect.ensures, c.in_ok-class.ensures, c.in_ok-name.ensures, c.in_ok-expect-2.ensures, c.in_ok-body.ensures, c.in_ok-catch_clause.ensures) refl
