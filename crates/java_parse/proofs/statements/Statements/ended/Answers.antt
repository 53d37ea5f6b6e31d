use Rattle.std.proofs.Common.{refl, sym}
use Rattle.java_reading.specs.ReadStmt.{ended}
use Rattle.token_reading.proofs.Sequence.{failed, first, kept}
use Rattle.java_parse.proofs.statements.Statements.ended.Goals as goal

pub returns-in_err-value : goal.returns-in_err-value
unfolding ended
returns-in_err-value g c =
    failed _ _ _ _ c.from_residual.ensures.1
    (rw (sym c.if-eat.ensures.found, kept _ _ _ _ c.if-eat.ensures.found c.if-eat.ensures.after) (first _ _ _ c.in_err-value.ensures))

pub returns-in_err-expect : goal.returns-in_err-expect
unfolding ended
returns-in_err-expect g c =
    failed _ _ _ _ c.from_residual-in_err-expect.ensures.1
    (rw (sym c.if-eat.ensures.found, kept _ _ _ _ c.if-eat.ensures.found c.if-eat.ensures.after, c.in_ok-value.ensures) (first _ _ _ c.in_err-expect.ensures))

pub returns : goal.returns
unfolding ended
returns g c =
    rw (sym c.if-eat.ensures.found, kept _ _ _ _ c.if-eat.ensures.found c.if-eat.ensures.after, c.in_ok-value.ensures, c.in_ok-expect.ensures) refl
