use Rattle.std.proofs.Common.{refl, sym}
use Rattle.java_reading.specs.ReadStmt.{assignment}
use Rattle.token_reading.proofs.Sequence.{failed, first}
use Rattle.java_parse.proofs.simple.assignment.Goals as goal

pub returns-in_err-value : goal.returns-in_err-value
unfolding assignment
returns-in_err-value c =
    failed _ _ _ _ c.from_residual.ensures.1 (rw (sym c.if-not-is_post.ensures) (first _ _ _ c.in_err-value.ensures))

pub returns : goal.returns
unfolding assignment
returns c =
    rw (sym c.if-not-is_post.ensures, c.in_ok-value.ensures) refl
