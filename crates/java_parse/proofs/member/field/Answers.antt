use Rattle.std.proofs.Common.{refl}
use Rattle.java_reading.specs.ReadClass.{field}
use Rattle.token_reading.proofs.Sequence.{failed, first}
use Rattle.java_parse.proofs.member.field.Goals as goal

pub returns-in_err-expect : goal.returns-in_err-expect
unfolding field
returns-in_err-expect c =
    failed _ _ _ _ c.from_residual-in_err-expect.ensures.1
    (rw c.in_ok-value.ensures (first _ _ _ c.in_err-expect.ensures))

pub returns : goal.returns
unfolding field
returns c =
    rw (c.in_ok-value.ensures, c.in_ok-expect.ensures) refl
