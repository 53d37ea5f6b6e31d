use Rattle.std.proofs.Common.{refl}
use Rattle.java_reading.specs.ReadExpr.{super_call}
use Rattle.token_reading.proofs.Sequence.{failed, first}
use Rattle.java_parse.proofs.grammar.Grammar.super_call.Goals as goal

pub returns-in_err-name-clause-reads : goal.returns-in_err-name-clause-reads
unfolding super_call
returns-in_err-name-clause-reads g c =
    failed _ _ _ _ c.from_residual-in_err-name.ensures.1
    (rw c.in_ok-expect.ensures (first _ _ _ c.in_err-name.ensures))

pub returns-in_err-expect-2-clause-reads : goal.returns-in_err-expect-2-clause-reads
unfolding super_call
returns-in_err-expect-2-clause-reads g c =
    failed _ _ _ _ c.from_residual-in_err-expect-2.ensures.1
    (rw (c.in_ok-expect.ensures, c.in_ok-name.ensures) (first _ _ _ c.in_err-expect-2.ensures))

pub returns-in_err-given-clause-reads : goal.returns-in_err-given-clause-reads
unfolding super_call
returns-in_err-given-clause-reads g c =
    failed _ _ _ _ c.from_residual-in_err-given.ensures.1
    (rw (c.in_ok-expect.ensures, c.in_ok-name.ensures, c.in_ok-expect-2.ensures) (first _ _ _ c.in_err-given.ensures.reads))

pub returns-clause-reads : goal.returns-clause-reads
unfolding super_call
returns-clause-reads g c =
    rw (c.in_ok-expect.ensures, c.in_ok-name.ensures, c.in_ok-expect-2.ensures, c.in_ok-given.ensures.reads) refl
