use Rattle.std.proofs.Common.{refl, sym}
use Rattle.java_reading.specs.ReadExpr.{cast}
use Rattle.token_reading.proofs.Sequence.{failed, first}
use Rattle.java_parse.proofs.grammar.Grammar.cast.Goals as goal

pub returns-then-not-castable-clause-reads : goal.returns-then-not-castable-clause-reads
unfolding cast
returns-then-not-castable-clause-reads g c =
    rw (c.in_ok-ty.ensures.reads, sym c.if-not-castable.ensures) refl

pub returns-in_err-expect-clause-reads : goal.returns-in_err-expect-clause-reads
unfolding cast
returns-in_err-expect-clause-reads g c =
    failed _ _ _ _ c.from_residual-in_err-expect.ensures.1
    (rw (c.in_ok-ty.ensures.reads, sym c.if-not-castable.ensures) (first _ _ _ c.in_err-expect.ensures))

pub returns-in_err-operand-clause-reads : goal.returns-in_err-operand-clause-reads
unfolding cast
returns-in_err-operand-clause-reads g c =
    failed _ _ _ _ c.from_residual-in_err-operand.ensures.1
    (rw (c.in_ok-ty.ensures.reads, sym c.if-not-castable.ensures, c.in_ok-expect.ensures) (first _ _ _ c.in_err-operand.ensures.reads))

pub returns-clause-reads : goal.returns-clause-reads
unfolding cast
returns-clause-reads g c =
    rw (c.in_ok-ty.ensures.reads, sym c.if-not-castable.ensures, c.in_ok-expect.ensures, c.in_ok-operand.ensures.reads, c.in_ok-cast.ensures, c.max-height.ensures, c.height.ensures) refl
