use Rattle.std.proofs.Common.{refl}
use Rattle.java_reading.specs.ReadExpr.{array}
use Rattle.token_reading.proofs.Sequence.{failed, first}
use Rattle.java_parse.proofs.grammar.Grammar.array.Goals as goal

pub returns-in_err-size-clause-reads : goal.returns-in_err-size-clause-reads
unfolding array
returns-in_err-size-clause-reads g c =
    failed _ _ _ _ c.from_residual-in_err-size.ensures.1 (rw c.in_ok-expect.ensures (first _ _ _ c.in_err-size.ensures.reads))

pub returns-in_err-expect-2-clause-reads : goal.returns-in_err-expect-2-clause-reads
unfolding array
returns-in_err-expect-2-clause-reads g c =
    failed _ _ _ _ c.from_residual-in_err-expect-2.ensures.1
    (rw (c.in_ok-expect.ensures, c.in_ok-size.ensures.reads) (first _ _ _ c.in_err-expect-2.ensures))

pub returns-in_err-dimensions-clause-reads : goal.returns-in_err-dimensions-clause-reads
unfolding array
returns-in_err-dimensions-clause-reads g c =
    failed _ _ _ _ c.from_residual-in_err-dimensions.ensures.1
    (rw (c.in_ok-expect.ensures, c.in_ok-size.ensures.reads, c.in_ok-expect-2.ensures) (first _ _ _ c.in_err-dimensions.ensures.reads))

pub returns-clause-reads : goal.returns-clause-reads
unfolding array
returns-clause-reads g c =
    rw (c.in_ok-expect.ensures, c.in_ok-size.ensures.reads, c.in_ok-expect-2.ensures, c.in_ok-dimensions.ensures.reads, c.in_ok-tree.ensures, c.max.ensures) refl
