use Rattle.std.proofs.Common.{refl}
use Rattle.java_reading.specs.ReadExpr.{conditional}
use Rattle.token_reading.proofs.Sequence.{failed, first}
use Rattle.java_parse.proofs.grammar.Grammar.conditional.Goals as goal

pub returns-in_err-expect-clause-reads : goal.returns-in_err-expect-clause-reads
unfolding conditional
returns-in_err-expect-clause-reads g c =
    failed _ _ _ _ c.from_residual-in_err-expect.ensures.1 (rw c.in_ok-then.ensures.reads (first _ _ _ c.in_err-expect.ensures))

pub returns-in_err-other-clause-reads : goal.returns-in_err-other-clause-reads
unfolding conditional
returns-in_err-other-clause-reads g c =
    failed _ _ _ _ c.from_residual-in_err-other.ensures.1
    (rw (c.in_ok-then.ensures.reads, c.in_ok-expect.ensures) (first _ _ _ c.in_err-other.ensures.reads))

pub returns-clause-reads : goal.returns-clause-reads
unfolding conditional
returns-clause-reads g c =
    rw (c.in_ok-then.ensures.reads, c.in_ok-expect.ensures, c.in_ok-other.ensures.reads, c.in_ok-tree.ensures, c.max-2.ensures, c.max.ensures) refl
