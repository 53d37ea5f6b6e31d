use Rattle.std.proofs.Common.{refl}
use Rattle.java_reading.specs.ReadExpr.{element}
use Rattle.token_reading.proofs.Sequence.{failed, first}
use Rattle.java_parse.proofs.grammar.Grammar.element.Goals as goal

pub returns-in_err-expect-clause-reads : goal.returns-in_err-expect-clause-reads
unfolding element
returns-in_err-expect-clause-reads g c =
    failed _ _ _ _ c.from_residual-in_err-expect.ensures.1 (rw c.in_ok-index.ensures.reads (first _ _ _ c.in_err-expect.ensures))

pub returns-clause-reads : goal.returns-clause-reads
unfolding element
returns-clause-reads g c =
    rw (c.in_ok-index.ensures.reads, c.in_ok-expect.ensures, c.in_ok-tree.ensures, c.max.ensures) refl
