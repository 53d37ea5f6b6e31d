use Rattle.std.proofs.Common.{refl}
use Rattle.java_reading.specs.ReadExpr.{instance}
use Rattle.token_reading.proofs.Sequence.{failed, first}
use Rattle.java_parse.proofs.grammar.Grammar.instance.Goals as goal

pub returns-in_err-given-clause-reads : goal.returns-in_err-given-clause-reads
unfolding instance
returns-in_err-given-clause-reads g c =
    failed _ _ _ _ c.from_residual-in_err-given.ensures.1
    (rw c.in_ok-expect.ensures (first _ _ _ c.in_err-given.ensures.reads))

pub returns-clause-reads : goal.returns-clause-reads
unfolding instance
returns-clause-reads g c =
    rw (c.in_ok-expect.ensures, c.in_ok-given.ensures.reads) refl
