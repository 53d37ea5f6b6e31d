use Rattle.std.proofs.Common.{refl, sym}
use Rattle.java_reading.specs.ReadExpr.{named}
use Rattle.token_reading.proofs.Sequence.{failed, first, kept, taken}
use Rattle.java_parse.proofs.grammar.Grammar.named.Goals as goal

pub returns-else-eat-clause-reads : goal.returns-else-eat-clause-reads
unfolding named
returns-else-eat-clause-reads g c =
    rw (sym c.if-eat.ensures.found, kept _ _ _ _ c.if-eat.ensures.found c.if-eat.ensures.after) refl

pub returns-in_err-given-clause-reads : goal.returns-in_err-given-clause-reads
unfolding named
returns-in_err-given-clause-reads g c =
    failed _ _ _ _ c.from_residual.ensures.1 (rw (sym c.if-eat.ensures.found, taken _ _ _ _ c.if-eat.ensures.found c.if-eat.ensures.after) (first _ _ _ c.in_err-given.ensures.reads))

pub returns-in_ok-given-clause-reads : goal.returns-in_ok-given-clause-reads
unfolding named
returns-in_ok-given-clause-reads g c =
    rw (sym c.if-eat.ensures.found, taken _ _ _ _ c.if-eat.ensures.found c.if-eat.ensures.after, c.in_ok-given.ensures.reads) refl
