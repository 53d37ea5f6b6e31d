use Rattle.std.proofs.Common.{refl, sym}
use Rattle.spec_reading.specs.ReadTerm.{called}
use Rattle.token_reading.proofs.Sequence.{failed, first, kept, taken}
use Rattle.spec_syntax.proofs.term_grammar.TermGrammar.called.Goals as goal

pub returns-else-eat-clause-reads : goal.returns-else-eat-clause-reads
unfolding called
returns-else-eat-clause-reads g c =
    rw (sym c.if-eat.ensures.found, kept _ _ _ _ c.if-eat.ensures.found c.if-eat.ensures.after) refl

pub returns-in_err-given-clause-reads : goal.returns-in_err-given-clause-reads
unfolding called
returns-in_err-given-clause-reads g c =
    failed _ _ _ _ c.from_residual.ensures.1 (rw (sym c.if-eat.ensures.found, taken _ _ _ _ c.if-eat.ensures.found c.if-eat.ensures.after) (first _ _ _ c.in_err-given.ensures.reads))

pub returns-in_ok-given-clause-reads : goal.returns-in_ok-given-clause-reads
unfolding called
returns-in_ok-given-clause-reads g c =
    rw (sym c.if-eat.ensures.found, taken _ _ _ _ c.if-eat.ensures.found c.if-eat.ensures.after, c.in_ok-given.ensures.reads) refl
