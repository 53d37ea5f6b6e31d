use Rattle.std.proofs.Common.{refl, sym}
use Rattle.java_reading.specs.ReadExpr.{member}
use Rattle.token_reading.proofs.Sequence.{failed, first, kept, taken}
use Rattle.java_parse.proofs.grammar.Grammar.member.Goals as goal

pub returns-in_err-given-clause-reads : goal.returns-in_err-given-clause-reads
unfolding member
returns-in_err-given-clause-reads g c =
    failed _ _ _ _ c.from_residual-in_err-given.ensures.1
    (rw (c.in_ok-name.ensures, sym c.if-eat.ensures.found, taken _ _ _ _ c.if-eat.ensures.found c.if-eat.ensures.after) (first _ _ _ c.in_err-given.ensures.reads))

pub returns-in_ok-tree-clause-reads : goal.returns-in_ok-tree-clause-reads
unfolding member
returns-in_ok-tree-clause-reads g c =
    rw (c.in_ok-name.ensures, sym c.if-eat.ensures.found, taken _ _ _ _ c.if-eat.ensures.found c.if-eat.ensures.after, c.in_ok-given.ensures.reads, c.in_ok-tree.ensures, c.max.ensures) refl

pub returns-in_ok-field-clause-reads : goal.returns-in_ok-field-clause-reads
unfolding member
returns-in_ok-field-clause-reads g c =
    rw (c.in_ok-name.ensures, sym c.if-eat.ensures.found, kept _ _ _ _ c.if-eat.ensures.found c.if-eat.ensures.after, c.in_ok-field.ensures) refl
