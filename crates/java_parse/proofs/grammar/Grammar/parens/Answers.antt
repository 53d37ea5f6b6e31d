use Rattle.std.proofs.Common.{refl, sym}
use Rattle.java_reading.specs.ReadExpr.{parens}
use Rattle.token_reading.proofs.Sequence.{failed, first}
use Rattle.java_parse.proofs.grammar.Grammar.parens.Goals as goal

pub returns-then-casts-clause-reads : goal.returns-then-casts-clause-reads
unfolding parens
returns-then-casts-clause-reads g c =
    rw (sym c.if-casts.ensures) c.cast.ensures.reads

pub returns-in_err-inner-clause-reads : goal.returns-in_err-inner-clause-reads
unfolding parens
returns-in_err-inner-clause-reads g c =
    failed _ _ _ _ c.from_residual.ensures.1 (rw (sym c.if-casts.ensures) (first _ _ _ c.in_err-inner.ensures.reads))

pub returns-in_err-expect-clause-reads : goal.returns-in_err-expect-clause-reads
unfolding parens
returns-in_err-expect-clause-reads g c =
    failed _ _ _ _ c.from_residual-in_err-expect.ensures.1
    (rw (sym c.if-casts.ensures, c.in_ok-inner.ensures.reads) (first _ _ _ c.in_err-expect.ensures))

pub returns-clause-reads : goal.returns-clause-reads
unfolding parens
returns-clause-reads g c =
    rw (sym c.if-casts.ensures, c.in_ok-inner.ensures.reads, c.in_ok-expect.ensures, c.in_ok-paren.ensures) refl
