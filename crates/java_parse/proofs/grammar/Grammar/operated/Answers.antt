use Rattle.std.proofs.Common.{refl, sym}
use Rattle.java_reading.specs.ReadExpr.{operated}
use Rattle.java_parse.proofs.grammar.Grammar.operated.Goals as goal

pub returns-clause-reads : goal.returns-clause-reads
unfolding operated
returns-clause-reads g c =
    rw (sym c.binary_level.ensures.value, c.in_ok-right.ensures.reads, c.in_ok-tree.ensures, c.max.ensures) refl
