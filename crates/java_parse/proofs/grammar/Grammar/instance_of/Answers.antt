use Rattle.std.proofs.Common.{refl, sym}
use Rattle.token_reading.proofs.Tests.{not_below}
use Rattle.java_reading.specs.ReadExpr.{instance_of}
use Rattle.java_parse.proofs.grammar.Grammar.instance_of.Goals as goal

pub returns-clause-reads : goal.returns-clause-reads
unfolding instance_of
returns-clause-reads g c =
    rw (
      c.in_ok-ty.ensures.reads,
      sym c.first_infix.ensures,
      sym c.binds.ensures.value,
      not_below 8 c.binds.result c.if-binds-gt8.false,
      c.in_ok-instance_of.ensures,
      c.max-height.ensures,
      c.height.ensures,
    )
    refl
