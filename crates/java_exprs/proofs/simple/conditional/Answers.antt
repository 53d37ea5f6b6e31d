use Rattle.java_exprs.proofs.CleanLemmas.{conditional_clean}
use Rattle.java_exprs.proofs.simple.conditional.Goals as goal

pub returns : goal.returns
returns c =
    conditional_clean c.args.env.now c.args.scope.now c.args.c c.args.a c.args.b c.wider.result c.in_ok-core.core
    c.in_ok-check_conditional.ensures c.wider.ensures c.in_ok-core.ensures
