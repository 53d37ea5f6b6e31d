use Rattle.java_exprs.proofs.CallLemmas.{value_checks}
use Rattle.java_exprs.proofs.calls.behind_part.Goals as goal

pub returns : goal.returns
returns c =
    value_checks c.args.env.now c.args.scope.now c.args.o c.in_ok-o.o c.args.m.now c.args.arguments c.behind_value.result c.in_ok-o.ensures.value c.behind_value.ensures
