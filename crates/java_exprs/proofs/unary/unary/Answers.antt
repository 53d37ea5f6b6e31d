use Rattle.java_exprs.proofs.CleanLemmas.{unary_clean}
use Rattle.java_exprs.proofs.unary.unary.Goals as goal

pub returns : goal.returns
returns c =
    unary_clean c.args.env.now c.args.scope.now c.args.at c.args.op c.args.e c.unary_type.result c.un_op.result c.in_ok-new.field-0
    c.in_ok-check_operand.ensures c.unary_type.ensures c.un_op.ensures c.in_ok-new.ensures
