use Rattle.java_reading.proofs.Whole.{one_expression}
use Rattle.java_reading.proofs.expression_law.one_expression.Goals as goal

pub returns : goal.returns
returns c = one_expression
