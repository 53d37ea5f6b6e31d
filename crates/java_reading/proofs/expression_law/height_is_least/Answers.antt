use Rattle.java_reading.proofs.Whole.{height_is_least}
use Rattle.java_reading.proofs.expression_law.height_is_least.Goals as goal

pub returns : goal.returns
returns c = height_is_least
