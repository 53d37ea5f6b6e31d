use Rattle.java_reading.proofs.Casts.{sees_casts}
use Rattle.java_reading.proofs.expression_law.casts_are_seen.Goals as goal

pub returns : goal.returns
returns c = sees_casts
