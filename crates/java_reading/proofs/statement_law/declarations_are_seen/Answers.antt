use Rattle.java_reading.proofs.StmtWhole.{sees_declarations}
use Rattle.java_reading.proofs.statement_law.declarations_are_seen.Goals as goal

pub returns : goal.returns
returns c = sees_declarations
