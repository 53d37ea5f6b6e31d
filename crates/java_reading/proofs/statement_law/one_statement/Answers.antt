use Rattle.java_reading.proofs.StmtWhole.{one_statement}
use Rattle.java_reading.proofs.statement_law.one_statement.Goals as goal

pub returns : goal.returns
returns c = one_statement
