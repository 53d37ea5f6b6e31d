use Rattle.std.proofs.Common.{arith}
use Rattle.java_reading.specs.ReadStmt.{statement}
use Rattle.java_parse.proofs.Nothing.{no_statement}
use Rattle.token_reading.proofs.Turns.{deeper}
use Rattle.java_parse.proofs.statements.+statement.Goals as goal

pub returns-then-most-eq0 : goal.returns-then-most-eq0
returns-then-most-eq0 t c = rw c.too_high.ensures (no_statement c.args.most c.args.in_block c.args.tokens.now (omega arith))

pub returns : goal.returns
unfolding statement
returns t c = rw (deeper (λ n. statement n c.args.in_block c.args.tokens.now) c.args.most (omega arith)) c.stmt.ensures
