use Rattle.std.proofs.Common.{◌≡◌, ◌-◌, [], length}
use Rattle.java_reading.specs.ReadStmt.{value, arguments, unended, statement, more_simples}
use Rattle.java_parse.proofs.statements.Statements.more_simples.Given as goal

abbrev pub invariant-loop-turn : goal.invariant-loop-turn
invariant-loop-turn g l =
    let n = l.self.parts in
    more_simples (value n) (arguments n) (unended n) (statement n) l.close (length l.fn.tokens) [] l.fn.tokens
    ≡ more_simples (value n) (arguments n) (unended n) (statement n) l.close (l._turn-end - l._turn) l.found l.tokens
