use Rattle.std.proofs.Common.{◌≡◌, ◌-◌, [], length}
use Rattle.java_reading.specs.ReadStmt.{value, arguments, unended, statement, stmts}
use Rattle.java_parse.proofs.statements.Statements.stmts.Given as goal

abbrev pub invariant-loop-turn : goal.invariant-loop-turn
invariant-loop-turn g l =
    let n = l.self.parts in
    stmts (value n) (arguments n) (unended n) (statement n) (length l.fn.tokens) [] l.fn.tokens
    ≡ stmts (value n) (arguments n) (unended n) (statement n) (l._turn-end - l._turn) l.found l.tokens
