use Rattle.std.proofs.Common.{◌≡◌, ◌-◌, [], length}
use Rattle.java_reading.specs.ReadStmt.{value, arguments, unended, statement, catches}
use Rattle.java_parse.proofs.statements.Statements.catches.Given as goal

abbrev pub invariant-loop-turn : goal.invariant-loop-turn
invariant-loop-turn g l =
    let n = l.self.parts in
    catches (value n) (arguments n) (unended n) (statement n) (length l.fn.tokens) [] l.fn.tokens
    ≡ catches (value n) (arguments n) (unended n) (statement n) (l._turn-end - l._turn) l.found l.tokens
