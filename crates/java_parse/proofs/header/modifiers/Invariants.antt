use Rattle.std.proofs.Common.{◌≡◌, ◌-◌, [], length}
use Rattle.java_reading.specs.ReadClass.{modifiers}
use Rattle.java_parse.proofs.header.modifiers.Given as goal

abbrev pub invariant-loop-turn : goal.invariant-loop-turn
invariant-loop-turn l = modifiers (length l.fn.tokens) [] l.fn.tokens ≡ modifiers (l._turn-end - l._turn) l.found l.tokens
