use Rattle.std.proofs.Common.{◌≡◌, ◌-◌, []}
use Rattle.java_reading.specs.ReadClass.{names}
use Rattle.java_parse.proofs.header.names.Given as goal

abbrev pub invariant-loop-turn : goal.invariant-loop-turn
invariant-loop-turn l = names l.most [] l.fn.tokens ≡ names (l.most - l._turn) l.found l.tokens
