use Rattle.std.proofs.Common.{◌≡◌, ◌-◌, [], length}
use Rattle.java_reading.specs.ReadClass.{classes}
use Rattle.java_parse.proofs.class.classes.Given as goal

abbrev pub invariant-loop-turn : goal.invariant-loop-turn
invariant-loop-turn l = classes l.most (length l.fn.tokens) [] l.fn.tokens ≡ classes l.most (l._turn-end - l._turn) l.found l.tokens
