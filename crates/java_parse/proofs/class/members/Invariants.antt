use Rattle.std.proofs.Common.{◌≡◌, ◌-◌, [], length}
use Rattle.java_reading.specs.ReadClass.{members, member}
use Rattle.java_parse.proofs.class.members.Given as goal

abbrev pub invariant-loop-turn : goal.invariant-loop-turn
invariant-loop-turn l = members (member l.most) (length l.fn.tokens) [] l.fn.tokens ≡ members (member l.most) (l._turn-end - l._turn) l.found l.tokens
