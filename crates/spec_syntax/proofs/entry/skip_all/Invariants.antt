use Rattle.std.proofs.Common.{◌≡◌, ◌-◌, drop}
use Rattle.spec_syntax.proofs.entry.skip_all.Given as goal

abbrev pub invariant-loop-turn : goal.invariant-loop-turn
invariant-loop-turn l = drop l.count l.fn.tokens ≡ drop (l.count - l._turn) l.tokens
