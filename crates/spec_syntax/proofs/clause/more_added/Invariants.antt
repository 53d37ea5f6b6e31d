use Rattle.std.proofs.Common.{◌≡◌, ◌-◌, []}
use Rattle.spec_reading.specs.ReadContract.{added, more_items}
use Rattle.spec_syntax.proofs.clause.more_added.Given as goal

abbrev pub invariant-loop-turn : goal.invariant-loop-turn
invariant-loop-turn l = more_items added l.turns [] l.fn.tokens ≡ more_items added (l.turns - l._turn) l.found l.tokens
