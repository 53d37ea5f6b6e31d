use Rattle.std.proofs.Common.{◌≡◌, ◌-◌, []}
use Rattle.spec_reading.specs.ReadContract.{term_from, more_items}
use Rattle.spec_syntax.proofs.clause.places.Given as goal

abbrev pub invariant-loop-turn : goal.invariant-loop-turn
invariant-loop-turn l = more_items (term_from l.most 11) l.turns [] l.fn.tokens ≡ more_items (term_from l.most 11) (l.turns - l._turn) l.found l.tokens
