use Rattle.std.proofs.Common.{◌≡◌, ◌-◌, [], length}
use Rattle.token_reading.specs.ReadType.{more_params}
use Rattle.token_reading.proofs.tokens.Tokens.more_params.Given as goal

abbrev pub invariant-loop-turn : goal.invariant-loop-turn
invariant-loop-turn l =
    more_params l.fn.most (length l.fn.self) [] l.fn.self ≡ more_params l.fn.most (l._turn-end - l._turn) l.found l.self
