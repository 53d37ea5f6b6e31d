use Rattle.std.proofs.Common.{◌≡◌, length}
use Rattle.token_reading.specs.Types.{past_brackets}
use Rattle.token_reading.proofs.tokens.Tokens.skip_brackets.Given as goal

abbrev pub invariant-loop-self : goal.invariant-loop-self
invariant-loop-self l = past_brackets l.fn.self ≡ past_brackets l.self

abbrev pub decreases-loop-self : goal.decreases-loop-self
decreases-loop-self l = length l.self
