use Rattle.std.proofs.Common.{◌≡◌, ◌-◌, ◌≤◌, ◌<◌, ◌^◌, length}
use Rattle.token_reading.specs.ReadType.{brackets}
use Rattle.token_reading.proofs.tokens.Tokens.all_brackets.Given as goal

abbrev pub invariant-loop-turn : goal.invariant-loop-turn
invariant-loop-turn l =
    (brackets (length l.fn.self) 0 l.fn.self ≡ brackets (l._turn-end - l._turn) l.found l.self)
    × (l.found ≤ l._turn) × (l._turn-end < 2 ^ 32)
