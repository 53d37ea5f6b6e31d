use Rattle.std.proofs.Common.{◌≡◌, ◌++◌, drop}
use Rattle.token_reading.specs.Places.{places_of}
use Rattle.token_reading.proofs.place.places.Given as goal

abbrev pub invariant-loop-token : goal.invariant-loop-token
invariant-loop-token l = places_of l.tokens ≡ l.places ++ places_of (drop l.token-index l.tokens)
