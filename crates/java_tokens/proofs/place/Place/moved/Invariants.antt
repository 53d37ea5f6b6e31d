use Rattle.std.proofs.Common.{take}
use Rattle.java_tokens.specs.Reading.{IsPlace}
use Rattle.java_tokens.proofs.place.Place.moved.Given as goal

abbrev pub invariant-loop-at : goal.invariant-loop-at
invariant-loop-at l = IsPlace (take l.at l.characters) l.place
