use Rattle.std.proofs.Common.{◌-◌, take, length}
use Rattle.java_tokens.specs.Reading.{IsPlace}
use Rattle.java_tokens.proofs.Readings.{HasRead}
use Rattle.java_tokens.proofs.reader.read.Given as goal

abbrev pub invariant-loop-at : goal.invariant-loop-at
invariant-loop-at l = record {
  read : HasRead l.characters l.tokens.items l.at;
  here : IsPlace (take l.at l.characters) l.place;
}

abbrev pub decreases-loop-at : goal.decreases-loop-at
decreases-loop-at l = length l.characters - l.at
