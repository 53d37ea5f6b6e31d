-- Where tokens begin.
use Rattle.std.specs.Prelude.{List, map}
use Rattle.java_tokens.specs.declared.token.Token.{Token}
use Rattle.token_reading.specs.declared.place.TokenPlace.{TokenPlace}

-- where a token begins
abbrev pub place_of : Token → TokenPlace
place_of t = record { line = t.line; column = t.column }

-- the same of each token, in order
abbrev pub places_of : List Token → List TokenPlace
places_of = map place_of
