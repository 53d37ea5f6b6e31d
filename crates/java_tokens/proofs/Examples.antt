-- The definitions at small texts.
use Rattle.std.proofs.Common.{◌≡◌, [], ◌∷◌, refl}
use Rattle.std.specs.Prelude.{codes}
use Rattle.java_tokens.specs.Places.{line, column}

-- lines and columns: a carriage return with a line feed is one end, and a column counts characters
lines : (line (codes "a\n\nb") ≡ 3) × (line (13 ∷ 10 ∷ 13 ∷ []) ≡ 3) × (line (10 ∷ 13 ∷ []) ≡ 3) × (line [] ≡ 1)
lines = (refl, refl, refl, refl)

columns : (column (codes "a\n\tbc") ≡ 4) × (column (97 ∷ 13 ∷ 10 ∷ []) ≡ 1) × (column (233 ∷ 119070 ∷ []) ≡ 3)
columns = (refl, refl, refl)
