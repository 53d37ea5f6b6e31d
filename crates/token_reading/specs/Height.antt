-- The height of a type: each of its pairs of brackets counts one, and its base counts nothing.
use Rattle.std.specs.Prelude.{ℕ, max, List, [], ◌∷◌, map}
use Rattle.token_reading.specs.declared.name.ParamTree.{ParamTree}
use Rattle.token_reading.specs.declared.name.TypeTree.{TypeTree}

-- the greatest of some heights, and 0 of none
abbrev pub highest : List ℕ → ℕ
highest [] = 0
highest (h ∷ hs) = max h (highest hs)

abbrev pub type_height : TypeTree → ℕ
type_height t = t.dimensions

-- A parameter is as high as its type.
abbrev pub param_height : ParamTree → ℕ
param_height t = type_height t.ty

-- the greatest height of some parameters
abbrev pub params_height : List ParamTree → ℕ
params_height params = highest (map param_height params)
