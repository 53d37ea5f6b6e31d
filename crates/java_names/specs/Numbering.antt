-- Numbers by which keys are found.
use Rattle.std.specs.Prelude.{ℕ, ◌≡◌, Bool, List, position}
use Rattle.indexmap.specs.IndexMap.{IndexMap, get}

-- a map has the number of the first of each key
pub record IsFirst {K S : Type 0} (eq : K → K → Bool) (numbers : IndexMap K ℕ S) (keys : List K) : Type 0 where
  pub found : (key : K) → get eq numbers key ≡ position (eq key) keys
