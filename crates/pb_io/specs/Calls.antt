-- Calls that are counted from 1, and the numbers of those that fail.
use Rattle.std.specs.Prelude.{ℕ, List, Contains}
use Rattle.pb_io.specs.Faults.{raised}

-- how many calls were made, and the numbers of those that fail
pub record Calls : Type 0 where
  pub made : ℕ
  pub failing : List ℕ

-- the calls after one more
abbrev pub one_more : Calls → Calls
one_more calls = record calls { made = raised calls.made }

-- the next call fails
abbrev pub NextFails : Calls → Type 0
NextFails calls = Contains calls.failing (raised calls.made)
