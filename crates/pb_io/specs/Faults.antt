-- Counts of the calls that the outside refused.
use Rattle.std.specs.Prelude.{◌≡◌, ℕ, ◌+◌, ◌≤◌, min, Result, IsErrOf}

-- a count after one more: it stands still at the last number of a u64
abbrev pub raised : ℕ → ℕ
raised count = min (count + 1) 18446744073709551615

-- a count rose by one, or stands at the last number of a u64
abbrev pub Rose : ℕ → ℕ → Type 0
Rose before now = now ≡ raised before

-- a count of the calls that answer this error: it rose where the call answered it, and stands otherwise
pub record Counts {T E : Type 0} (error : E) (before now : ℕ) (result : Result T E) : Type 0 where
  pub later : before ≤ now
  pub rose : IsErrOf result error → Rose before now
  pub stands : ¬ IsErrOf result error → now ≡ before
