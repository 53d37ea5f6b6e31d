-- What shows that the words of `Int32` mean what their comments say.
use Rattle.std.specs.Prelude.{◌≡◌, ℕ, ℤ, pos, neg_ℤ, ◌<◌, ◌*◌, ◌^◌, ◌+ℤ◌, ◌*ℤ◌, ◌≤ℤ◌, ◌<ℤ◌, unsigned_abs, int_div, int_rem}
use Rattle.pb_int.specs.Int32.{floor_quotient}

-- a and b are equal once multiples of m are added to them
abbrev pub IsCongruent : ℕ → ℤ → ℤ → Type 0
IsCongruent m a b = (i : ℕ) × ((j : ℕ) × (a +ℤ pos (i * m) ≡ b +ℤ pos (j * m)))

-- r is an `int`, and congruent to n
pub record IsWrapped (n r : ℤ) : Type 0 where
  pub at_least : neg_ℤ (pos (2 ^ 31)) ≤ℤ r
  pub below : r <ℤ pos (2 ^ 31)
  pub congruent : IsCongruent (2 ^ 32) r n

-- the quotient and the remainder of a by d are truncated toward zero
pub record IsTruncated (a d : ℤ) : Type 0 where
  pub whole : int_div a d *ℤ d +ℤ int_rem a d ≡ a
  pub smaller : unsigned_abs (int_rem a d) < unsigned_abs d
  pub not_negative : pos 0 ≤ℤ a → pos 0 ≤ℤ int_rem a d
  pub not_positive : a ≤ℤ pos 0 → int_rem a d ≤ℤ pos 0

-- the quotient of n by d is rounded down
pub record IsRoundedDown (n : ℤ) (d : ℕ) : Type 0 where
  pub at_most : (floor_quotient n d *ℤ pos d) ≤ℤ n
  pub next_above : n <ℤ (floor_quotient n d *ℤ pos d +ℤ pos d)
