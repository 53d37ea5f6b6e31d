-- Whole numbers as lists of binary digits, lowest first.
use Rattle.std.specs.Prelude.{ℕ, ◌<◌, ◌≤◌, ◌+◌, ◌-◌, ◌*◌, ◌^◌, Bool, true, false, ℤ, pos, ◌-ℤ◌, List, [], ◌∷◌, length}
use Rattle.std.specs.Int.{w128, leading_zeros}

-- the worth of a digit
abbrev pub bit : Bool → ℕ
bit true = 1
bit false = 0

-- the number that the digits are without a sign
abbrev pub unsigned : List Bool → ℕ
unsigned [] = 0
unsigned (b ∷ bits) = bit b + 2 * unsigned bits

-- the last of digits that begin with one
abbrev pub sign_after : Bool → List Bool → Bool
sign_after b [] = b
sign_after b (c ∷ bits) = sign_after c bits

-- the last digit
abbrev pub sign : List Bool → Bool
sign [] = false
sign (b ∷ bits) = sign_after b bits

-- the number that the digits are in two's complement
abbrev pub whole : List Bool → ℤ
whole bits = pos (unsigned bits) -ℤ pos (bit (sign bits) * 2 ^ length bits)

-- the width of bits for numbers from -most to most: one more than the binary digits of most
abbrev pub width_of : ℕ → ℕ
width_of most = 129 - leading_zeros w128 most

-- the least width, of one digit at least, at which two's complement has the numbers from -most to most
pub record IsLeastWidth (width most : ℕ) : Type 0 where
  pub some : 0 < width
  pub fits : most < 2 ^ (width - 1)
  pub least : (digits : ℕ) → most < 2 ^ digits → width ≤ digits + 1
