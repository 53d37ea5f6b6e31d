-- Tests on numbers.
use Rattle.std.proofs.Common.{◌≡◌, ℕ, ◌≤◌, ◌<◌, nat_lt, true, false, arith}
use Rattle.std.proofs.lemmas.Bool.Decides.{nat_tests}

pub not_below : (a b : ℕ) → b ≤ a → nat_lt a b ≡ false
not_below a b h = grind (arith, nat_tests)

pub below : (a b : ℕ) → a < b → nat_lt a b ≡ true
below a b h = grind (arith, nat_tests)

pub from_below : (a b : ℕ) → nat_lt a b ≡ true → a < b
from_below a b h = grind (arith, nat_tests)

pub from_not_below : (a b : ℕ) → nat_lt a b ≡ false → b ≤ a
from_not_below a b h = grind (arith, nat_tests)
