-- Lemmas on numbers and texts of literals.
use Rattle.std.proofs.Common.{◌≡◌, ℕ, ◌<◌, ◌≤◌, ◌*◌, ◌^◌, List, [], ◌∷◌, length, refl, arith, w32}
use Rattle.std.specs.Prelude.{pos, negsuc}
use Rattle.std.specs.Int.{int_wrap}
use Rattle.std.proofs.lemmas.Int.{int_wrap_fits, fits_signed_from_abs}
use Rattle.std.proofs.lemmas.List.Sums.{sum_by-cons}
use Rattle.pb_int.specs.Int32.{wrap}
use Rattle.core_tree.specs.Text.{code_units, units_of}

pub wrap_small : (n : ℕ) → n < 2 ^ 31 → wrap (pos n) ≡ pos n
wrap_small n below = int_wrap_fits w32 (pos n) (fits_signed_from_abs w32 (pos n) below)

pub wrap_least : (n : ℕ) → n ≡ 2_147_483_648 → negsuc 2_147_483_647 ≡ wrap (pos n)
unfolding int_wrap
wrap_least n is = rw is refl

pub ruleset numbers = (wrap_small, wrap_least)

units_few : (x : ℕ) → units_of x ≤ 2
units_few x = grind (arith)

pub code_units_bound : (xs : List ℕ) → code_units xs ≤ 2 * length xs
code_units_bound [] = omega arith
code_units_bound (x ∷ xs) = rw (sum_by-cons units_of x xs) (omega (arith, units_few x, code_units_bound xs))
