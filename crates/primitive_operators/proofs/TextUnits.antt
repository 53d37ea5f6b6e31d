-- How many code units texts have.
use Rattle.std.proofs.Common.{◌≡◌, ℕ, ℤ, suc, ◌<◌, ◌+◌, ◌^◌, List, [], ◌∷◌, ◌++◌, length, refl, arith, rules}
use Rattle.std.specs.Fmt.{signed_decimal}
use Rattle.std.specs.Int.Signed.{mag}
use Rattle.std.specs.Str.{IsAscii}
use Rattle.std.proofs.lemmas.Fmt.{IsAscii-signed}
use Rattle.std.proofs.lemmas.List.Sums.{sum_by-append, sum_by-cons}
use Rattle.core_tree.specs.Text.{code_units, units_of}

pub units_append : (a b : List ℕ) → code_units (a ++ b) ≡ code_units a + code_units b
units_append a b = sum_by-append units_of a b

unit_of : (c : ℕ) → c < 128 → units_of c ≡ 1
unit_of c ascii = search rules

units_of_ascii : (t : List ℕ) → IsAscii t → code_units t ≡ length t
units_of_ascii [] ascii = refl
units_of_ascii (c ∷ t) ascii =
    omega (arith, sum_by-cons units_of c t, unit_of c (ascii 0), units_of_ascii t (λ i. ascii (suc i)))

-- each character of a decimal text is one
pub decimal_units : (n : ℤ) → mag n < 2 ^ 63 → code_units (signed_decimal n) ≡ length (signed_decimal n)
decimal_units n small = units_of_ascii (signed_decimal n) (IsAscii-signed n small)

pub ruleset units = (units_append)
