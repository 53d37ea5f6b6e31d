-- The number that `parse` reads from decimal digits.
use Rattle.std.proofs.Common.{◌≡◌, ℕ, ◌+◌, ◌-◌, ◌*◌, ◌<◌, ◌≤◌, true, List, length, refl, arith}
use Rattle.std.specs.Prelude.{Result, Ok, fold}
use Rattle.std.specs.Char.{is_ascii_digit}
use Rattle.std.specs.List.{list_all}
use Rattle.std.specs.Str.Parse.{ParsesUnsigned}
use Rattle.std.proofs.lemmas.Grind.{common_steps}
use Rattle.std.proofs.lemmas.Str.Parse.{IsDigitsTest, IsNumeralModel, numerals_by_fold, parse_gives, digits_value_short}
use Rattle.java_tokens.specs.Spelling.{number_of}

-- all of these are decimal digits
abbrev AreDigits : List ℕ → Type 0
AreDigits ds = list_all is_ascii_digit ds ≡ true

tells_digits : IsDigitsTest AreDigits
tells_digits = record {
  empty = refl;
  parts = λ c cs all. grind (arith, common_steps);
  more = λ c cs digit all. grind (arith, common_steps);
}

-- `AreDigits` and `number_of` say what the lemmas on `parse` speak of
own : IsNumeralModel AreDigits number_of
own = numerals_by_fold AreDigits tells_digits (λ n ds. fold (λ sum digit. sum * 10 + (digit - 48)) n ds) (record {
  empty = λ n. refl;
  more = λ n c cs digit. refl;
})

-- at most eighteen digits are parsed as the number that they spell
pub parsed : {E : Type 0} (ds : List ℕ) (r : Result ℕ E) → ParsesUnsigned 64 10 ds r
    → list_all is_ascii_digit ds ≡ true → 0 < length ds → length ds ≤ 18 → r ≡ Ok (number_of ds)
parsed ds r parses all some few =
    let short = digits_value_short own ds 18 all few in
    parse_gives own 64 ds r parses all some (omega (arith, short))
