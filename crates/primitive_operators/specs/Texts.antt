-- The texts that prints and concatenations show.
use Rattle.std.specs.Prelude.{ℕ, Bool, true, false, nat_le, List, ◌++◌, Option, Some, None, codes, if◌then◌else◌}
use Rattle.std.specs.Fmt.{signed_decimal}
use Rattle.core_tree.specs.Text.{code_units}
use Rattle.primitive_operators.specs.declared.scalar.Scalar.{Scalar}
use Rattle.primitive_operators.specs.declared.scalar.Scalar.TheVariants as scalar

abbrev pub truth_text : Bool → List ℕ
truth_text true = codes "true"
truth_text false = codes "false"

-- the text that is shown of a value (JLS 5.1.11)
abbrev pub shown : Scalar → List ℕ
shown (scalar.Int n) = signed_decimal n
shown (scalar.Bool b) = truth_text b
shown (scalar.Text t) = t
shown scalar.Null = codes "null"

-- `+` with a String (JLS 15.18.1)
abbrev pub concatenated : Scalar → Scalar → List ℕ
concatenated a b = shown a ++ shown b

-- a text of at most that many code units
abbrev pub text_within : ℕ → List ℕ → Option (List ℕ)
text_within most t = if nat_le (code_units t) most then Some t else None
