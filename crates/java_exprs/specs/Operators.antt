-- What operators make of the values of constants (JLS 15.29), and of the parts of their initialisers.
use Rattle.std.specs.Prelude.{ℕ, ℤ, Bool, true, false, ◌||◌, List, if◌then◌else◌}
use Rattle.std.specs.List.{list_all}
use Rattle.std.specs.Option.{option_map_or}
use Rattle.primitive_operators.specs.declared.scalar.Scalar.{Scalar}
use Rattle.primitive_operators.specs.declared.scalar.Scalar.TheVariants as scalar
use Rattle.primitive_operators.specs.declared.applied.Applied.{Applied}
use Rattle.primitive_operators.specs.declared.applied.Applied.TheVariants as applied
use Rattle.primitive_operators.specs.Operators as operators
use Rattle.primitive_operators.specs.Texts.{concatenated, text_within}
use Rattle.java_syntax.specs.declared.operator.UnaryOp.{UnaryOp}
use Rattle.java_syntax.specs.declared.operator.BinaryOp.{BinaryOp}
use Rattle.java_syntax.specs.declared.operator.BinaryOp.TheVariants as binary
use Rattle.java_exprs.specs.declared.folded.Folded.{Folded}
use Rattle.java_exprs.specs.declared.folded.Folded.TheVariants as folded
use Rattle.java_exprs.specs.Resolved.{un_op, strict_op}

abbrev pub gives_int : ℤ → Folded
gives_int n = folded.Gives (scalar.Int n)

abbrev pub gives_bool : Bool → Folded
gives_bool b = folded.Gives (scalar.Bool b)

-- ---- texts

-- a text of a constant has at most that many code units
abbrev pub most_units : ℕ
most_units = 65_535

-- a text that an initialiser evaluates, unless it is too long
abbrev pub text_folded : List ℕ → Folded
text_folded t = option_map_or (λ short. folded.Gives (scalar.Text short)) (text_within most_units t) folded.Fails

-- ---- operators on values

-- what an operator makes of values
abbrev pub folded_by : Applied → Folded
folded_by (applied.Gives v) = folded.Gives v
folded_by applied.DividesByZero = folded.Fails
folded_by applied.NoMeaning = folded.Unknown

-- an operator before its operand (JLS 15.15)
abbrev pub unary_value : UnaryOp → Scalar → Folded
unary_value op a = folded_by (operators.unary_value (un_op op) a)

-- a value that a String may have
abbrev pub is_string_value : Scalar → Bool
is_string_value (scalar.Int n) = false
is_string_value (scalar.Bool b) = false
is_string_value (scalar.Text t) = true
is_string_value scalar.Null = true

-- an operator between two values that joins no texts; `||` and `&&` are none
abbrev pub strict_value : BinaryOp → Scalar → Scalar → Folded
strict_value op a b = option_map_or (λ strict. folded_by (operators.binary_value strict a b)) (strict_op op) folded.Unknown

-- an operator between two values; `+` of a String and another value joins their texts (JLS 15.18.1)
abbrev pub binary_value : BinaryOp → Scalar → Scalar → Folded
binary_value binary.Add a b = if is_string_value a || is_string_value b then text_folded (concatenated a b) else strict_value binary.Add a b
binary_value op a b = strict_value op a b

-- ---- operators on parts

-- an initialiser may have this part
abbrev pub is_made : Folded → Bool
is_made (folded.Gives v) = true
is_made folded.Fails = true
is_made folded.Unknown = true
is_made (folded.Class c) = false
is_made folded.Other = false

-- a node of such parts, whether they are evaluated or not
abbrev pub of_parts : List Folded → Folded → Folded
of_parts parts value = if list_all is_made parts then value else folded.Other

abbrev pub unary_folded : UnaryOp → Folded → Folded
unary_folded op (folded.Gives a) = unary_value op a
unary_folded op folded.Fails = folded.Fails
unary_folded op _ = folded.Unknown

-- both operands are evaluated
abbrev pub strict_folded : BinaryOp → Folded → Folded → Folded
strict_folded op (folded.Gives a) (folded.Gives b) = binary_value op a b
strict_folded op folded.Fails b = folded.Fails
strict_folded op a folded.Fails = folded.Fails
strict_folded op _ _ = folded.Unknown

-- one of two parts is evaluated, by what the condition gives (JLS 15.23 to 15.25)
abbrev pub choice_folded : Folded → Folded → Folded → Folded
choice_folded (folded.Gives (scalar.Bool true)) a b = a
choice_folded (folded.Gives (scalar.Bool false)) a b = b
choice_folded folded.Fails a b = folded.Fails
choice_folded _ a b = folded.Unknown

abbrev pub binary_folded : BinaryOp → Folded → Folded → Folded
binary_folded binary.And a b = choice_folded a b (gives_bool false)
binary_folded binary.Or a b = choice_folded a (gives_bool true) b
binary_folded op a b = strict_folded op a b
