-- What operators make of values that aren't objects.
use Rattle.std.specs.Prelude.{ℤ, pos, neg_ℤ, ◌+ℤ◌, ◌-ℤ◌, ◌*ℤ◌, ◌/◌, ◌^◌, Bool, true, false, not, int_lt, int_le, int_div, int_rem, Option, Some, None, if◌then◌else◌}
use Rattle.std.specs.Bool.{beq}
use Rattle.std.specs.Ordering.{int_eq}
use Rattle.pb_int.specs.Int32.{wrap, distance, floor_quotient, modulo, digitwise, and_digit, or_digit, xor_digit}
use Rattle.core_tree.specs.declared.operator.UnOp.{UnOp}
use Rattle.core_tree.specs.declared.operator.UnOp.TheVariants as unary
use Rattle.core_tree.specs.declared.operator.BinOp.{BinOp}
use Rattle.core_tree.specs.declared.operator.BinOp.TheVariants as binary
use Rattle.core_tree.specs.declared.operator.UpOp.{UpOp}
use Rattle.core_tree.specs.declared.operator.UpOp.TheVariants as update
use Rattle.primitive_operators.specs.declared.scalar.Scalar.{Scalar}
use Rattle.primitive_operators.specs.declared.scalar.Scalar.TheVariants as scalar
use Rattle.primitive_operators.specs.declared.scalar_ref.ScalarRef.{ScalarRef}
use Rattle.primitive_operators.specs.declared.scalar_ref.ScalarRef.TheVariants as view
use Rattle.primitive_operators.specs.declared.applied.Applied.{Applied}
use Rattle.primitive_operators.specs.declared.applied.Applied.TheVariants as applied

-- the value that a borrowed one is
abbrev pub viewed : ScalarRef → Scalar
viewed (view.Int n) = scalar.Int n
viewed (view.Bool b) = scalar.Bool b
viewed (view.Text t) = scalar.Text t.now
viewed view.Null = scalar.Null

abbrev pub gives_int : ℤ → Applied
gives_int n = applied.Gives (scalar.Int n)

abbrev pub gives_bool : Bool → Applied
gives_bool b = applied.Gives (scalar.Bool b)

-- an operator before its operand (JLS 15.15)
abbrev pub unary_value : UnOp → Scalar → Applied
unary_value unary.Plus (scalar.Int a) = gives_int a
unary_value unary.Neg (scalar.Int a) = gives_int (wrap (neg_ℤ a))
unary_value unary.Flip (scalar.Int a) = gives_int (wrap (neg_ℤ a -ℤ pos 1))
unary_value unary.Not (scalar.Bool a) = gives_bool (not a)
unary_value _ _ = applied.NoMeaning

-- a quotient or remainder (JLS 15.17.2, 15.17.3)
abbrev pub divided : ℤ → ℤ → Applied
divided b n = if int_eq b (pos 0) then applied.DividesByZero else gives_int (wrap n)

-- an operator between two ints (JLS 15.17 to 15.22)
abbrev pub int_value : BinOp → ℤ → ℤ → Applied
int_value binary.Add a b = gives_int (wrap (a +ℤ b))
int_value binary.Sub a b = gives_int (wrap (a -ℤ b))
int_value binary.Mul a b = gives_int (wrap (a *ℤ b))
int_value binary.Div a b = divided b (int_div a b)
int_value binary.Rem a b = divided b (int_rem a b)
int_value binary.Shl a b = gives_int (wrap (a *ℤ pos (2 ^ distance b)))
int_value binary.Shr a b = gives_int (wrap (floor_quotient a (2 ^ distance b)))
int_value binary.Ushr a b = gives_int (wrap (pos (modulo a (2 ^ 32) / 2 ^ distance b)))
int_value binary.BitAnd a b = gives_int (digitwise and_digit a b)
int_value binary.BitOr a b = gives_int (digitwise or_digit a b)
int_value binary.BitXor a b = gives_int (digitwise xor_digit a b)
int_value binary.Eq a b = gives_bool (int_eq a b)
int_value binary.Ne a b = gives_bool (not (int_eq a b))
int_value binary.Lt a b = gives_bool (int_lt a b)
int_value binary.Le a b = gives_bool (int_le a b)
int_value binary.Gt a b = gives_bool (int_lt b a)
int_value binary.Ge a b = gives_bool (int_le b a)

-- an operator between two booleans (JLS 15.21.2, 15.22.2)
abbrev pub bool_value : BinOp → Bool → Bool → Applied
bool_value binary.BitAnd a b = gives_bool (if a then b else false)
bool_value binary.BitOr a b = gives_bool (if a then true else b)
bool_value binary.BitXor a b = gives_bool (not (beq a b))
bool_value binary.Eq a b = gives_bool (beq a b)
bool_value binary.Ne a b = gives_bool (not (beq a b))
bool_value _ a b = applied.NoMeaning

-- whether two values are the same, where one of them is null and the other null or a text (JLS 15.21.3)
abbrev pub same_value : Scalar → Scalar → Option Bool
same_value scalar.Null scalar.Null = Some true
same_value scalar.Null (scalar.Text t) = Some false
same_value (scalar.Text t) scalar.Null = Some false
same_value _ _ = None

-- `==` and `!=` of two values of which it is known whether they are the same
abbrev pub equality_value : BinOp → Option Bool → Applied
equality_value binary.Eq (Some same) = gives_bool same
equality_value binary.Ne (Some same) = gives_bool (not same)
equality_value _ _ = applied.NoMeaning

-- an operator between two values; `+` with a String is none
abbrev pub binary_value : BinOp → Scalar → Scalar → Applied
binary_value op (scalar.Int a) (scalar.Int b) = int_value op a b
binary_value op (scalar.Bool a) (scalar.Bool b) = bool_value op a b
binary_value op a b = equality_value op (same_value a b)

-- the operator of a compound assignment (JLS 15.26.2); `+=` on a String has none
abbrev pub binary_op : UpOp → Option BinOp
binary_op update.Add = Some binary.Add
binary_op update.Sub = Some binary.Sub
binary_op update.Mul = Some binary.Mul
binary_op update.Div = Some binary.Div
binary_op update.Rem = Some binary.Rem
binary_op update.Shl = Some binary.Shl
binary_op update.Shr = Some binary.Shr
binary_op update.Ushr = Some binary.Ushr
binary_op update.BitAnd = Some binary.BitAnd
binary_op update.BitOr = Some binary.BitOr
binary_op update.BitXor = Some binary.BitXor
binary_op update.Concat = None
