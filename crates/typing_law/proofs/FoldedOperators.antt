-- What operators make of the values of constants has the type of the operation.
use Rattle.std.proofs.Common.{ℕ, ℤ, Bool, true, false, IsTrue, List, Some, None, if◌then◌else◌}
use Rattle.std.specs.Prelude.{pos, nat_le}
use Rattle.std.specs.Option.{option_map_or}
use Rattle.std.specs.Ordering.{int_eq}
use Rattle.pb_int.specs.Int32.{wrap, from_digits}
use Rattle.core_tree.specs.Text.{code_units}
use Rattle.core_tree.specs.Typing.{is_int_number}
use Rattle.java_syntax.specs.declared.operator.UnaryOp.TheVariants as unary
use Rattle.java_syntax.specs.declared.operator.BinaryOp.{BinaryOp}
use Rattle.java_syntax.specs.declared.operator.BinaryOp.TheVariants as binary
use Rattle.primitive_operators.specs.declared.scalar.Scalar.{Scalar}
use Rattle.primitive_operators.specs.declared.scalar.Scalar.TheVariants as scalar
use Rattle.primitive_operators.specs.declared.applied.Applied.TheVariants as applied
use Rattle.primitive_operators.specs.Operators.{divided, gives_int}
use Rattle.primitive_operators.specs.Texts.{concatenated}
use Rattle.java_exprs.specs.declared.folded.Folded.{Folded}
use Rattle.java_exprs.specs.declared.folded.Folded.TheVariants as folded
use Rattle.java_exprs.specs.Operators.{most_units, text_folded, folded_by, binary_value, unary_folded, strict_folded, choice_folded}
use Rattle.typing_law.proofs.NodeKinds.{wrapped}
use Rattle.typing_law.proofs.LiteralKinds.{Kind, AnInt, ABool, AText, ANull, Fits, FoldFits, int_elim, bool_elim, text_elim, null_elim}

-- ---- before an operand

pub sign_fits : (f : Folded) → FoldFits f AnInt → FoldFits (unary_folded unary.Plus f) AnInt × FoldFits (unary_folded unary.Minus f) AnInt × FoldFits (unary_folded unary.Complement f) AnInt
sign_fits (folded.Gives v) x = int_elim (λ v. FoldFits (unary_folded unary.Plus (folded.Gives v)) AnInt × FoldFits (unary_folded unary.Minus (folded.Gives v)) AnInt × FoldFits (unary_folded unary.Complement (folded.Gives v)) AnInt) (λ n fits. (fits, wrapped _, wrapped _)) v x
sign_fits folded.Fails x = (tt, tt, tt)
sign_fits _ x = absurd x

pub not_fits : (f : Folded) → FoldFits f ABool → FoldFits (unary_folded unary.Not f) ABool
not_fits (folded.Gives v) x = bool_elim (λ v. FoldFits (unary_folded unary.Not (folded.Gives v)) ABool) (λ b. tt) v x
not_fits folded.Fails x = tt
not_fits _ x = absurd x

-- ---- between operands

pub strict_fits : (op : BinaryOp) (f g : Folded) (a b k : Kind) → FoldFits f a → FoldFits g b → ((v w : Scalar) → Fits v a → Fits w b → FoldFits (binary_value op v w) k) → FoldFits (strict_folded op f g) k
strict_fits op (folded.Gives v) (folded.Gives w) a b k x y both = both v w x y
strict_fits op (folded.Gives v) folded.Fails a b k x y both = tt
strict_fits op (folded.Gives v) folded.Unknown a b k x y both = absurd y
strict_fits op (folded.Gives v) (folded.Class c) a b k x y both = absurd y
strict_fits op (folded.Gives v) folded.Other a b k x y both = absurd y
strict_fits op folded.Fails g a b k x y both = tt
strict_fits op _ g a b k x y both = absurd x

pub ints_fit : (op : BinaryOp) (k : Kind) → ((m n : ℤ) → FoldFits (binary_value op (scalar.Int m) (scalar.Int n)) k) → (v w : Scalar) → Fits v AnInt → Fits w AnInt → FoldFits (binary_value op v w) k
ints_fit op k each v w x y = int_elim (λ v. FoldFits (binary_value op v w) k) (λ m m_fits. int_elim (λ w. FoldFits (binary_value op (scalar.Int m) w) k) (λ n n_fits. each m n) w y) v x

pub bools_fit : (op : BinaryOp) (k : Kind) → ((m n : Bool) → FoldFits (binary_value op (scalar.Bool m) (scalar.Bool n)) k) → (v w : Scalar) → Fits v ABool → Fits w ABool → FoldFits (binary_value op v w) k
bools_fit op k each v w x y = bool_elim (λ v. FoldFits (binary_value op v w) k) (λ m. bool_elim (λ w. FoldFits (binary_value op (scalar.Bool m) w) k) (λ n. each m n) w y) v x

pub divided_fits : (b n : ℤ) → FoldFits (folded_by (divided b n)) AnInt
divided_fits b n = cases (int_eq b (pos 0))
  where
    cases : (zero : Bool) → FoldFits (folded_by (if zero then applied.DividesByZero else gives_int (wrap n))) AnInt
    cases true = tt
    cases false = wrapped n

pub digits_fit : (digits : ℕ → ℕ) → IsTrue (is_int_number (from_digits digits))
unfolding from_digits
digits_fit digits = wrapped _

-- ---- texts

pub text_fits : (t : List ℕ) → FoldFits (text_folded t) AText
text_fits t = cases (nat_le (code_units t) most_units)
  where
    cases : (short : Bool) → FoldFits (option_map_or (λ short. folded.Gives (scalar.Text short)) (if short then Some t else None) folded.Fails) AText
    cases true = tt
    cases false = tt

joined_fits : (v w : Scalar) → FoldFits (text_folded (concatenated v w)) AText
joined_fits v w = text_fits (concatenated v w)

left_null : (w : Scalar) → FoldFits (binary_value binary.Add scalar.Null w) AText
left_null w = joined_fits scalar.Null w

right_null : (v : Scalar) → FoldFits (binary_value binary.Add v scalar.Null) AText
right_null (scalar.Int n) = joined_fits (scalar.Int n) scalar.Null
right_null (scalar.Bool b) = joined_fits (scalar.Bool b) scalar.Null
right_null (scalar.Text t) = joined_fits (scalar.Text t) scalar.Null
right_null scalar.Null = joined_fits scalar.Null scalar.Null

right_text : (v : Scalar) (u : List ℕ) → FoldFits (binary_value binary.Add v (scalar.Text u)) AText
right_text (scalar.Int n) u = joined_fits (scalar.Int n) (scalar.Text u)
right_text (scalar.Bool b) u = joined_fits (scalar.Bool b) (scalar.Text u)
right_text (scalar.Text t) u = joined_fits (scalar.Text t) (scalar.Text u)
right_text scalar.Null u = joined_fits scalar.Null (scalar.Text u)

pub joined_left : (v w : Scalar) → Fits v AText → FoldFits (binary_value binary.Add v w) AText
joined_left v w x = text_elim (λ v. FoldFits (binary_value binary.Add v w) AText) (λ t. joined_fits (scalar.Text t) w) (left_null w) v x

pub joined_right : (v w : Scalar) → Fits w AText → FoldFits (binary_value binary.Add v w) AText
joined_right v w y = text_elim (λ w. FoldFits (binary_value binary.Add v w) AText) (λ u. right_text v u) (right_null v) w y

-- ---- comparisons

-- values of these kinds may be compared by `==`
abbrev pub Equates : Kind → Kind → Type 0
Equates AnInt AnInt = Unit {0}
Equates ABool ABool = Unit {0}
Equates AText ANull = Unit {0}
Equates ANull AText = Unit {0}
Equates ANull ANull = Unit {0}
Equates _ _ = ⊥

abbrev EqualFits : Scalar → Scalar → Type 0
EqualFits v w = FoldFits (binary_value binary.Equal v w) ABool × FoldFits (binary_value binary.NotEqual v w) ABool

pub equal_fits : (a b : Kind) → Equates a b → (v w : Scalar) → Fits v a → Fits w b → FoldFits (binary_value binary.Equal v w) ABool × FoldFits (binary_value binary.NotEqual v w) ABool
equal_fits AnInt AnInt ok v w x y = (ints_fit binary.Equal ABool (λ m n. tt) v w x y, ints_fit binary.NotEqual ABool (λ m n. tt) v w x y)
equal_fits ABool ABool ok v w x y = (bools_fit binary.Equal ABool (λ m n. tt) v w x y, bools_fit binary.NotEqual ABool (λ m n. tt) v w x y)
equal_fits AText ANull ok v w x y = null_elim (EqualFits v) (text_elim (λ v. EqualFits v scalar.Null) (λ t. (tt, tt)) (tt, tt) v x) w y
equal_fits ANull AText ok v w x y = null_elim (λ v. EqualFits v w) (text_elim (EqualFits scalar.Null) (λ t. (tt, tt)) (tt, tt) w y) v x
equal_fits ANull ANull ok v w x y = null_elim (EqualFits v) (null_elim (λ v. EqualFits v scalar.Null) (tt, tt) v x) w y
equal_fits _ _ ok v w x y = absurd ok

-- ---- choices

pub choice_fits : (c f g : Folded) (k : Kind) → FoldFits c ABool → FoldFits f k → FoldFits g k → FoldFits (choice_folded c f g) k
choice_fits (folded.Gives v) f g k x y z = bool_elim (λ v. FoldFits (choice_folded (folded.Gives v) f g) k) chosen v x
  where
    chosen : (b : Bool) → FoldFits (choice_folded (folded.Gives (scalar.Bool b)) f g) k
    chosen true = y
    chosen false = z
choice_fits folded.Fails f g k x y z = tt
choice_fits _ f g k x y z = absurd x
