-- The types that constants have, and the values of each.
use Rattle.std.proofs.Common.{◌≡◌, ◌∙◌, ℕ, ℤ, Bool, true, false, ◌||◌, IsTrue, List, refl, ap}
use Rattle.std.proofs.lemmas.Bool.{false≢true}
use Rattle.core_tree.specs.declared.ty.Ty.{Ty}
use Rattle.core_tree.specs.declared.ty.Ty.TheVariants as ty
use Rattle.core_tree.specs.declared.program.Class.{Class}
use Rattle.core_tree.specs.Types.{is_int, is_boolean, is_string, is_null, is_object, is_subclass}
use Rattle.core_tree.specs.Types as core
use Rattle.core_tree.specs.Typing.{is_int_number}
use Rattle.core_tree.proofs.TypeNodes.{is_assignable-Int, is_assignable-Bool, is_assignable-Text, is_assignable-Null}
use Rattle.java_names.specs.declared.symbol.Symbols.{Symbols}
use Rattle.java_names.specs.Lookups.{is_below}
use Rattle.java_denotes.specs.Types as rules
use Rattle.primitive_operators.specs.declared.scalar.Scalar.{Scalar}
use Rattle.primitive_operators.specs.declared.scalar.Scalar.TheVariants as scalar
use Rattle.java_exprs.specs.declared.folded.Folded.{Folded}
use Rattle.java_exprs.specs.declared.folded.Folded.TheVariants as folded
use Rattle.typing_law.proofs.Types.{same_assignable}
use Rattle.core_tree.proofs.TypeFacts as facts

pub data Kind : Type 0 where
  AnInt : Kind
  ABool : Kind
  AText : Kind
  ANull : Kind

abbrev pub kind_type : Kind → Ty
kind_type AnInt = ty.Int
kind_type ABool = ty.Bool
kind_type AText = ty.Text
kind_type ANull = ty.Null

abbrev pub int_kind : Kind → Bool
int_kind AnInt = true
int_kind _ = false

abbrev pub bool_kind : Kind → Bool
bool_kind ABool = true
bool_kind _ = false

abbrev pub text_kind : Kind → Bool
text_kind AText = true
text_kind _ = false

abbrev pub null_kind : Kind → Bool
null_kind ANull = true
null_kind _ = false

-- a value of the first kind may be assigned to a variable of the second
abbrev pub widens : Kind → Kind → Bool
widens AnInt k = int_kind k
widens ABool k = bool_kind k
widens AText k = text_kind k
widens ANull k = null_kind k || text_kind k

pub int_test : (k : Kind) → is_int (kind_type k) ≡ int_kind k
int_test AnInt = facts.is_int-Int
int_test ABool = facts.is_int-Bool
int_test AText = facts.is_int-Text
int_test ANull = facts.is_int-Null

pub bool_test : (k : Kind) → is_boolean (kind_type k) ≡ bool_kind k
bool_test AnInt = facts.is_boolean-Int
bool_test ABool = facts.is_boolean-Bool
bool_test AText = facts.is_boolean-Text
bool_test ANull = facts.is_boolean-Null

pub text_test : (k : Kind) → is_string (kind_type k) ≡ text_kind k
text_test AnInt = facts.is_string-Int
text_test ABool = facts.is_string-Bool
text_test AText = facts.is_string-Text
text_test ANull = facts.is_string-Null

pub null_test : (k : Kind) → is_null (kind_type k) ≡ null_kind k
null_test AnInt = facts.is_null-Int
null_test ABool = facts.is_null-Bool
null_test AText = facts.is_null-Text
null_test ANull = facts.is_null-Null

pub object_test : (k : Kind) → is_object (kind_type k) ≡ false
object_test AnInt = facts.is_object-Int
object_test ABool = facts.is_object-Bool
object_test AText = facts.is_object-Text
object_test ANull = facts.is_object-Null

null_widens : (k : Kind) → ((null_kind k || text_kind k) || false) ≡ (null_kind k || text_kind k)
null_widens AnInt = refl
null_widens _ = refl

core_widens : (classes : List Class) (a b : Kind) → core.is_assignable classes (kind_type a) (kind_type b) ≡ widens a b
core_widens classes AnInt b = ap (λ f. f (kind_type b)) (is_assignable-Int classes) ∙ int_test b
core_widens classes ABool b = ap (λ f. f (kind_type b)) (is_assignable-Bool classes) ∙ bool_test b
core_widens classes AText b = ap (λ f. f (kind_type b)) (is_assignable-Text classes) ∙ text_test b
core_widens classes ANull b =
    ap (λ f. f (kind_type b)) (is_assignable-Null classes)
    ∙ ap (λ x. (x || is_string (kind_type b)) || is_object (kind_type b)) (null_test b)
    ∙ ap (λ x. (null_kind b || x) || is_object (kind_type b)) (text_test b)
    ∙ ap (λ x. (null_kind b || text_kind b) || x) (object_test b)
    ∙ null_widens b

pub widens_test : (s : Symbols) (classes : List Class) → ((c d : ℕ) → is_below s c d ≡ is_subclass classes c d) → (a b : Kind) → rules.is_assignable s (kind_type a) (kind_type b) ≡ widens a b
widens_test s classes agree a b = same_assignable s classes agree (kind_type a) (kind_type b) ∙ core_widens classes a b

-- ---- values

-- a value of the kind; null is a String
abbrev pub Fits : Scalar → Kind → Type 0
Fits (scalar.Int n) AnInt = IsTrue (is_int_number n)
Fits (scalar.Bool b) ABool = Unit {0}
Fits (scalar.Text t) AText = Unit {0}
Fits scalar.Null AText = Unit {0}
Fits scalar.Null ANull = Unit {0}
Fits _ _ = ⊥

-- an evaluation gives such a value, or none
abbrev pub FoldFits : Folded → Kind → Type 0
FoldFits (folded.Gives v) k = Fits v k
FoldFits folded.Fails k = Unit {0}
FoldFits _ k = ⊥

pub int_elim : (P : Scalar → Type 0) → ((n : ℤ) → IsTrue (is_int_number n) → P (scalar.Int n)) → (v : Scalar) → Fits v AnInt → P v
int_elim P int (scalar.Int n) x = int n x
int_elim P int _ x = absurd x

pub bool_elim : (P : Scalar → Type 0) → ((b : Bool) → P (scalar.Bool b)) → (v : Scalar) → Fits v ABool → P v
bool_elim P bool (scalar.Bool b) x = bool b
bool_elim P bool _ x = absurd x

pub text_elim : (P : Scalar → Type 0) → ((t : List ℕ) → P (scalar.Text t)) → P scalar.Null → (v : Scalar) → Fits v AText → P v
text_elim P text null (scalar.Text t) x = text t
text_elim P text null scalar.Null x = null
text_elim P text null _ x = absurd x

pub null_elim : (P : Scalar → Type 0) → P scalar.Null → (v : Scalar) → Fits v ANull → P v
null_elim P null scalar.Null x = null
null_elim P null _ x = absurd x

-- a value is one of each wider kind
pub value_widens : (a b : Kind) (v : Scalar) → widens a b ≡ true → Fits v a → Fits v b
value_widens AnInt AnInt v wider x = x
value_widens AnInt AText v wider x = absurd (false≢true wider)
value_widens ABool ABool v wider x = x
value_widens ABool AText v wider x = absurd (false≢true wider)
value_widens AText AText v wider x = x
value_widens ANull AText v wider x = null_elim (λ v. Fits v AText) tt v x
value_widens ANull ANull v wider x = x
value_widens _ _ v wider x = absurd (false≢true wider)

pub folded_widens : (a b : Kind) (f : Folded) → widens a b ≡ true → FoldFits f a → FoldFits f b
folded_widens a b (folded.Gives v) wider x = value_widens a b v wider x
folded_widens a b folded.Fails wider x = tt
folded_widens a b _ wider x = absurd x
