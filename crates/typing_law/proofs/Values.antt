-- Which types values have.
use Rattle.std.proofs.Common.{◌≡◌, ◌∙◌, ⊎_elim, ℕ, nat_lt, true, false, ◌||◌, IsTrue, List, length, sym, ap}
use Rattle.std.proofs.lemmas.Bool.{false≢true, or_cases, or_left, or_right}
use Rattle.core_tree.specs.declared.ty.Ty.{Ty}
use Rattle.core_tree.specs.declared.ty.Ty.TheVariants as ty
use Rattle.core_tree.specs.declared.ty.Ty.TheViews as type
use Rattle.core_tree.specs.declared.program.Class.{Class}
use Rattle.core_tree.specs.declared.program.Program.{Program}
use Rattle.core_tree.specs.Types.{is_int, is_boolean, is_string, is_null, is_void, is_object, is_assignable, is_value_type}
use Rattle.core_tree.proofs.TypeNodes.{is_value_type-Int, is_value_type-Bool, is_value_type-Text, is_value_type-Class, is_value_type-Array, is_value_type-Void, is_assignable-Text, is_assignable-Null}
use Rattle.typing_law.specs.Means.{has_values}
use Rattle.core_tree.proofs.TypeFacts as facts

pub values_int : (p : Program) → IsTrue (has_values p ty.Int)
values_int p = or_left (is_value_type (length p.classes) ty.Int) (is_null ty.Int) (is_value_type-Int (length p.classes))

pub values_bool : (p : Program) → IsTrue (has_values p ty.Bool)
values_bool p = or_left (is_value_type (length p.classes) ty.Bool) (is_null ty.Bool) (is_value_type-Bool (length p.classes))

pub values_text : (p : Program) → IsTrue (has_values p ty.Text)
values_text p = or_left (is_value_type (length p.classes) ty.Text) (is_null ty.Text) (is_value_type-Text (length p.classes))

pub values_null : (p : Program) → IsTrue (has_values p ty.Null)
values_null p = or_right (is_value_type (length p.classes) ty.Null) (is_null ty.Null) facts.is_null-Null

pub values_value : (p : Program) (t : Ty) → IsTrue (is_value_type (length p.classes) t) → IsTrue (has_values p t)
values_value p t is = or_left (is_value_type (length p.classes) t) (is_null t) is

pub class_value : (n c : ℕ) → IsTrue (nat_lt c n) → IsTrue (is_value_type n (ty.Class c))
class_value n c is = is_value_type-Class n c ∙ is

-- a type of variables is not Void
pub value_not_void : (n : ℕ) (t : Ty) → IsTrue (is_value_type n t) → is_void t ≡ false
value_not_void n = facts.ty_cases (λ t. IsTrue (is_value_type n t) → is_void t ≡ false)
    (λ is. facts.is_void-Int) (λ is. facts.is_void-Bool) (λ is. facts.is_void-Text) (λ c is. facts.is_void-Class c) (λ e is. facts.is_void-Array e) (λ is. facts.is_void-Null)
    (λ is. absurd (false≢true (sym (is_value_type-Void n) ∙ is)))

-- the elements of an array have values too
pub element_values : (p : Program) (e : Ty) → IsTrue (has_values p (type.Array e)) → IsTrue (is_value_type (length p.classes) e)
element_values p e is =
    ⊎_elim (λ value. sym (is_value_type-Array (length p.classes) e) ∙ value) (λ null. absurd (false≢true (sym (facts.is_null-Array e) ∙ null)))
    (or_cases (is_value_type (length p.classes) (type.Array e)) (is_null (type.Array e)) is)

-- what has values and is no object has a text
pub values_text_or_object : (p : Program) (t : Ty) → IsTrue (has_values p t) → is_object t ≡ false → IsTrue (is_string t || (is_int t || (is_boolean t || is_null t)))
values_text_or_object p = facts.ty_cases (λ t. IsTrue (has_values p t) → is_object t ≡ false → IsTrue (is_string t || (is_int t || (is_boolean t || is_null t))))
    (λ is no. or_right (is_string ty.Int) (is_int ty.Int || (is_boolean ty.Int || is_null ty.Int)) (or_left (is_int ty.Int) (is_boolean ty.Int || is_null ty.Int) facts.is_int-Int))
    (λ is no. or_right (is_string ty.Bool) (is_int ty.Bool || (is_boolean ty.Bool || is_null ty.Bool)) (or_right (is_int ty.Bool) (is_boolean ty.Bool || is_null ty.Bool) (or_left (is_boolean ty.Bool) (is_null ty.Bool) facts.is_boolean-Bool)))
    (λ is no. or_left (is_string ty.Text) (is_int ty.Text || (is_boolean ty.Text || is_null ty.Text)) facts.is_string-Text)
    (λ c is no. absurd (false≢true (sym no ∙ facts.is_object_class c)))
    (λ e is no. absurd (false≢true (sym no ∙ facts.is_object_array e)))
    (λ is no. or_right (is_string ty.Null) (is_int ty.Null || (is_boolean ty.Null || is_null ty.Null)) (or_right (is_int ty.Null) (is_boolean ty.Null || is_null ty.Null) (or_right (is_boolean ty.Null) (is_null ty.Null) facts.is_null-Null)))
    (λ is no. absurd (⊎_elim (λ value. false≢true (sym (is_value_type-Void (length p.classes)) ∙ value)) (λ null. false≢true (sym facts.is_null-Void ∙ null)) (or_cases (is_value_type (length p.classes) ty.Void) (is_null ty.Void) is)))

-- ---- null and Strings

pub text_to_null : (classes : List Class) → is_assignable classes ty.Text ty.Null ≡ false
text_to_null classes = ap (λ f. f ty.Null) (is_assignable-Text classes) ∙ facts.is_string-Null

pub null_to_text : (classes : List Class) → is_assignable classes ty.Null ty.Text ≡ true
null_to_text classes = ap (λ f. f ty.Text) (is_assignable-Null classes) ∙ or_left (is_null ty.Text || is_string ty.Text) (is_object ty.Text) (or_right (is_null ty.Text) (is_string ty.Text) facts.is_string-Text)

pub null_to_null : (classes : List Class) → is_assignable classes ty.Null ty.Null ≡ true
null_to_null classes = ap (λ f. f ty.Null) (is_assignable-Null classes) ∙ or_left (is_null ty.Null || is_string ty.Null) (is_object ty.Null) (or_left (is_null ty.Null) (is_string ty.Null) facts.is_null-Null)
