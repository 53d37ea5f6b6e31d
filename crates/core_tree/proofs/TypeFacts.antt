-- What types are, by what is read of them, and what is read of each.
use Rattle.std.proofs.Common.{◌≡◌, ◌∙◌, ℕ, Bool, true, false, IsTrue, Option, Some, None, refl, subst, sym, ap}
use Rattle.std.specs.Option.{option_map_or}
use Rattle.std.proofs.lemmas.Option.{none-some, same_Some}
use Rattle.std.proofs.lemmas.Bool.{false≢true, false_from_ne_true}
use denote.Hole.Carrier.{out, shown, hidden}
use Rattle.core_tree.specs.declared.ty.Ty.{Ty, out-Ty}
use Rattle.core_tree.specs.declared.ty.Ty.TheBlock.{shown-the_row-Ty-0}
use Rattle.core_tree.specs.declared.ty.Ty.TheVariants as ty
use Rattle.core_tree.specs.declared.ty.Ty.TheViews as type
use Rattle.core_tree.specs.declared.ty.Ty.TheViews.{roll-Ty, roll-out-Ty}
use Rattle.core_tree.specs.declared.ty.Ty.TheOpen.{Ty-F}
use Rattle.core_tree.specs.Types.{class_of, elements_of, is_int, is_boolean, is_string, is_null, is_void, is_object}

-- ---- what a type is, by what is read of it

pub layer_is : (t : Ty) (x : Ty-F Ty) → out-Ty t ≡ x → t ≡ roll-Ty x
layer_is t x is = sym (roll-out-Ty t) ∙ ap roll-Ty is

pub class_type : (t : Ty) (c : ℕ) → class_of t ≡ Some c → t ≡ ty.Class c
class_type t c is = cases (out-Ty t) refl is
  where
    cases : (x : Ty-F Ty) → out-Ty t ≡ x → elim x [ Ty-F.Class d ↦ Some d | _ ↦ None ] ≡ Some c → t ≡ ty.Class c
    cases (Ty-F.Class d) is e = layer_is t (Ty-F.Class c) (is ∙ ap Ty-F.Class (same_Some _ _ e)) ∙ ty.rolls-Class c
    cases Ty-F.Int is e = absurd (none-some _ e)
    cases Ty-F.Bool is e = absurd (none-some _ e)
    cases Ty-F.Text is e = absurd (none-some _ e)
    cases (Ty-F.Array f) is e = absurd (none-some _ e)
    cases Ty-F.Null is e = absurd (none-some _ e)
    cases Ty-F.Void is e = absurd (none-some _ e)

pub array_type : (t f : Ty) → elements_of t ≡ Some f → t ≡ type.Array f
array_type t f is = cases (out-Ty t) refl is
  where
    cases : (x : Ty-F Ty) → out-Ty t ≡ x → elim x [ Ty-F.Array e ↦ Some e | _ ↦ None ] ≡ Some f → t ≡ type.Array f
    cases (Ty-F.Array e) is same = layer_is t (Ty-F.Array f) (is ∙ ap Ty-F.Array (same_Some _ _ same)) ∙ ty.rolls-Array f
    cases Ty-F.Int is e = absurd (none-some _ e)
    cases Ty-F.Bool is e = absurd (none-some _ e)
    cases Ty-F.Text is e = absurd (none-some _ e)
    cases (Ty-F.Class d) is e = absurd (none-some _ e)
    cases Ty-F.Null is e = absurd (none-some _ e)
    cases Ty-F.Void is e = absurd (none-some _ e)

-- the layer of a type by a test that one variant alone passes
of_test : (t : Ty) (test : Ty-F Ty → Bool) (x : Ty-F Ty) → ((y : Ty-F Ty) → IsTrue (test y) → y ≡ x) → IsTrue (test (out-Ty t)) → t ≡ roll-Ty x
of_test t test x only passes = layer_is t x (only (out-Ty t) passes)

pub int_type : (t : Ty) → IsTrue (is_int t) → t ≡ ty.Int
int_type t passes = of_test t (λ y. elim y [ Ty-F.Int ↦ true | _ ↦ false ]) Ty-F.Int only passes ∙ ty.rolls-Int
  where
    only : (y : Ty-F Ty) → IsTrue (elim y [ Ty-F.Int ↦ true | _ ↦ false ]) → y ≡ Ty-F.Int
    only Ty-F.Int e = refl
    only _ e = absurd (false≢true e)

pub boolean_type : (t : Ty) → IsTrue (is_boolean t) → t ≡ ty.Bool
boolean_type t passes = of_test t (λ y. elim y [ Ty-F.Bool ↦ true | _ ↦ false ]) Ty-F.Bool only passes ∙ ty.rolls-Bool
  where
    only : (y : Ty-F Ty) → IsTrue (elim y [ Ty-F.Bool ↦ true | _ ↦ false ]) → y ≡ Ty-F.Bool
    only Ty-F.Bool e = refl
    only _ e = absurd (false≢true e)

pub string_type : (t : Ty) → IsTrue (is_string t) → t ≡ ty.Text
string_type t passes = of_test t (λ y. elim y [ Ty-F.Text ↦ true | _ ↦ false ]) Ty-F.Text only passes ∙ ty.rolls-Text
  where
    only : (y : Ty-F Ty) → IsTrue (elim y [ Ty-F.Text ↦ true | _ ↦ false ]) → y ≡ Ty-F.Text
    only Ty-F.Text e = refl
    only _ e = absurd (false≢true e)

pub null_type : (t : Ty) → IsTrue (is_null t) → t ≡ ty.Null
null_type t passes = of_test t (λ y. elim y [ Ty-F.Null ↦ true | _ ↦ false ]) Ty-F.Null only passes ∙ ty.rolls-Null
  where
    only : (y : Ty-F Ty) → IsTrue (elim y [ Ty-F.Null ↦ true | _ ↦ false ]) → y ≡ Ty-F.Null
    only Ty-F.Null e = refl
    only _ e = absurd (false≢true e)

pub void_type : (t : Ty) → IsTrue (is_void t) → t ≡ ty.Void
void_type t passes = of_test t (λ y. elim y [ Ty-F.Void ↦ true | _ ↦ false ]) Ty-F.Void only passes ∙ ty.rolls-Void
  where
    only : (y : Ty-F Ty) → IsTrue (elim y [ Ty-F.Void ↦ true | _ ↦ false ]) → y ≡ Ty-F.Void
    only Ty-F.Void e = refl
    only _ e = absurd (false≢true e)

-- a test of what is found
pub found_passes : {X : Type 0} (test : X → Bool) (found : Option X) {Q : Type 0} → IsTrue (option_map_or test found false) → ((x : X) → found ≡ Some x → IsTrue (test x) → Q) → Q
found_passes test None passes then = absurd (false≢true passes)
found_passes test (Some x) passes then = then x refl passes

pub class_of_class : (d : ℕ) → class_of (ty.Class d) ≡ Some d
unfolding out-Ty out shown-the_row-Ty-0 shown hidden
class_of_class d = refl

pub class_of_array : (f : Ty) → class_of (type.Array f) ≡ None
unfolding out-Ty out shown-the_row-Ty-0 shown hidden
class_of_array f = refl

pub elements_of_array : (f : Ty) → elements_of (type.Array f) ≡ Some f
unfolding out-Ty out shown-the_row-Ty-0 shown hidden
elements_of_array f = refl

-- ---- what is asked of each type

pub is_int-Int : is_int ty.Int ≡ true
unfolding out-Ty out shown-the_row-Ty-0 shown hidden
is_int-Int = refl

pub is_boolean-Int : is_boolean ty.Int ≡ false
unfolding out-Ty out shown-the_row-Ty-0 shown hidden
is_boolean-Int = refl

pub is_string-Int : is_string ty.Int ≡ false
unfolding out-Ty out shown-the_row-Ty-0 shown hidden
is_string-Int = refl

pub is_null-Int : is_null ty.Int ≡ false
unfolding out-Ty out shown-the_row-Ty-0 shown hidden
is_null-Int = refl

pub is_void-Int : is_void ty.Int ≡ false
unfolding out-Ty out shown-the_row-Ty-0 shown hidden
is_void-Int = refl

pub is_object-Int : is_object ty.Int ≡ false
unfolding out-Ty out shown-the_row-Ty-0 shown hidden
is_object-Int = refl

pub elements-Int : elements_of ty.Int ≡ None
unfolding out-Ty out shown-the_row-Ty-0 shown hidden
elements-Int = refl

pub class-Int : class_of ty.Int ≡ None
unfolding out-Ty out shown-the_row-Ty-0 shown hidden
class-Int = refl

pub is_int-Bool : is_int ty.Bool ≡ false
unfolding out-Ty out shown-the_row-Ty-0 shown hidden
is_int-Bool = refl

pub is_boolean-Bool : is_boolean ty.Bool ≡ true
unfolding out-Ty out shown-the_row-Ty-0 shown hidden
is_boolean-Bool = refl

pub is_string-Bool : is_string ty.Bool ≡ false
unfolding out-Ty out shown-the_row-Ty-0 shown hidden
is_string-Bool = refl

pub is_null-Bool : is_null ty.Bool ≡ false
unfolding out-Ty out shown-the_row-Ty-0 shown hidden
is_null-Bool = refl

pub is_void-Bool : is_void ty.Bool ≡ false
unfolding out-Ty out shown-the_row-Ty-0 shown hidden
is_void-Bool = refl

pub is_object-Bool : is_object ty.Bool ≡ false
unfolding out-Ty out shown-the_row-Ty-0 shown hidden
is_object-Bool = refl

pub elements-Bool : elements_of ty.Bool ≡ None
unfolding out-Ty out shown-the_row-Ty-0 shown hidden
elements-Bool = refl

pub class-Bool : class_of ty.Bool ≡ None
unfolding out-Ty out shown-the_row-Ty-0 shown hidden
class-Bool = refl

pub is_int-Text : is_int ty.Text ≡ false
unfolding out-Ty out shown-the_row-Ty-0 shown hidden
is_int-Text = refl

pub is_boolean-Text : is_boolean ty.Text ≡ false
unfolding out-Ty out shown-the_row-Ty-0 shown hidden
is_boolean-Text = refl

pub is_string-Text : is_string ty.Text ≡ true
unfolding out-Ty out shown-the_row-Ty-0 shown hidden
is_string-Text = refl

pub is_null-Text : is_null ty.Text ≡ false
unfolding out-Ty out shown-the_row-Ty-0 shown hidden
is_null-Text = refl

pub is_void-Text : is_void ty.Text ≡ false
unfolding out-Ty out shown-the_row-Ty-0 shown hidden
is_void-Text = refl

pub is_object-Text : is_object ty.Text ≡ false
unfolding out-Ty out shown-the_row-Ty-0 shown hidden
is_object-Text = refl

pub elements-Text : elements_of ty.Text ≡ None
unfolding out-Ty out shown-the_row-Ty-0 shown hidden
elements-Text = refl

pub class-Text : class_of ty.Text ≡ None
unfolding out-Ty out shown-the_row-Ty-0 shown hidden
class-Text = refl

pub is_int-Null : is_int ty.Null ≡ false
unfolding out-Ty out shown-the_row-Ty-0 shown hidden
is_int-Null = refl

pub is_boolean-Null : is_boolean ty.Null ≡ false
unfolding out-Ty out shown-the_row-Ty-0 shown hidden
is_boolean-Null = refl

pub is_string-Null : is_string ty.Null ≡ false
unfolding out-Ty out shown-the_row-Ty-0 shown hidden
is_string-Null = refl

pub is_null-Null : is_null ty.Null ≡ true
unfolding out-Ty out shown-the_row-Ty-0 shown hidden
is_null-Null = refl

pub is_void-Null : is_void ty.Null ≡ false
unfolding out-Ty out shown-the_row-Ty-0 shown hidden
is_void-Null = refl

pub is_object-Null : is_object ty.Null ≡ false
unfolding out-Ty out shown-the_row-Ty-0 shown hidden
is_object-Null = refl

pub is_string-Void : is_string ty.Void ≡ false
unfolding out-Ty out shown-the_row-Ty-0 shown hidden
is_string-Void = refl

pub is_null-Void : is_null ty.Void ≡ false
unfolding out-Ty out shown-the_row-Ty-0 shown hidden
is_null-Void = refl

pub is_void-Void : is_void ty.Void ≡ true
unfolding out-Ty out shown-the_row-Ty-0 shown hidden
is_void-Void = refl

pub is_object-Void : is_object ty.Void ≡ false
unfolding out-Ty out shown-the_row-Ty-0 shown hidden
is_object-Void = refl

pub elements-Void : elements_of ty.Void ≡ None
unfolding out-Ty out shown-the_row-Ty-0 shown hidden
elements-Void = refl

pub class-Void : class_of ty.Void ≡ None
unfolding out-Ty out shown-the_row-Ty-0 shown hidden
class-Void = refl

pub is_int-Class : (c : ℕ) → is_int (ty.Class c) ≡ false
unfolding out-Ty out shown-the_row-Ty-0 shown hidden
is_int-Class c = refl

pub is_boolean-Class : (c : ℕ) → is_boolean (ty.Class c) ≡ false
unfolding out-Ty out shown-the_row-Ty-0 shown hidden
is_boolean-Class c = refl

pub is_string-Class : (c : ℕ) → is_string (ty.Class c) ≡ false
unfolding out-Ty out shown-the_row-Ty-0 shown hidden
is_string-Class c = refl

pub is_void-Class : (c : ℕ) → is_void (ty.Class c) ≡ false
unfolding out-Ty out shown-the_row-Ty-0 shown hidden
is_void-Class c = refl

pub is_int-Array : (c : Ty) → is_int (type.Array c) ≡ false
unfolding out-Ty out shown-the_row-Ty-0 shown hidden
is_int-Array c = refl

pub is_boolean-Array : (c : Ty) → is_boolean (type.Array c) ≡ false
unfolding out-Ty out shown-the_row-Ty-0 shown hidden
is_boolean-Array c = refl

pub is_string-Array : (c : Ty) → is_string (type.Array c) ≡ false
unfolding out-Ty out shown-the_row-Ty-0 shown hidden
is_string-Array c = refl

pub is_null-Array : (c : Ty) → is_null (type.Array c) ≡ false
unfolding out-Ty out shown-the_row-Ty-0 shown hidden
is_null-Array c = refl

pub is_void-Array : (c : Ty) → is_void (type.Array c) ≡ false
unfolding out-Ty out shown-the_row-Ty-0 shown hidden
is_void-Array c = refl

pub is_object_class : (c : ℕ) → IsTrue (is_object (ty.Class c))
unfolding out-Ty out shown-the_row-Ty-0 shown hidden
is_object_class c = refl

pub is_object_array : (e : Ty) → IsTrue (is_object (type.Array e))
unfolding out-Ty out shown-the_row-Ty-0 shown hidden
is_object_array e = refl

pub elements_of_class : (c : ℕ) → elements_of (ty.Class c) ≡ None
unfolding out-Ty out shown-the_row-Ty-0 shown hidden
elements_of_class c = refl

-- ---- what is asked of a type, by its form

pub int_is : (t : Ty) → t ≡ ty.Int → is_int t ≡ true
int_is t is = ap is_int is ∙ is_int-Int

pub boolean_is : (t : Ty) → t ≡ ty.Bool → is_boolean t ≡ true
boolean_is t is = ap is_boolean is ∙ is_boolean-Bool

pub string_is : (t : Ty) → t ≡ ty.Text → is_string t ≡ true
string_is t is = ap is_string is ∙ is_string-Text

pub null_is : (t : Ty) → t ≡ ty.Null → is_null t ≡ true
null_is t is = ap is_null is ∙ is_null-Null

pub void_is : (t : Ty) → t ≡ ty.Void → is_void t ≡ true
void_is t is = ap is_void is ∙ is_void-Void

pub class_is : (t : Ty) (c : ℕ) → t ≡ ty.Class c → class_of t ≡ Some c
class_is t c is = ap class_of is ∙ class_of_class c

pub elements_are : (t e : Ty) → t ≡ type.Array e → elements_of t ≡ Some e
elements_are t e is = ap elements_of is ∙ elements_of_array e

pub int_is_not : (t : Ty) → (t ≡ ty.Int → ⊥) → is_int t ≡ false
int_is_not t other = false_from_ne_true (is_int t) (λ is. other (int_type t is))

pub boolean_is_not : (t : Ty) → (t ≡ ty.Bool → ⊥) → is_boolean t ≡ false
boolean_is_not t other = false_from_ne_true (is_boolean t) (λ is. other (boolean_type t is))

pub string_is_not : (t : Ty) → (t ≡ ty.Text → ⊥) → is_string t ≡ false
string_is_not t other = false_from_ne_true (is_string t) (λ is. other (string_type t is))

pub null_is_not : (t : Ty) → (t ≡ ty.Null → ⊥) → is_null t ≡ false
null_is_not t other = false_from_ne_true (is_null t) (λ is. other (null_type t is))

pub void_is_not : (t : Ty) → (t ≡ ty.Void → ⊥) → is_void t ≡ false
void_is_not t other = false_from_ne_true (is_void t) (λ is. other (void_type t is))

-- nothing is found where nothing can be
nothing_found : {A : Type 0} (found : Option A) → ((x : A) → found ≡ Some x → ⊥) → found ≡ None
nothing_found (Some x) not = absurd (not x refl)
nothing_found None not = refl

pub class_is_not : (t : Ty) → ((c : ℕ) → t ≡ ty.Class c → ⊥) → class_of t ≡ None
class_is_not t other = nothing_found (class_of t) (λ c is. other c (class_type t c is))

pub elements_are_not : (t : Ty) → ((e : Ty) → t ≡ type.Array e → ⊥) → elements_of t ≡ None
elements_are_not t other = nothing_found (elements_of t) (λ e is. other e (array_type t e is))

pub ruleset forms = (int_is, boolean_is, string_is, null_is, void_is, class_is, elements_are, int_is_not, boolean_is_not, string_is_not, null_is_not, void_is_not, class_is_not, elements_are_not)

-- ---- by the form of a type

pub ty_cases : (P : Ty → Type 0) → P ty.Int → P ty.Bool → P ty.Text → ((c : ℕ) → P (ty.Class c)) → ((e : Ty) → P (type.Array e)) → P ty.Null → P ty.Void → (t : Ty) → P t
ty_cases P of_int of_bool of_text of_class of_array of_null of_void t = cases (out-Ty t) refl
  where
    cases : (x : Ty-F Ty) → out-Ty t ≡ x → P t
    cases Ty-F.Int is = subst P (sym (layer_is t Ty-F.Int is ∙ ty.rolls-Int)) of_int
    cases Ty-F.Bool is = subst P (sym (layer_is t Ty-F.Bool is ∙ ty.rolls-Bool)) of_bool
    cases Ty-F.Text is = subst P (sym (layer_is t Ty-F.Text is ∙ ty.rolls-Text)) of_text
    cases (Ty-F.Class c) is = subst P (sym (layer_is t (Ty-F.Class c) is ∙ ty.rolls-Class c)) (of_class c)
    cases (Ty-F.Array e) is = subst P (sym (layer_is t (Ty-F.Array e) is ∙ ty.rolls-Array e)) (of_array e)
    cases Ty-F.Null is = subst P (sym (layer_is t Ty-F.Null is ∙ ty.rolls-Null)) of_null
    cases Ty-F.Void is = subst P (sym (layer_is t Ty-F.Void is ∙ ty.rolls-Void)) of_void
