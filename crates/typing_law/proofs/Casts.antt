-- Which values can be cast to a class or array type (JLS 15.16, 15.20.2).
use Rattle.std.proofs.Common.{◌≡◌, ◌∙◌, ℕ, Bool, false, ◌||◌, ◌&&◌, ◌==◌, IsTrue, List, length, None, subst, sym, ap}
use Rattle.std.specs.Option.{option_map_or}
use Rattle.std.proofs.lemmas.Bool.{false≢true, or_left, or_right, and_from}
use Rattle.core_tree.specs.declared.ty.Ty.{Ty}
use Rattle.core_tree.specs.declared.ty.Ty.TheVariants as ty
use Rattle.core_tree.specs.declared.ty.Ty.TheViews as type
use Rattle.core_tree.specs.declared.program.Class.{Class}
use Rattle.core_tree.specs.declared.program.Program.{Program}
use Rattle.core_tree.specs.Types.{class_of, elements_of, is_null, is_object, is_subclass, is_assignable, is_value_type}
use Rattle.core_tree.specs.Typing.{is_castable}
use Rattle.core_tree.specs.WellTyped.{is_value}
use Rattle.core_tree.proofs.TypeNodes.{is_assignable-Int, is_assignable-Bool, is_assignable-Text, is_assignable-Class, is_assignable-Array, is_assignable-Void}
use Rattle.typing_law.specs.Means.{StandsFor}
use Rattle.core_tree.proofs.TypeFacts as facts
use Rattle.typing_law.proofs.Standing.{stands_exact}

module _ (classes : List Class) where
  class_to : (c : ℕ) (t : Ty) → class_of t ≡ None → is_assignable classes (ty.Class c) t ≡ false
  class_to c t none = ap (λ f. f t) (is_assignable-Class classes c) ∙ ap (λ o. option_map_or (is_subclass classes c) o false) none

  array_to : (e t : Ty) → class_of t ≡ None → elements_of t ≡ None → is_assignable classes (type.Array e) t ≡ false
  array_to e t no_class no_elements =
      ap (λ f. f t) (is_assignable-Array classes e) ∙ ap (λ o. option_map_or (λ d. d == 0) o (option_map_or (is_assignable classes e) (elements_of t) false)) no_class ∙ ap (λ o. option_map_or (is_assignable classes e) o false) no_elements

  neither : (a b : Bool) → a ≡ false → b ≡ false → IsTrue (a || b) → ⊥
  neither a b no_a no_b is = false≢true (sym no_b ∙ subst (λ x. IsTrue (x || b)) no_a is)

  -- an object or null is all that can be assigned to a class or array type, or from it
  from_class : (c : ℕ) (from : Ty) → IsTrue (is_assignable classes from (ty.Class c) || is_assignable classes (ty.Class c) from) → IsTrue (is_object from || is_null from)
  from_class c = facts.ty_cases (λ from. IsTrue (is_assignable classes from (ty.Class c) || is_assignable classes (ty.Class c) from) → IsTrue (is_object from || is_null from))
      (λ is. absurd (neither (is_assignable classes ty.Int (ty.Class c)) (is_assignable classes (ty.Class c) ty.Int) (ap (λ f. f (ty.Class c)) (is_assignable-Int classes) ∙ facts.is_int-Class c) (class_to c ty.Int facts.class-Int) is))
      (λ is. absurd (neither (is_assignable classes ty.Bool (ty.Class c)) (is_assignable classes (ty.Class c) ty.Bool) (ap (λ f. f (ty.Class c)) (is_assignable-Bool classes) ∙ facts.is_boolean-Class c) (class_to c ty.Bool facts.class-Bool) is))
      (λ is. absurd (neither (is_assignable classes ty.Text (ty.Class c)) (is_assignable classes (ty.Class c) ty.Text) (ap (λ f. f (ty.Class c)) (is_assignable-Text classes) ∙ facts.is_string-Class c) (class_to c ty.Text facts.class-Text) is))
      (λ d is. or_left (is_object (ty.Class d)) (is_null (ty.Class d)) (facts.is_object_class d))
      (λ e is. or_left (is_object (type.Array e)) (is_null (type.Array e)) (facts.is_object_array e))
      (λ is. or_right (is_object ty.Null) (is_null ty.Null) facts.is_null-Null)
      (λ is. absurd (neither (is_assignable classes ty.Void (ty.Class c)) (is_assignable classes (ty.Class c) ty.Void) (ap (λ f. f (ty.Class c)) (is_assignable-Void classes)) (class_to c ty.Void facts.class-Void) is))

  from_array : (a : Ty) (from : Ty) → IsTrue (is_assignable classes from (type.Array a) || is_assignable classes (type.Array a) from) → IsTrue (is_object from || is_null from)
  from_array a = facts.ty_cases (λ from. IsTrue (is_assignable classes from (type.Array a) || is_assignable classes (type.Array a) from) → IsTrue (is_object from || is_null from))
      (λ is. absurd (neither (is_assignable classes ty.Int (type.Array a)) (is_assignable classes (type.Array a) ty.Int) (ap (λ f. f (type.Array a)) (is_assignable-Int classes) ∙ facts.is_int-Array a) (array_to a ty.Int facts.class-Int facts.elements-Int) is))
      (λ is. absurd (neither (is_assignable classes ty.Bool (type.Array a)) (is_assignable classes (type.Array a) ty.Bool) (ap (λ f. f (type.Array a)) (is_assignable-Bool classes) ∙ facts.is_boolean-Array a) (array_to a ty.Bool facts.class-Bool facts.elements-Bool) is))
      (λ is. absurd (neither (is_assignable classes ty.Text (type.Array a)) (is_assignable classes (type.Array a) ty.Text) (ap (λ f. f (type.Array a)) (is_assignable-Text classes) ∙ facts.is_string-Array a) (array_to a ty.Text facts.class-Text facts.elements-Text) is))
      (λ d is. or_left (is_object (ty.Class d)) (is_null (ty.Class d)) (facts.is_object_class d))
      (λ e is. or_left (is_object (type.Array e)) (is_null (type.Array e)) (facts.is_object_array e))
      (λ is. or_right (is_object ty.Null) (is_null ty.Null) facts.is_null-Null)
      (λ is. absurd (neither (is_assignable classes ty.Void (type.Array a)) (is_assignable classes (type.Array a) ty.Void) (ap (λ f. f (type.Array a)) (is_assignable-Void classes)) (array_to a ty.Void facts.class-Void facts.elements-Void) is))

  no_object : (t : Ty) → is_object t ≡ false → IsTrue (is_object t) → ⊥
  no_object t other is = false≢true (sym other ∙ is)

  from_object : (to from : Ty) → IsTrue (is_object to) → IsTrue (is_assignable classes from to || is_assignable classes to from) → IsTrue (is_object from || is_null from)
  from_object to from = facts.ty_cases (λ to. IsTrue (is_object to) → IsTrue (is_assignable classes from to || is_assignable classes to from) → IsTrue (is_object from || is_null from))
      (λ is either. absurd (no_object ty.Int facts.is_object-Int is)) (λ is either. absurd (no_object ty.Bool facts.is_object-Bool is)) (λ is either. absurd (no_object ty.Text facts.is_object-Text is))
      (λ c is either. from_class c from either) (λ a is either. from_array a from either)
      (λ is either. absurd (no_object ty.Null facts.is_object-Null is)) (λ is either. absurd (no_object ty.Void facts.is_object-Void is)) to

-- a value can be cast
pub castable : (p : Program) (to from actual : Ty) → IsTrue (is_object to) → IsTrue (is_value p to) → IsTrue (is_assignable p.classes from to || is_assignable p.classes to from) → StandsFor actual from → (actual ≡ from) × IsTrue (is_castable p to from)
castable p to from actual object value either stands =
    let is = from_object p.classes to from object either in (
      stands_exact (λ t. is_object t || is_null t) actual from (ap (λ b. b || is_null ty.Text) facts.is_object-Text ∙ facts.is_null-Text) stands is,
      and_from (is_object to && is_value_type (length p.classes) to) ((is_object from || is_null from) && (is_assignable p.classes from to || is_assignable p.classes to from))
          (and_from (is_object to) (is_value_type (length p.classes) to) object value)
          (and_from (is_object from || is_null from) (is_assignable p.classes from to || is_assignable p.classes to from) is either),
    )
