-- Tests of a type hold of what stands for it.
use Rattle.std.proofs.Common.{◌≡◌, ◌∙◌, ⊎_elim, Bool, false, ◌||◌, IsTrue, List, Some, subst, sym, ap}
use Rattle.std.proofs.lemmas.Bool.{false≢true, or_cases, or_left, or_right}
use Rattle.core_tree.specs.declared.ty.Ty.{Ty}
use Rattle.core_tree.specs.declared.ty.Ty.TheVariants as ty
use Rattle.core_tree.specs.declared.expr.Expr.{Expr as Core}
use Rattle.core_tree.specs.declared.program.Class.{Class}
use Rattle.core_tree.specs.declared.program.Program.{Program}
use Rattle.core_tree.specs.Types.{is_int, is_boolean, is_string, is_null, is_object, is_assignable}
use Rattle.core_tree.specs.Typing.{Scope, has, has_text, fits, is_text_or_null, type_of}
use Rattle.core_tree.proofs.TypeNodes.{is_assignable-Text, is_assignable-Null}
use Rattle.java_exprs.specs.Rules.{is_printed}
use Rattle.typing_law.specs.Means.{StandsFor, HasType}
use Rattle.core_tree.proofs.TypeFacts as type

-- a test that no String passes
pub stands_exact : (test : Ty → Bool) (a t : Ty) → test ty.Text ≡ false → StandsFor a t → IsTrue (test t) → a ≡ t
stands_exact test a t no_text stands is = ⊎_elim (λ same. same) (λ null. absurd (false≢true (sym no_text ∙ ap test (sym null.0) ∙ is))) stands

-- a test that null passes
pub stands_null : (test : Ty → Bool) (a t : Ty) → IsTrue (test ty.Null) → StandsFor a t → IsTrue (test t) → IsTrue (test a)
stands_null test a t of_null stands is = ⊎_elim (λ same. subst (λ u. IsTrue (test u)) (sym same) is) (λ null. subst (λ u. IsTrue (test u)) (sym null.1) of_null) stands

-- what a value of a type can be assigned to
pub stands_fits : (classes : List Class) (a t want : Ty) → StandsFor a t → IsTrue (is_assignable classes t want) → IsTrue (is_assignable classes a want)
stands_fits classes a t want stands is =
    ⊎_elim (λ same. subst (λ u. IsTrue (is_assignable classes u want)) (sym same) is)
    (λ null. subst (λ u. IsTrue (is_assignable classes u want)) (sym null.1) (from_null (subst (λ u. IsTrue (is_assignable classes u want)) null.0 is)))
    stands
  where
    from_null : IsTrue (is_assignable classes ty.Text want) → IsTrue (is_assignable classes ty.Null want)
    from_null is = subst (λ f. IsTrue (f want)) (sym (is_assignable-Null classes)) (or_left (is_null want || is_string want) (is_object want) (or_right (is_null want) (is_string want) (subst (λ f. IsTrue (f want)) (is_assignable-Text classes) is)))

-- ---- the resolved expression

module _ (p : Program) (s : Scope) (core : Core) (t : Ty) (typed : HasType p s core t) where
  -- it has exactly the type, where no String passes a test of it
  pub exact : (test : Ty → Bool) → test ty.Text ≡ false → IsTrue (test t) → type_of p s core ≡ Some t
  exact test no_text is = typed.typed ∙ ap Some (stands_exact test typed.actual t no_text typed.stands is)

  pub has_exact : (test : Ty → Bool) → test ty.Text ≡ false → IsTrue (test t) → IsTrue (has test (type_of p s core))
  has_exact test no_text is = subst (λ x. IsTrue (has test x)) (sym (exact test no_text is)) is

  pub has_null : (test : Ty → Bool) → IsTrue (test ty.Null) → IsTrue (test t) → IsTrue (has test (type_of p s core))
  has_null test of_null is = subst (λ x. IsTrue (has test x)) (sym typed.typed) (stands_null test typed.actual t of_null typed.stands is)

  pub has_boolean : IsTrue (is_boolean t) → IsTrue (has is_boolean (type_of p s core))
  has_boolean is = has_exact is_boolean type.is_boolean-Text is

  pub has_fits : (want : Ty) → IsTrue (is_assignable p.classes t want) → IsTrue (fits p want (type_of p s core))
  has_fits want is = subst (λ x. IsTrue (fits p want x)) (sym typed.typed) (stands_fits p.classes typed.actual t want typed.stands is)

  -- a String or null
  pub has_string : IsTrue (is_string t) → IsTrue (has is_text_or_null (type_of p s core))
  has_string is = has_null is_text_or_null (or_right (is_string ty.Null) (is_null ty.Null) type.is_null-Null) (or_left (is_string t) (is_null t) is)

  -- a type that has texts
  pub has_texts : IsTrue (is_string t || (is_int t || (is_boolean t || is_null t))) → IsTrue (has_text (type_of p s core))
  has_texts is = has_null (λ u. is_string u || (is_int u || (is_boolean u || is_null u)))
      (or_right (is_string ty.Null) (is_int ty.Null || (is_boolean ty.Null || is_null ty.Null)) (or_right (is_int ty.Null) (is_boolean ty.Null || is_null ty.Null) (or_right (is_boolean ty.Null) (is_null ty.Null) type.is_null-Null)))
      is

  pub has_printed : IsTrue (is_printed t) → IsTrue (has_text (type_of p s core))
  has_printed is = has_texts
      (⊎_elim (λ int. or_right (is_string t) (is_int t || (is_boolean t || is_null t)) (or_left (is_int t) (is_boolean t || is_null t) int))
      (λ more. ⊎_elim (λ boolean. or_right (is_string t) (is_int t || (is_boolean t || is_null t)) (or_right (is_int t) (is_boolean t || is_null t) (or_left (is_boolean t) (is_null t) boolean)))
      (λ string. or_left (is_string t) (is_int t || (is_boolean t || is_null t)) string)
      (or_cases (is_boolean t) (is_string t) more))
      (or_cases (is_int t) (is_boolean t || is_string t) is))
