-- Each type is equal to itself.
use Rattle.std.proofs.Common.{◌≡◌, ◌∙◌, Bool, ◌==◌, IsTrue, refl, subst, sym, ap}
use Rattle.std.specs.Option.{option_map_or}
use Rattle.std.proofs.lemmas.Bool.{eq-eqb}
use Rattle.core_tree.specs.declared.ty.Ty.{Ty}
use Rattle.core_tree.specs.declared.ty.Ty.TheVariants as ty
use Rattle.core_tree.specs.declared.ty.Ty.TheViews.{roll-Ty}
use Rattle.core_tree.specs.declared.ty.Ty.TheOpen.{Ty-F}
use Rattle.core_tree.specs.declared.ty.Ty.TheFolds.{ind-Ty, map-Ty}
use Rattle.core_tree.specs.Types.{is_same_type}
use Rattle.core_tree.proofs.TypeNodes.{is_same_type-Int, is_same_type-Bool, is_same_type-Text, is_same_type-Class, is_same_type-Array, is_same_type-Null, is_same_type-Void}
use Rattle.core_tree.proofs.TypeFacts as facts

abbrev IsItself : Ty → Type 0
IsItself t = IsTrue (is_same_type t t)

pub same_refl : (t : Ty) → IsTrue (is_same_type t t)
same_refl = ind-Ty IsItself step
  where
    step : (x : Ty-F Ty) (y : Ty-F ((t : Ty) × IsItself t)) → map-Ty ((t : Ty) × IsItself t) Ty (λ e. e.0) y ≡ x → IsItself (roll-Ty x)
    step x Ty-F.Int is = subst IsItself (sym ty.rolls-Int ∙ ap roll-Ty is) (ap (λ f. f ty.Int) is_same_type-Int ∙ facts.is_int-Int)
    step x Ty-F.Bool is = subst IsItself (sym ty.rolls-Bool ∙ ap roll-Ty is) (ap (λ f. f ty.Bool) is_same_type-Bool ∙ facts.is_boolean-Bool)
    step x Ty-F.Text is = subst IsItself (sym ty.rolls-Text ∙ ap roll-Ty is) (ap (λ f. f ty.Text) is_same_type-Text ∙ facts.is_string-Text)
    step x (Ty-F.Class c) is = subst IsItself (sym (ty.rolls-Class c) ∙ ap roll-Ty is) (ap (λ f. f (ty.Class c)) (is_same_type-Class c) ∙ ap (λ o. option_map_or (λ d. c == d) o Bool.false) (facts.class_of_class c) ∙ eq-eqb c c refl)
    step x (Ty-F.Array e) is = subst IsItself (sym (ty.rolls-Array e.0) ∙ ap roll-Ty is) (ap (λ f. f (ty.Array e.0)) (is_same_type-Array e.0) ∙ ap (λ o. option_map_or (is_same_type e.0) o Bool.false) (facts.elements_of_array e.0) ∙ e.1)
    step x Ty-F.Null is = subst IsItself (sym ty.rolls-Null ∙ ap roll-Ty is) (ap (λ f. f ty.Null) is_same_type-Null ∙ facts.is_null-Null)
    step x Ty-F.Void is = subst IsItself (sym ty.rolls-Void ∙ ap roll-Ty is) (ap (λ f. f ty.Void) is_same_type-Void ∙ facts.is_void-Void)
