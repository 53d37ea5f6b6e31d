-- The types that a file spells are types that variables have.
use Rattle.std.proofs.Common.{◌≡◌, ◌∙◌, ℕ, zero, suc, Bool, true, false, IsTrue, [], ◌∷◌, length, Option, Some, None, option_map, refl, subst, sym, ap, if◌then◌else◌}
use Rattle.std.specs.Prelude.{is_none, nat_lt, unwrap_or}
use Rattle.std.proofs.lemmas.Option.{none-some, same_Some}
use Rattle.core_tree.specs.declared.ty.Ty.{Ty}
use Rattle.core_tree.specs.declared.ty.Ty.TheVariants as ty
use Rattle.core_tree.specs.declared.program.Program.{Program}
use Rattle.core_tree.specs.WellTyped.{is_value}
use Rattle.core_tree.proofs.TypeNodes.{is_value_type-Int, is_value_type-Bool, is_value_type-Text, is_value_type-Array}
use Rattle.token_reading.specs.declared.name.BaseType.{BaseType}
use Rattle.token_reading.specs.declared.name.BaseType.TheVariants as base
use Rattle.token_reading.specs.declared.name.TypeTree.{TypeTree}
use Rattle.class_table.specs.Names.{Name}
use Rattle.java_names.specs.Types as types
use Rattle.java_exprs.specs.declared.environment.Environment.{Environment}
use Rattle.java_exprs.specs.Lookups.{class_named, type_named, elements_named, unknown_type, unknown_base}
use Rattle.typing_law.proofs.NoFaults.{no_place}
use Rattle.typing_law.proofs.Values.{class_value}

some_there : {X : Type 0} (found : Option X) (at : ℕ) → (if is_none found then at ∷ [] else []) ≡ [] → (x : X) × (found ≡ Some x)
some_there None at none = no_place at [] none
some_there (Some x) at none = (x, refl)

pub known_base : (env : Environment) (b : BaseType) → unknown_base env b ≡ [] → (t : Ty) × (types.base_type env.symbols.names b ≡ Some t)
known_base env base.Int none = (ty.Int, refl)
known_base env base.Boolean none = (ty.Bool, refl)
known_base env (base.Class c) none = some_there (types.named_type env.symbols.names c.name) c.at none

-- a type without a fault is spelled
pub known_type : (env : Environment) (t : TypeTree) → unknown_type env t ≡ [] → (to : Ty) × (type_named env t ≡ Some to)
known_type env t none = let b = known_base env t.base none in (types.arrays t.dimensions b.0, ap (option_map (types.arrays t.dimensions)) b.1)

module _ (env : Environment) (p : Program) (classes : (x : Name) (c : ℕ) → class_named env x ≡ Some c → IsTrue (nat_lt c (length p.classes))) where
  named_value : (x : Name) (t : Ty) → types.named_type env.symbols.names x ≡ Some t → IsTrue (is_value p t)
  named_value x t is = cases (types.is_string x) (class_named env x) refl is
    where
      cases : (b : Bool) (found : Option ℕ) → class_named env x ≡ found → (if b then Some ty.Text else option_map ty.Class found) ≡ Some t → IsTrue (is_value p t)
      cases true found of_class is = subst (λ u. IsTrue (is_value p u)) (same_Some _ _ is) (is_value_type-Text (length p.classes))
      cases false None of_class is = absurd (none-some _ is)
      cases false (Some c) of_class is = subst (λ u. IsTrue (is_value p u)) (same_Some _ _ is) (class_value (length p.classes) c (classes x c of_class))

  base_value : (b : BaseType) (t : Ty) → types.base_type env.symbols.names b ≡ Some t → IsTrue (is_value p t)
  base_value base.Int t is = subst (λ u. IsTrue (is_value p u)) (same_Some _ _ is) (is_value_type-Int (length p.classes))
  base_value base.Boolean t is = subst (λ u. IsTrue (is_value p u)) (same_Some _ _ is) (is_value_type-Bool (length p.classes))
  base_value (base.Class c) t is = named_value c.name t is

  arrays_value : (n : ℕ) (t : Ty) → IsTrue (is_value p t) → IsTrue (is_value p (types.arrays n t))
  arrays_value zero t is = is
  arrays_value (suc n) t is = is_value_type-Array (length p.classes) (types.arrays n t) ∙ arrays_value n t is

  of_base : (n : ℕ) (found : Option Ty) (to : Ty) → ((t : Ty) → found ≡ Some t → IsTrue (is_value p t)) → option_map (types.arrays n) found ≡ Some to → IsTrue (is_value p to)
  of_base n None to values is = absurd (none-some _ is)
  of_base n (Some t) to values is = subst (λ u. IsTrue (is_value p u)) (same_Some _ _ is) (arrays_value n t (values t refl))

  pub elements_value : (b : BaseType) (n : ℕ) (to : Ty) → elements_named env b n ≡ Some to → IsTrue (is_value p to)
  elements_value b n to is = of_base n (types.base_type env.symbols.names b) to (base_value b) is

  pub spelled_value : (t : TypeTree) (to : Ty) → type_named env t ≡ Some to → IsTrue (is_value p to)
  spelled_value t to is = elements_value t.base t.dimensions to is

  -- the type of a declaration without a fault
  pub declared_value : (t : TypeTree) → unknown_type env t ≡ [] → IsTrue (is_value p (types.declared_type env.symbols.names t))
  declared_value t none = let to = known_type env t none in subst (λ u. IsTrue (is_value p (unwrap_or u ty.Void))) (sym to.1) (spelled_value t to.0 to.1)
