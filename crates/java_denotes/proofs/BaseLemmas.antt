-- Bases of types whose names are unknown.
use Rattle.std.proofs.Common.{◌≡◌, ℕ, List, [], ◌∷◌, Option, Some, None, refl}
use Rattle.std.specs.Prelude.{is_none, if◌then◌else◌}
use Rattle.core_tree.specs.declared.ty.Ty.{Ty}
use Rattle.token_reading.specs.declared.fault.Fault.{Fault}
use Rattle.token_reading.specs.declared.name.BaseType.{BaseType}
use Rattle.token_reading.specs.declared.name.BaseType.TheVariants as base
use Rattle.class_table.specs.Faults.{OfRule}
use Rattle.java_names.specs.Types.{base_type, named_type, unknown_base}

-- a type that is reported as unknown is none
none_there : (t : Option Ty) (place at : ℕ) → (if is_none t then place ∷ [] else []) ≡ at ∷ [] → t ≡ None
none_there None place at is = refl
none_there (Some t) place at is = absurd (cc)

none_at : (names : List (List ℕ)) (b : BaseType) (at : ℕ) → unknown_base names b ≡ at ∷ [] → base_type names b ≡ None
none_at names base.Int at is = absurd (cc)
none_at names base.Boolean at is = absurd (cc)
none_at names (base.Class c) at is = none_there (named_type names c.name) c.at at is

pub no_base : (names : List (List ℕ)) (b : BaseType) (f : Fault) → OfRule 10 (λ at. unknown_base names b ≡ at ∷ []) f → base_type names b ≡ None
no_base names b f h = none_at names b f.at h.holds
