-- Arguments that break no rule fit the parameters.
use Rattle.std.proofs.Common.{◌≡◌, ◌∙◌, false, IsTrue, List, [], ◌∷◌, length, map, refl, subst, sym, arith, if◌then◌else◌}
use Rattle.std.specs.List.{list_all}
use Rattle.std.proofs.lemmas.Bool.{and_from}
use Rattle.std.specs.Cmp.{first_so, second_so}
use Rattle.core_tree.specs.declared.ty.Ty.{Ty}
use Rattle.core_tree.specs.declared.program.Program.{Program}
use Rattle.core_tree.specs.Types.{is_void}
use Rattle.core_tree.specs.Typing.{Scope as CoreScope, fits, all_fit, type_of}
use Rattle.core_tree.specs.WellTyped.{is_value}
use Rattle.java_exprs.specs.declared.environment.Environment.{Environment}
use Rattle.java_exprs.specs.Attr.{Attr, value_faults, values_faults}
use Rattle.java_denotes.specs.Types as rules
use Rattle.java_exprs.specs.Resolved.{cores}
use Rattle.java_exprs.specs.Rules.{wants, wants_type, wants_each}
use Rattle.typing_law.specs.Agrees.{Agrees}
use Rattle.typing_law.proofs.Types.{same_assignable}
use Rattle.typing_law.proofs.Values.{value_not_void}
use Rattle.typing_law.proofs.NoFaults.{empty_parts}
use Rattle.typing_law.proofs.Standing.{has_fits}
use Rattle.typing_law.proofs.Parts.{Holds, IsValue, value_part, wanted}
use Rattle.typing_law.proofs.Found.{no_length}

-- each of some parts is right where it breaks no rule
abbrev pub AllHold : Program → CoreScope → List Attr → Type 0
AllHold p core [] = Unit {0}
AllHold p core (e ∷ es) = Holds p core e × AllHold p core es

module _ (env : Environment) (p : Program) (agrees : Agrees env p) (core : CoreScope) where
  -- a value that is wanted for a variable of a type fits it
  pub fits_wanted : (want : Ty) (e : Attr) (v : IsValue p core e) → is_void want ≡ false → wants_type env want e ≡ [] → IsTrue (fits p want (type_of p core e.core))
  fits_wanted want e v no_void none =
      let asked : wants (λ from. rules.is_assignable env.symbols from want) e ≡ [] = subst (λ b. (if b then [] else wants (λ from. rules.is_assignable env.symbols from want) e) ≡ []) no_void none in
      has_fits p core e.core v.type v.has want (sym (same_assignable env.symbols p.classes agrees.below v.type want) ∙ wanted p core (λ from. rules.is_assignable env.symbols from want) e v asked)

  pub arguments_fit : (es : List Attr) (params : List Ty) → AllHold p core es → values_faults es ≡ [] → wants_each env es params ≡ [] → length params ≡ length es → IsTrue (list_all (is_value p) params) →
      IsTrue (all_fit p params (map (type_of p core) (cores es)))
  arguments_fit [] [] hold none wanted_none same values = refl
  arguments_fit [] (t ∷ ts) hold none wanted_none same values = absurd (no_length (length ts) (sym same))
  arguments_fit (e ∷ es) [] hold none wanted_none same values = absurd (no_length (length es) same)
  arguments_fit (e ∷ es) (t ∷ ts) hold none wanted_none same values =
      let below = empty_parts (value_faults e) (values_faults es) none in
      let asked = empty_parts (wants_type env t e) (wants_each env es ts) wanted_none in
      let lengths : length ts ≡ length es = omega arith in
      let value = first_so (is_value p t) (list_all (is_value p) ts) values in
      and_from (fits p t (type_of p core e.core)) (all_fit p ts (map (type_of p core) (cores es)))
      (fits_wanted t e (value_part p core e hold.0 below.0) (value_not_void (length p.classes) t value) asked.0)
      (arguments_fit es ts hold.1 below.1 asked.1 lengths (second_so (is_value p t) (list_all (is_value p) ts) values))
