-- A part that stands where a value is needed and breaks no rule has a value.
use Rattle.std.proofs.Common.{◌≡◌, ℕ, Bool, IsTrue, [], Option, Some, None, refl, subst}
use Rattle.std.specs.Option.{option_map_or}
use Rattle.core_tree.specs.declared.ty.Ty.{Ty}
use Rattle.core_tree.specs.declared.expr.Expr.{Expr as Core}
use Rattle.core_tree.specs.declared.program.Program.{Program}
use Rattle.core_tree.specs.Typing.{Scope as CoreScope}
use Rattle.java_denotes.specs.declared.denotation.Denotation.{Denotation}
use Rattle.java_denotes.specs.declared.denotation.Denotation.TheVariants as denotes
use Rattle.java_exprs.specs.Attr.{Attr, unless, only_if, of_rule, is_no_value, is_nothing, named_10, nothing_11, bare_19, value_faults, negated_faults, prefix_faults}
use Rattle.java_denotes.specs.Members.{value_type}
use Rattle.java_exprs.specs.Rules.{wants}
use Rattle.typing_law.specs.Means.{HasType, Means, IsRight}
use Rattle.typing_law.proofs.NoFaults.{empty_parts, empty_rule, unless_empty, no_place}

-- what breaks no rule is right
abbrev pub Holds : Program → CoreScope → Attr → Type 0
Holds p s e = e.faults ≡ [] → IsRight p s e

-- a value of a type
pub record IsValue (p : Program) (s : CoreScope) (e : Attr) : Type 0 where
  pub type : Ty
  pub said : e.denotes ≡ Some (denotes.Value type)
  pub has : HasType p s e.core type

module _ (p : Program) (s : CoreScope) where
  has_value : (core : Core) (d : Option Denotation) (at : ℕ) → Means p s core d → only_if (is_no_value d) at ≡ [] → only_if (is_nothing d) at ≡ [] → (t : Ty) × (d ≡ Some (denotes.Value t)) × HasType p s core t
  has_value core None at means no_10 no_11 = absurd means
  has_value core (Some (denotes.Value t)) at means no_10 no_11 = (t, refl, means)
  has_value core (Some denotes.Nothing) at means no_10 no_11 = no_place at [] no_11
  has_value core (Some (denotes.Print print)) at means no_10 no_11 = no_place at [] no_11
  has_value core _ at means no_10 no_11 = no_place at [] no_10

  value_of : (e : Attr) → IsRight p s e → named_10 e ≡ [] → nothing_11 e ≡ [] → IsValue p s e
  value_of e right no_10 no_11 = let v = has_value e.core e.denotes e.at right.means no_10 no_11 in record { type = v.0; said = v.1; has = v.2 }

  pub right_part : (e : Attr) → Holds p s e → value_faults e ≡ [] → IsRight p s e
  right_part e holds none = holds (empty_parts e.faults (of_rule 10 (named_10 e) (of_rule 11 (nothing_11 e) (of_rule 19 (bare_19 e) []))) none).0

  -- a part where a value is needed
  pub value_part : (e : Attr) → Holds p s e → value_faults e ≡ [] → IsValue p s e
  value_part e holds none =
      let more = of_rule 11 (nothing_11 e) (of_rule 19 (bare_19 e) []) in
      let parts = empty_parts e.faults (of_rule 10 (named_10 e) more) none in
      let here = empty_rule 10 (named_10 e) more parts.1 in
      value_of e (holds parts.0) here.0 (empty_rule 11 (nothing_11 e) (of_rule 19 (bare_19 e) []) here.1).0

  -- the operand of a minus
  pub negated_part : (e : Attr) → Holds p s e → negated_faults e ≡ [] → IsValue p s e
  negated_part e holds none =
      let more = of_rule 11 (nothing_11 e) [] in
      let parts = empty_parts e.faults (of_rule 10 (named_10 e) more) none in
      let here = empty_rule 10 (named_10 e) more parts.1 in
      value_of e (holds parts.0) here.0 (empty_rule 11 (nothing_11 e) [] here.1).0

  -- what stands before a dot is a value, a class or the library
  pub prefix_part : (e : Attr) → Holds p s e → prefix_faults e ≡ [] → IsRight p s e × (nothing_11 e ≡ [])
  prefix_part e holds none =
      let parts = empty_parts e.faults (of_rule 11 (nothing_11 e) (of_rule 19 (bare_19 e) [])) none in
      (holds parts.0, (empty_rule 11 (nothing_11 e) (of_rule 19 (bare_19 e) []) parts.1).0)

  -- what a test that is asked of a value says
  pub wanted : (test : Ty → Bool) (e : Attr) (v : IsValue p s e) → wants test e ≡ [] → IsTrue (test v.type)
  wanted test e v none = unless_empty (test v.type) e.at (subst (λ d. option_map_or (λ t. unless (test t) e.at) (value_type d) [] ≡ []) v.said none)
