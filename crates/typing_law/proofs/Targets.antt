-- What an assignment writes to, and the operators of compound assignments (JLS 15.26).
use Rattle.std.proofs.Common.{◌≡◌, ◌∙◌, ⊎_elim, ℕ, Bool, true, false, ◌||◌, ◌&&◌, IsTrue, [], length, Option, Some, refl, subst, sym, ap, if◌then◌else◌}
use Rattle.std.specs.Prelude.{is_none}
use Rattle.std.proofs.lemmas.Bool.{false≢true, or_cases, or_left, or_right, and_from}
use Rattle.core_tree.specs.declared.ty.Ty.{Ty}
use Rattle.core_tree.specs.declared.operator.UpOp.{UpOp}
use Rattle.core_tree.specs.declared.operator.UpOp.TheVariants as up
use Rattle.core_tree.specs.declared.expr.Expr.{Expr as Core, out-Expr}
use Rattle.core_tree.specs.declared.expr.Expr.TheOpen.{Expr-F as Core-F}
use Rattle.core_tree.specs.declared.expr.Expr.TheFolds.{fold_out-Expr, map-Expr}
use Rattle.core_tree.specs.declared.program.Program.{Program}
use Rattle.core_tree.specs.Types.{is_int, is_boolean, is_string, is_null, is_void, is_object, is_value_type}
use Rattle.core_tree.specs.Typing.{Scope as CoreScope, PartType, has, has_text, ints, booleans, expr_node, type_of, target_type, is_update}
use Rattle.java_names.specs.declared.scope.Scope.{Scope}
use Rattle.java_exprs.specs.declared.environment.Environment.{Environment}
use Rattle.java_denotes.specs.declared.denotation.Denotation.{Denotation}
use Rattle.java_denotes.specs.declared.denotation.Denotation.TheVariants as denotes
use Rattle.java_exprs.specs.declared.typed.Form.{Form}
use Rattle.java_exprs.specs.declared.typed.Form.TheVariants as form
use Rattle.java_exprs.specs.Attr.{Attr, unless, only_if}
use Rattle.java_denotes.specs.Members.{value_type}
use Rattle.java_exprs.specs.Rules.{both_11, bitwise_11, sum_21}
use Rattle.java_statements.specs.Statements.{target_node, target_of, is_target, target_18, constant_20, sum_11, sum_op}
use Rattle.typing_law.specs.Means.{IsPlace, IsRight, MeansForm, is_place, has_values}
use Rattle.typing_law.specs.Agrees.{Agrees}
use Rattle.core_tree.proofs.TypeFacts as facts
use Rattle.typing_law.proofs.Values.{value_not_void, values_text_or_object}
use Rattle.typing_law.proofs.NoFaults.{only_if_empty, no_place}
use Rattle.typing_law.proofs.Standing.{has_texts}
use Rattle.typing_law.proofs.Parts.{IsValue}
use Rattle.typing_law.proofs.Operators.{both, asked, bits_of, no_or, int_part, boolean_part}

-- a type of values isn't Void
pub values_not_void : (p : Program) (t : Ty) → IsTrue (has_values p t) → is_void t ≡ false
values_not_void p t is = ⊎_elim (λ value. value_not_void (length p.classes) t value) (λ null. ap is_void (facts.null_type t null) ∙ facts.is_void-Null) (or_cases (is_value_type (length p.classes) t) (is_null t) is)

module _ (p : Program) (cs : CoreScope) where
  target_is : (x : Core-F Core) → IsTrue (is_place x) → target_type p cs (target_node x) ≡ expr_node p cs (map-Expr Core PartType (type_of p cs) x)
  target_is (Core-F.Local n) is = refl
  target_is (Core-F.Field o at) is = refl
  target_is (Core-F.Element a i) is = refl
  target_is _ is = absurd (false≢true is)

  opened : (e : Core) → type_of p cs e ≡ expr_node p cs (map-Expr Core PartType (type_of p cs) (out-Expr e))
  unfolding type_of
  opened e = fold_out-Expr PartType (expr_node p cs) e

  -- the variable of an assignment has its type
  pub target_typed : (a : Attr) → IsPlace p cs a.core a.denotes → (t : Ty) → a.denotes ≡ Some (denotes.Value t) → target_type p cs (target_of a) ≡ Some t
  target_typed a place t said = target_is (out-Expr a.core) place.place ∙ sym (opened a.core) ∙ place.typed ∙ ap value_type (sym place.said ∙ said)

  of_form : (e : Core) (d : Option Denotation) (f : Form) (at : ℕ) → MeansForm p cs e d f → unless (false || is_target f) at ≡ [] → constant_20 f ≡ [] → IsPlace p cs e d
  of_form e d form.Variable at right none_18 none_20 = right
  of_form e d (form.Constant k) at right none_18 none_20 = no_place k [] none_20
  of_form e d _ at right none_18 none_20 = no_place at [] none_18

  pub is_variable : (a : Attr) (v : IsValue p cs a) → IsRight p cs a → target_18 a ≡ [] → constant_20 a.form ≡ [] → IsPlace p cs a.core a.denotes
  is_variable a v right none_18 none_20 = of_form a.core a.denotes a.form a.at right.form (subst (λ d. unless (is_none d || is_target a.form) a.at ≡ []) v.said none_18) none_20

-- ---- compound assignments

module _ (env : Environment) (p : Program) (agrees : Agrees env p) (s : Scope) (cs : CoreScope) (a e : Attr) (v : IsValue p cs a) (w : IsValue p cs e) where
  abbrev Updates : UpOp → Type 0
  Updates op = IsTrue (is_update op (Some v.type) (type_of p cs e.core))

  ints_of : both_11 is_int a e ≡ [] → IsTrue (ints (Some v.type) (type_of p cs e.core))
  ints_of none = let is = both env p agrees s cs a e v w is_int none in
      and_from (is_int v.type) (has is_int (type_of p cs e.core)) is.0 (subst (λ x. IsTrue (has is_int x)) (sym (int_part env p agrees s cs e w is.1)) facts.is_int-Int)

  pub ints_update : (op : UpOp) → ((x y : PartType) → is_update op x y ≡ ints x y) → both_11 is_int a e ≡ [] → Updates op
  ints_update op table none = table (Some v.type) (type_of p cs e.core) ∙ ints_of none

  pub bits_update : (op : UpOp) → ((x y : PartType) → is_update op x y ≡ (ints x y || booleans x y)) → bitwise_11 a e ≡ [] → Updates op
  bits_update op table none = table (Some v.type) (type_of p cs e.core) ∙ ⊎_elim
      (λ is. or_left (ints (Some v.type) (type_of p cs e.core)) (booleans (Some v.type) (type_of p cs e.core)) (and_from (is_int v.type) (has is_int (type_of p cs e.core)) is.0 (subst (λ x. IsTrue (has is_int x)) (sym (int_part env p agrees s cs e w is.1)) facts.is_int-Int)))
      (λ is. or_right (ints (Some v.type) (type_of p cs e.core)) (booleans (Some v.type) (type_of p cs e.core)) (and_from (is_boolean v.type) (has is_boolean (type_of p cs e.core)) is.0 (subst (λ x. IsTrue (has is_boolean x)) (sym (boolean_part env p agrees s cs e w is.1)) facts.is_boolean-Bool)))
      (bits_of env p agrees s cs a e v w none)

  pub sum_update : sum_11 a e ≡ [] → sum_21 a e ≡ [] → Updates (sum_op (value_type a.denotes))
  sum_update none_11 none_21 =
      subst (λ d. Updates (sum_op (value_type d))) (sym v.said)
      (cases (is_string v.type) refl (asked env p agrees s cs a e v w (λ t u. if is_string t || (is_object t && is_string u) then [] else both_11 is_int a e) none_11))
    where
      others : ((is_string v.type && is_object w.type) ≡ false) × ((is_object v.type && is_string w.type) ≡ false)
      others = no_or (is_string v.type && is_object w.type) (is_object v.type && is_string w.type)
          (only_if_empty ((is_string v.type && is_object w.type) || (is_object v.type && is_string w.type)) a.at (asked env p agrees s cs a e v w (λ t u. only_if ((is_string t && is_object u) || (is_object t && is_string u)) a.at) none_21))

      cases : (x : Bool) → is_string v.type ≡ x → (if x || (is_object v.type && is_string w.type) then [] else both_11 is_int a e) ≡ [] → Updates (if x then up.Concat else up.Add)
      cases true is none = and_from (is_string v.type) (has_text (type_of p cs e.core)) is
          (has_texts p cs e.core w.type w.has (values_text_or_object p w.type w.has.values (subst (λ x. (x && is_object w.type) ≡ false) is others.0)))
      cases false is none = ints_of (subst (λ x. (if x then [] else both_11 is_int a e) ≡ []) others.1 none)
