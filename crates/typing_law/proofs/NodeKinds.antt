-- Each kind of expression but operators: a node that breaks no rule is well typed.
use Rattle.std.proofs.Common.{◌≡◌, ◌∙◌, ⊎_elim, ◌⊎◌, ℕ, ℤ, pos, suc, Bool, true, false, not, ◌||◌, ◌&&◌, ◌==◌, IsTrue, List, [], ◌∷◌, length, map, Option, Some, None, option_map, is_some, refl, subst, sym, ap, arith, w32, if◌then◌else◌}
use Rattle.std.specs.Prelude.{option_and_then, unwrap_or}
use Rattle.std.specs.Option.{option_map_or}
use Rattle.std.specs.Ordering.{int_eq}
use Rattle.std.proofs.lemmas.Cmp.{int_eq_equiv}
use Rattle.std.proofs.lemmas.Int.{int_wrap_fits, SFits-int_wrap}
use Rattle.std.proofs.lemmas.Bool.{and_from}
use Rattle.std.specs.Cmp.{first_so}
use Rattle.pb_int.specs.Int32.{wrap}
use Rattle.core_tree.specs.declared.ty.Ty.{Ty}
use Rattle.core_tree.specs.declared.ty.Ty.TheVariants as ty
use Rattle.core_tree.specs.declared.ty.Ty.TheViews as type
use Rattle.core_tree.specs.declared.expr.Expr.{Expr as Core}
use Rattle.core_tree.specs.declared.expr.Expr.TheVariants as core
use Rattle.core_tree.specs.declared.expr.Expr.TheViews as view
use Rattle.core_tree.specs.declared.program.Program.{Program}
use Rattle.core_tree.specs.Types.{elements_of, is_int, is_object, is_assignable, is_value_type, is_array}
use Rattle.core_tree.specs.Typing.{Scope as CoreScope, has, fits, is_castable, is_int_number, all_fit, type_of, where_true}
use Rattle.core_tree.specs.WellTyped.{is_value}
use Rattle.core_tree.specs.BuiltIn.{is_built_in}
use Rattle.core_tree.proofs.TypeNodes.{is_value_type-Array}
use Rattle.core_tree.proofs.ExprNodes.{type_of-Int, type_of-Bool, type_of-Text, type_of-Null, type_of-Local, type_of-Element, type_of-New, type_of-NewBuilt, type_of-NewArray, type_of-Cast, type_of-Is}
use Rattle.token_reading.specs.declared.name.Ident.{Ident}
use Rattle.token_reading.specs.declared.name.TypeTree.{TypeTree}
use Rattle.token_reading.specs.declared.name.BaseType.{BaseType}
use Rattle.java_syntax.specs.declared.expression.Expr.TheOpen.{Expr-F}
use Rattle.class_table.specs.Names.{same_name}
use Rattle.java_names.specs.declared.scope.Scope.{Scope}
use Rattle.java_names.specs.Types.{arrays}
use Rattle.java_names.specs.declared.symbol.FieldSymbol.{FieldSymbol}
use Rattle.java_names.specs.declared.symbol.MakerSymbol.{MakerSymbol}
use Rattle.java_exprs.specs.declared.environment.Environment.{Environment}
use Rattle.java_denotes.specs.declared.denotation.Denotation.{Denotation}
use Rattle.java_denotes.specs.declared.denotation.Denotation.TheVariants as denotes
use Rattle.java_exprs.specs.declared.typed.Form.{Form}
use Rattle.java_exprs.specs.declared.typed.Form.TheVariants as form
use Rattle.java_denotes.specs.declared.through.Through.TheVariants as through
use Rattle.java_exprs.specs.Attr.{Attr, unless, only_if, value_faults}
use Rattle.java_denotes.specs.Members.{value_type, is_found}
use Rattle.java_denotes.specs.Types as rules
use Rattle.java_exprs.specs.Lookups.{member_of, maker_of, class_named, local_named, elements_named, constant_at}
use Rattle.java_denotes.specs.Lookups.{local_denotes, variable_denotes}
use Rattle.java_denotes.specs.Denotes.{value, call_denotes, class_denotes}
use Rattle.java_exprs.specs.Denotes.{member_form, form_inside}
use Rattle.java_denotes.specs.Library.{system_name}
use Rattle.java_exprs.specs.Resolved.{cores, literal_core, first_core, member_core, call_core}
use Rattle.java_exprs.specs.Rules.{wants, wants_each, naming_14, calling_10, calling_11, calling_12, cast_15, new_11}
use Rattle.java_exprs.specs.Checks.{attr_at}
use Rattle.typing_law.specs.Means.{HasType, Means, MeansForm, IsPlace, IsRight, has_values}
use Rattle.typing_law.specs.Agrees.{Agrees, AgreesOnScope, AgreesOnLocal, AgreesOnMaker}
use Rattle.typing_law.proofs.Types.{same_assignable}
use Rattle.core_tree.proofs.TypeFacts as facts
use Rattle.typing_law.proofs.Values.{values_null, values_value, class_value, element_values, value_not_void}
use Rattle.typing_law.proofs.NoFaults.{empty_parts, unless_empty, only_if_empty, no_place}
use Rattle.typing_law.proofs.Standing.{exact, has_exact}
use Rattle.typing_law.proofs.Parts.{Holds, IsValue, value_part, right_part, wanted}
use Rattle.typing_law.proofs.Nodes.{breaks_none, has_type, has_type_int, has_type_bool, has_type_text, where_holds}
use Rattle.typing_law.proofs.Arguments.{AllHold, arguments_fit}
use Rattle.typing_law.proofs.Names as names
use Rattle.typing_law.proofs.Spelled.{known_type, known_base, spelled_value, elements_value}
use Rattle.typing_law.proofs.Casts.{castable}
use Rattle.typing_law.proofs.Found.{some_of, no_length}
use Rattle.std.proofs.Math.Bool.{or-true}

-- ---- numbers

pub wrapped : (z : ℤ) → IsTrue (is_int_number (wrap z))
wrapped z = ap (λ y. int_eq y (wrap z)) (int_wrap_fits w32 (wrap z) (SFits-int_wrap w32 z)) ∙ int_eq_equiv.refl (wrap z)

module _ (env : Environment) (p : Program) (agrees : Agrees env p) (s : Scope) (cs : CoreScope) (inside : AgreesOnScope env p s cs) where
  -- ---- leaves

  pub number_right : (at n : ℕ) → Holds p cs (attr_at env s (Expr-F.Number at n))
  number_right at n none = record { means = has_type_int p cs (core.Int (wrap (pos n))) (type_of-Int p cs (wrap (pos n)) ∙ where_holds (is_int_number (wrap (pos n))) ty.Int (wrapped (pos n))); form = tt }

  pub text_right : (at : ℕ) (t : List ℕ) → Holds p cs (attr_at env s (Expr-F.Text at t))
  text_right at t none = record { means = has_type_text p cs (core.Text t) (type_of-Text p cs t); form = tt }

  pub bool_right : (at : ℕ) (b : Bool) → Holds p cs (attr_at env s (Expr-F.Bool at b))
  bool_right at b none = record { means = has_type_bool p cs (core.Bool b) (type_of-Bool p cs b); form = tt }

  pub null_right : (at : ℕ) → Holds p cs (attr_at env s (Expr-F.Null at))
  null_right at none = record { means = has_type p cs core.Null ty.Null (type_of-Null p cs) (values_null p); form = tt }

  this_class_values : IsTrue (has_values p (ty.Class s.class))
  this_class_values = values_value p (ty.Class s.class) (class_value (length p.classes) s.class inside.class)

  pub this_right : (at : ℕ) → Holds p cs (attr_at env s (Expr-F.This at))
  this_right at none =
      let b = breaks_none env s (Expr-F.This at) none in
      record { means = has_type p cs core.This (ty.Class s.class) (names.type_of_this env p agrees s cs inside (only_if_empty s.is_static at b.rule_14)) this_class_values; form = tt }

  -- ---- names

  local_right : (n : ℕ) → AgreesOnLocal p s cs n → Means p cs (core.Local n) (local_denotes s n) × IsPlace p cs (core.Local n) (local_denotes s n)
  local_right n local =
      let typed : type_of p cs (core.Local n) ≡ Some local.type = type_of-Local p cs n ∙ local.found in
      let said : local_denotes s n ≡ Some (denotes.Value local.type) = ap (option_and_then variable_denotes) local.slot ∙ ap (λ b. if b then None else Some (denotes.Value local.type)) (value_not_void (length p.classes) local.type local.value) in (
        subst (Means p cs (core.Local n)) (sym said) (has_type p cs (core.Local n) local.type typed (values_value p local.type local.value)),
        record { place = names.place_local n; type = local.type; said = said; typed = typed },
      )

  class_means : (x : Ident) (found : Option ℕ) → (is_some found || same_name x.name system_name) ≡ true → Means p cs core.Null (option_map_or (λ c. Some (denotes.Class c)) found (if same_name x.name system_name then Some denotes.System else None))
  class_means x (Some c) known = tt
  class_means x None known = subst (λ b. Means p cs core.Null (if b then Some denotes.System else None)) (sym known) tt

  -- a name that isn't a local
  member_name : (x : Ident) (m : Option FieldSymbol) → member_of env s.class x.name ≡ m → (is_some m || (is_some (class_named env x.name) || same_name x.name system_name)) ≡ true →
      only_if (s.is_static && (true && option_map_or (λ m. is_some m.place) m false)) x.at ≡ [] →
      names.NameIsRight env p agrees s cs inside
      (option_map_or (λ m. option_map_or (λ place. view.Field core.This place) m.place (option_map_or literal_core (constant_at env m.at) core.Null)) m core.Null)
      (option_map_or (λ m. variable_denotes m.ty) m (class_denotes env.symbols x.name))
      (option_map_or (λ m. if is_some m.place then form.Variable else form.Constant x.at) m form.Other)
  member_name x None is known none = record { means = class_means x (class_named env x.name) known; form = tt }
  member_name x (Some m) is known none = names.found_right env p agrees s cs inside x through.This s.class core.This m (refl, refl) (agrees.field s.class x.name m is) refl none

  -- every field or constant is found by its name alone
  named : (x : Ident) (m : Option FieldSymbol) → option_and_then (λ m. if is_found through.This m then Some m else None) m ≡ m
  named x None = refl
  named x (Some m) = ap (λ b. if b then Some m else None) (or-true (is_some m.place))

  pub name_right : (x : Ident) → Holds p cs (attr_at env s (Expr-F.Name x))
  name_right x none =
      let b = breaks_none env s (Expr-F.Name x) none in
      cases (local_named s x.name) refl b.rule_10 b.rule_14
    where
      cases : (local : Option ℕ) → local_named s x.name ≡ local →
          unless (is_some local || (is_some (member_of env s.class x.name) || (is_some (class_named env x.name) || same_name x.name system_name))) x.at ≡ [] →
          option_map_or (naming_14 env s) (if is_some local then None else Some (record { through = through.This; class = s.class; object = core.This; name = x })) [] ≡ [] →
          IsRight p cs (attr_at env s (Expr-F.Name x))
      cases (Some n) is none_10 none_14 = let right = local_right n (inside.local x.name n is) in subst (λ local. IsRight p cs (record {
        at = x.at;
        denotes = option_map_or (local_denotes s) local (option_map_or (λ m. variable_denotes m.ty) (member_of env s.class x.name) (class_denotes env.symbols x.name));
        form = if is_some local then form.Variable else option_map_or (member_form env) (if is_some local then None else Some (record { through = through.This; class = s.class; object = core.This; name = x })) form.Other;
        needs_minus = false;
        core = option_map_or core.Local local (option_map_or (member_core env) (if is_some local then None else Some (record { through = through.This; class = s.class; object = core.This; name = x })) core.Null);
        faults = (attr_at env s (Expr-F.Name x)).faults;
      })) (sym is) (record { means = right.0; form = right.1 })
      cases None is none_10 none_14 =
          let same = named x (member_of env s.class x.name) in
          let right = member_name x (member_of env s.class x.name) refl (unless_empty (is_some (member_of env s.class x.name) || (is_some (class_named env x.name) || same_name x.name system_name)) x.at none_10)
          (subst (λ found. only_if (s.is_static && (true && option_map_or (λ m. is_some m.place) found false)) x.at ≡ []) same none_14) in
          let of_field = λ (m : FieldSymbol). option_map_or (λ place. view.Field core.This place) m.place (option_map_or literal_core (constant_at env m.at) core.Null) in
          let of_form = λ (m : FieldSymbol). if is_some m.place then form.Variable else form.Constant x.at in
          let denoted = option_map_or (λ m. variable_denotes m.ty) (member_of env s.class x.name) (class_denotes env.symbols x.name) in
          subst (λ local. IsRight p cs (record {
            at = x.at;
            denotes = option_map_or (local_denotes s) local (option_map_or (λ m. variable_denotes m.ty) (member_of env s.class x.name) (class_denotes env.symbols x.name));
            form = if is_some local then form.Variable else option_map_or (member_form env) (if is_some local then None else Some (record { through = through.This; class = s.class; object = core.This; name = x })) form.Other;
            needs_minus = false;
            core = option_map_or core.Local local (option_map_or (member_core env) (if is_some local then None else Some (record { through = through.This; class = s.class; object = core.This; name = x })) core.Null);
            faults = (attr_at env s (Expr-F.Name x)).faults;
          })) (sym is) (record {
            means = subst (λ found. Means p cs (option_map_or of_field found core.Null) denoted) (sym same) right.means;
            form = subst (λ found. MeansForm p cs (option_map_or of_field found core.Null) denoted (option_map_or of_form found form.Other)) (sym same) right.form;
          })

  -- ---- parentheses

  inside_right : (e : Core) (f : Form) (d : Option Denotation) → MeansForm p cs e d f → MeansForm p cs e (value (value_type d)) (form_inside f)
  inside_right e form.Variable d right = record { place = right.place; type = right.type; said = ap (λ x. value (value_type x)) right.said; typed = right.typed }
  inside_right e _ d right = tt

  pub paren_right : (at : ℕ) (e : Attr) → Holds p cs e → Holds p cs (attr_at env s (Expr-F.Paren at e))
  paren_right at e holds none =
      let b = breaks_none env s (Expr-F.Paren at e) none in
      let v = value_part p cs e holds b.below in
      record {
        means = subst (λ d. Means p cs e.core (value (value_type d))) (sym v.said) v.has;
        form = inside_right e.core e.form e.denotes (right_part p cs e holds b.below).form;
      }

  -- ---- elements and new arrays

  some_elements : (t : Ty) → IsTrue (is_array t) → (e : Ty) × (elements_of t ≡ Some e)
  some_elements t is = some_of (elements_of t) is

  no_array_text : is_array ty.Text ≡ false
  no_array_text = ap is_some facts.elements-Text

  pub element_right : (a i : Attr) → Holds p cs a → Holds p cs i → Holds p cs (attr_at env s (Expr-F.Element a i))
  element_right a i holds_a holds_i none =
      let b = breaks_none env s (Expr-F.Element a i) none in
      let below = empty_parts (value_faults a) (value_faults i) b.below in
      let asked = empty_parts (wants is_array a) (wants is_int i) b.rule_11 in
      let v = value_part p cs a holds_a below.0 in
      let w = value_part p cs i holds_i below.1 in
      let array = wanted p cs is_array a v asked.0 in
      let e = some_elements v.type array in
      let said : value (option_and_then elements_of (value_type a.denotes)) ≡ Some (denotes.Value e.0) = ap (λ d. value (option_and_then elements_of (value_type d))) v.said ∙ ap value e.1 in
      let typed : type_of p cs (view.Element a.core i.core) ≡ Some e.0 =
      type_of-Element p cs a.core i.core
      ∙ ap (λ x. if x then option_and_then elements_of (type_of p cs a.core) else None) (has_exact p cs i.core w.type w.has is_int facts.is_int-Text (wanted p cs is_int i w asked.1))
      ∙ ap (option_and_then elements_of) (exact p cs a.core v.type v.has is_array no_array_text array) ∙ e.1 in
      let values = values_value p e.0 (element_values p e.0 (subst (λ t. IsTrue (has_values p t)) (facts.array_type v.type e.0 e.1) v.has.values)) in
      record {
        means = subst (Means p cs (view.Element a.core i.core)) (sym said) (has_type p cs (view.Element a.core i.core) e.0 typed values);
        form = record { place = names.place_element a.core i.core; type = e.0; said = said; typed = typed };
      }

  pub new_array_right : (at : ℕ) (base : BaseType) (e : Attr) (dimensions : ℕ) → Holds p cs e → Holds p cs (attr_at env s (Expr-F.NewArray at base e dimensions))
  new_array_right at base e dimensions holds none =
      let b = breaks_none env s (Expr-F.NewArray at base e dimensions) none in
      let v = value_part p cs e holds b.below in
      let known = known_base env base b.rule_10 in
      let elements = arrays dimensions known.0 in
      let is : elements_named env base dimensions ≡ Some elements = ap (option_map (arrays dimensions)) known.1 in
      let values = elements_value env p agrees.class base dimensions elements is in
      let typed : type_of p cs (view.NewArray elements e.core) ≡ Some (type.Array elements) =
      type_of-NewArray p cs elements e.core ∙ where_holds (has is_int (type_of p cs e.core) && is_value_type (length p.classes) elements) (type.Array elements)
      (and_from (has is_int (type_of p cs e.core)) (is_value_type (length p.classes) elements) (has_exact p cs e.core v.type v.has is_int facts.is_int-Text (wanted p cs is_int e v b.rule_11)) values) in
      record {
        means = subst (λ found. Means p cs (view.NewArray (unwrap_or found ty.Int) e.core) (value (option_map type.Array found))) (sym is)
            (has_type p cs (view.NewArray elements e.core) (type.Array elements) typed (values_value p (type.Array elements) (is_value_type-Array (length p.classes) elements ∙ values)));
        form = tt;
      }

  -- ---- casts

  either_is : (a b : Ty) → rules.is_either_way env.symbols a b ≡ (is_assignable p.classes a b || is_assignable p.classes b a)
  either_is a b = ap (λ x. x || rules.is_assignable env.symbols b a) (same_assignable env.symbols p.classes agrees.below a b) ∙ ap (λ x. is_assignable p.classes a b || x) (same_assignable env.symbols p.classes agrees.below b a)

  object_only : (x : Bool) (at : ℕ) (more : List ℕ) → (if x then more else at ∷ []) ≡ [] → IsTrue x
  object_only true at more none = refl
  object_only false at more none = no_place at [] none

  -- what rule 15 says of a cast to a class or array type
  cast_fits : (at : ℕ) (to : Ty) (e : Attr) (v : IsValue p cs e) → IsTrue (is_value p to) → cast_15 env at (Some to) e ≡ [] → IsTrue (has (is_castable p to) (type_of p cs e.core))
  cast_fits at to e v is_to none =
      let object = object_only (is_object to) at (option_map_or (λ from. unless (rules.is_either_way env.symbols from to) at) (value_type e.denotes) []) none in
      let asked = subst (λ b. (if b then option_map_or (λ from. unless (rules.is_either_way env.symbols from to) at) (value_type e.denotes) [] else at ∷ []) ≡ []) object none in
      let either = sym (either_is v.type to) ∙ unless_empty (rules.is_either_way env.symbols v.type to) at (subst (λ d. option_map_or (λ from. unless (rules.is_either_way env.symbols from to) at) (value_type d) [] ≡ []) v.said asked) in
      let fits = castable p to v.type v.has.actual object is_to either v.has.stands in
      subst (λ x. IsTrue (has (is_castable p to) x)) (sym (v.has.typed ∙ ap Some fits.0)) fits.1

  pub cast_right : (at : ℕ) (t : TypeTree) (e : Attr) → Holds p cs e → Holds p cs (attr_at env s (Expr-F.Cast at t e))
  cast_right at t e holds none =
      let b = breaks_none env s (Expr-F.Cast at t e) none in
      let v = value_part p cs e holds b.below in
      let to = known_type env t b.rule_10 in
      let is_to = spelled_value env p agrees.class t to.0 to.1 in
      let fits = cast_fits at to.0 e v is_to (subst (λ found. cast_15 env at found e ≡ []) to.1 b.rule_15) in
      record {
        means = subst (λ found. Means p cs (view.Cast (unwrap_or found ty.Int) e.core) (value found)) (sym to.1)
            (has_type p cs (view.Cast to.0 e.core) to.0 (type_of-Cast p cs to.0 e.core ∙ where_holds (has (is_castable p to.0) (type_of p cs e.core)) to.0 fits) (values_value p to.0 is_to));
        form = tt;
      }

  pub instance_of_right : (e : Attr) (t : TypeTree) → Holds p cs e → Holds p cs (attr_at env s (Expr-F.InstanceOf e t))
  instance_of_right e t holds none =
      let b = breaks_none env s (Expr-F.InstanceOf e t) none in
      let v = value_part p cs e holds b.below in
      let to = known_type env t b.rule_10 in
      let is_to = spelled_value env p agrees.class t to.0 to.1 in
      let fits = cast_fits e.at to.0 e v is_to (subst (λ found. cast_15 env e.at found e ≡ []) to.1 b.rule_15) in
      record {
        means = subst (λ found. Means p cs (view.Is (unwrap_or found ty.Int) e.core) (Some (denotes.Value ty.Bool))) (sym to.1)
            (has_type_bool p cs (view.Is to.0 e.core) (type_of-Is p cs to.0 e.core ∙ where_holds (has (is_castable p to.0) (type_of p cs e.core)) ty.Bool fits));
        form = tt;
      }

  -- ---- new objects

  one_length : (n : ℕ) → ◌≡◌ {A = ℕ} (suc 0) (suc (suc n)) → ⊥
  one_length n e = omega arith

  and_true : (b : Bool) → IsTrue (b && true) → IsTrue b
  and_true b is = first_so b true is

  -- the message of a new object of a built-in class
  message_fits : (c : ℕ) (xs : List Attr) (params : List Ty) → length params ≡ length xs → IsTrue (all_fit p params (map (type_of p cs) (cores xs))) → (params ≡ []) ⊎ ((params ≡ ty.Text ∷ []) × IsTrue (not (c == 0))) →
      IsTrue (option_map_or (λ text. not (c == 0) && fits p ty.Text text) (option_map (type_of p cs) (first_core xs)) true)
  message_fits c [] params same fit either = refl
  message_fits c (x ∷ []) params same fit either = ⊎_elim
      (λ none. absurd (no_length 0 (subst (λ ts. length ts ≡ 1) none same)))
      (λ text. and_from (not (c == 0)) (fits p ty.Text (type_of p cs x.core)) text.1 (and_true (fits p ty.Text (type_of p cs x.core)) (subst (λ ts. IsTrue (all_fit p ts (type_of p cs x.core ∷ []))) text.0 fit)))
      either
  message_fits c (x ∷ y ∷ xs) params same fit either = ⊎_elim
      (λ none. absurd (no_length (suc (length xs)) (subst (λ ts. length ts ≡ suc (suc (length xs))) none same)))
      (λ text. absurd (one_length (length xs) (subst (λ ts. length ts ≡ suc (suc (length xs))) text.0 same)))
      either

  maker_typed : (c : ℕ) (xs : List Attr) (m : MakerSymbol) → AgreesOnMaker p c (length xs) m → IsTrue (all_fit p m.params (map (type_of p cs) (cores xs))) →
      type_of p cs (option_map_or (λ number. view.New number (cores xs)) m.number (view.NewBuilt c (first_core xs))) ≡ Some (ty.Class c)
  maker_typed c xs m agree fit = cases m.number refl
    where
      cases : (number : Option ℕ) → m.number ≡ number → type_of p cs (option_map_or (λ number. view.New number (cores xs)) number (view.NewBuilt c (first_core xs))) ≡ Some (ty.Class c)
      cases (Some number) is = let maker = agree.of_file number is in
          type_of-New p cs number (cores xs)
          ∙ ap (option_and_then (λ maker. where_true (all_fit p maker.params (map (type_of p cs) (cores xs))) (ty.Class maker.owner))) maker.1
          ∙ where_holds (all_fit p maker.0.params (map (type_of p cs) (cores xs))) (ty.Class maker.0.owner) (ap (λ ts. all_fit p ts (map (type_of p cs) (cores xs))) maker.2 ∙ fit)
          ∙ ap (λ owner. Some (ty.Class owner)) maker.3
      cases None is = let built_in = agree.built_in is in
          type_of-NewBuilt p cs c (first_core xs)
          ∙ where_holds (is_built_in c && option_map_or (λ text. not (c == 0) && fits p ty.Text text) (option_map (type_of p cs) (first_core xs)) true) (ty.Class c)
          (and_from (is_built_in c) (option_map_or (λ text. not (c == 0) && fits p ty.Text text) (option_map (type_of p cs) (first_core xs)) true) built_in.0 (message_fits c xs m.params agree.same_arity fit built_in.1))

  pub new_right : (at : ℕ) (x : Ident) (xs : List Attr) → AllHold p cs xs → Holds p cs (attr_at env s (Expr-F.New at x xs))
  new_right at x xs hold none =
      let b = breaks_none env s (Expr-F.New at x xs) none in
      let c = some_of (class_named env x.name) (unless_empty (is_some (class_named env x.name)) x.at b.rule_10) in
      let maker = maker_of env c.0 (length xs) in
      let m = some_of maker (unless_empty (is_some maker) x.at (subst (λ found. option_map_or (λ class. unless (is_some (maker_of env class (length xs))) x.at) found [] ≡ []) c.1 b.rule_12)) in
      let agree = agrees.maker c.0 (length xs) m.0 m.1 in
      let none_11 = subst (λ found. option_map_or (λ m. wants_each env xs m.params) found [] ≡ []) m.1 (subst (λ found. option_map_or (new_11 env xs) found [] ≡ []) c.1 b.rule_11) in
      let fit = arguments_fit env p agrees cs xs m.0.params hold b.below none_11 agree.same_arity agree.params in
      let built = λ (c : ℕ) (m : MakerSymbol). option_map_or (λ number. view.New number (cores xs)) m.number (view.NewBuilt c (first_core xs)) in
      record {
        means =
            subst (λ found. Means p cs (option_map_or (λ class. option_map_or (built class) (maker_of env class (length xs)) core.Null) found core.Null) (value (option_map ty.Class found))) (sym c.1)
            (subst (λ found. HasType p cs (option_map_or (built c.0) found core.Null) (ty.Class c.0)) (sym m.1)
            (has_type p cs (built c.0 m.0) (ty.Class c.0) (maker_typed c.0 xs m.0 agree fit) (values_value p (ty.Class c.0) (class_value (length p.classes) c.0 (agrees.class x.name c.0 c.1)))));
        form = tt;
      }

  -- ---- calls

  pub call_right : (x : Ident) (xs : List Attr) → AllHold p cs xs → Holds p cs (attr_at env s (Expr-F.Call x xs))
  call_right x xs hold none =
      let b = breaks_none env s (Expr-F.Call x xs) none in
      record { means = names.calling_right env p agrees s cs inside x xs through.This s.class core.This (refl, refl) hold b.below b.rule_10 b.rule_11 b.rule_12 b.rule_14; form = tt }

  no_static : (b : Bool) (x : Bool) (at : ℕ) → b ≡ false → only_if (b && x) at ≡ []
  no_static b x at is = ap (λ c. only_if (c && x) at) is

  pub super_right : (at : ℕ) (x : Ident) (xs : List Attr) → AllHold p cs xs → Holds p cs (attr_at env s (Expr-F.Super at x xs))
  super_right at x xs hold none =
      let b = breaks_none env s (Expr-F.Super at x xs) none in
      let c = inside.superclass in
      let on_object = only_if_empty s.is_static at b.rule_14 in
      let of = λ (c : ℕ). names.of_call env p agrees s cs inside x xs through.Super c core.This in
      record {
        means = subst (λ found. Means p cs (option_map_or (call_core env) (option_map of found) core.Null) (option_and_then (call_denotes env.symbols) (option_map of found))) (sym c.1)
            (names.calling_right env p agrees s cs inside x xs through.Super c.0 core.This (c.1, on_object) hold b.below
            (subst (λ found. option_map_or (calling_10 env) (option_map of found) [] ≡ []) c.1 b.rule_10)
            (subst (λ found. option_map_or (calling_11 env) (option_map of found) [] ≡ []) c.1 b.rule_11)
            (subst (λ found. option_map_or (calling_12 env) (option_map of found) [] ≡ []) c.1 b.rule_12)
            (no_static s.is_static false x.at on_object));
        form = tt;
      }
