-- Fields, constants and methods: what is named and breaks no rule is well typed (JLS 15.11, 15.12).
use Rattle.std.proofs.Common.{◌≡◌, ◌∙◌, ⊎_elim, inr, ℕ, Bool, true, false, not, ◌||◌, ◌&&◌, IsTrue, List, [], ◌++◌, length, map, Option, Some, None, option_map, is_some, slice_get, refl, subst, sym, ap, if◌then◌else◌}
use Rattle.std.specs.Prelude.{option_and_then, is_none, unwrap_or}
use Rattle.std.specs.Option.{option_map_or}
use Rattle.std.proofs.lemmas.Option.{none-some}
use Rattle.std.proofs.lemmas.Bool.{false≢true, or_cases, and_from}
use Rattle.std.specs.Cmp.{first_so, second_so}
use denote.Hole.Carrier.{out, shown, hidden}
use Rattle.core_tree.specs.declared.ty.Ty.{Ty}
use Rattle.core_tree.specs.declared.ty.Ty.TheVariants as ty
use Rattle.core_tree.specs.declared.expr.Site.{Site}
use Rattle.core_tree.specs.declared.expr.Expr.{Expr as Core, out-Expr}
use Rattle.core_tree.specs.declared.expr.Expr.TheBlock.{shown-the_row-Expr-0}
use Rattle.core_tree.specs.declared.expr.Expr.TheVariants as core
use Rattle.core_tree.specs.declared.expr.Expr.TheViews as view
use Rattle.core_tree.specs.declared.program.Program.{Program}
use Rattle.core_tree.specs.Types.{class_of, is_int, is_void}
use Rattle.core_tree.specs.Typing.{Scope as CoreScope, all_fit, call_type, chosen_type, field_type, is_int_number, is_of_superclass, is_throwable, type_of, where_true}
use Rattle.core_tree.specs.WellTyped.{is_value}
use Rattle.core_tree.proofs.ExprNodes.{type_of-Int, type_of-Bool, type_of-Text, type_of-Null, type_of-This, type_of-Field, type_of-Static, type_of-Chosen, type_of-Super, type_of-Message}
use Rattle.token_reading.specs.declared.name.Ident.{Ident}
use Rattle.java_names.specs.declared.scope.Scope.{Scope}
use Rattle.java_names.specs.declared.symbol.FieldSymbol.{FieldSymbol}
use Rattle.java_names.specs.declared.symbol.MethodSymbol.{MethodSymbol}
use Rattle.java_exprs.specs.declared.environment.Environment.{Environment}
use Rattle.primitive_operators.specs.declared.scalar.Scalar.{Scalar}
use Rattle.primitive_operators.specs.declared.scalar.Scalar.TheVariants as scalar
use Rattle.java_denotes.specs.declared.denotation.Denotation.{Denotation}
use Rattle.java_denotes.specs.declared.denotation.Denotation.TheVariants as denotes
use Rattle.java_exprs.specs.declared.typed.Form.{Form}
use Rattle.java_exprs.specs.declared.typed.Form.TheVariants as form
use Rattle.java_denotes.specs.declared.through.Through.{Through}
use Rattle.java_denotes.specs.declared.through.Through.TheVariants as through
use Rattle.java_exprs.specs.Attr.{Attr, only_if, values_faults}
use Rattle.java_exprs.specs.Members.{Naming, Calling}
use Rattle.java_denotes.specs.Members.{is_found, named_member}
use Rattle.java_exprs.specs.Lookups.{superclass_of, member_of, method_of, has_method, constant_at}
use Rattle.java_denotes.specs.Lookups.{variable_denotes, answer_denotes}
use Rattle.java_denotes.specs.Denotes.{member_denotes, call_denotes}
use Rattle.java_exprs.specs.Denotes.{member_form}
use Rattle.java_exprs.specs.Resolved.{cores, literal_core, member_core, instance_call, method_core, call_core, site_at}
use Rattle.java_exprs.specs.Rules.{is_behind_class, needs_this, is_misplaced, naming_10, naming_11, naming_14, calling_10, calling_11, calling_12, calling_14, wants_each}
use Rattle.typing_law.specs.Means.{HasType, Means, MeansForm, is_place}
use Rattle.typing_law.specs.Agrees.{Agrees, AgreesOnField, AgreesOnStatic, AgreesOnMethod, AgreesOnSuper, AgreesOnScope, is_literal_of}
use Rattle.core_tree.proofs.TypeFacts as facts
use Rattle.typing_law.proofs.Values.{values_value, value_not_void}
use Rattle.typing_law.proofs.NoFaults.{empty_parts, unless_empty, only_if_empty}
use Rattle.typing_law.proofs.Nodes.{has_type, where_holds}
use Rattle.typing_law.proofs.Arguments.{AllHold, arguments_fit}
use Rattle.typing_law.proofs.Found.{some_of}

-- ---- what is found

-- what is found and passes a test is found
pub of_found : {X : Type 0} (test : X → Bool) (found : Option X) (x : X) → option_and_then (λ y. if test y then Some y else None) found ≡ Some x → found ≡ Some x
of_found test None x is = absurd (none-some x is)
of_found test (Some y) x is = cases (test y) is
  where
    cases : (b : Bool) → (if b then Some y else None) ≡ Some x → Some y ≡ Some x
    cases true is = is
    cases false is = absurd (none-some x is)

there : {X : Type 0} (found : Option X) → is_none found ≡ false → (x : X) × (found ≡ Some x)
there None is = absurd (false≢true (sym is))
there (Some x) is = (x, refl)

-- ---- places

place_field : (object : Core) (at : ℕ) → is_place (out-Expr (view.Field object at)) ≡ true
unfolding out-Expr out shown-the_row-Expr-0 shown hidden
place_field object at = refl

pub place_local : (n : ℕ) → is_place (out-Expr (core.Local n)) ≡ true
unfolding out-Expr out shown-the_row-Expr-0 shown hidden
place_local n = refl

pub place_element : (a i : Core) → is_place (out-Expr (view.Element a i)) ≡ true
unfolding out-Expr out shown-the_row-Expr-0 shown hidden
place_element a i = refl

-- ---- literals

module _ (p : Program) (s : CoreScope) where
  -- the value of a constant
  pub literal_right : (v : Scalar) (t : Ty) → IsTrue (is_literal_of v t) → IsTrue (is_value p t) → HasType p s (literal_core v) t
  literal_right (scalar.Int n) t is value =
      has_type p s (core.Int n) t (type_of-Int p s n ∙ where_holds (is_int_number n) ty.Int (second_so (is_int t) (is_int_number n) is) ∙ ap Some (sym (facts.int_type t (first_so (is_int t) (is_int_number n) is)))) (values_value p t value)
  literal_right (scalar.Bool b) t is value = has_type p s (core.Bool b) t (type_of-Bool p s b ∙ ap Some (sym (facts.boolean_type t is))) (values_value p t value)
  literal_right (scalar.Text text) t is value = has_type p s (core.Text text) t (type_of-Text p s text ∙ ap Some (sym (facts.string_type t is))) (values_value p t value)
  literal_right scalar.Null t is value = record { actual = ty.Null; typed = type_of-Null p s; stands = inr (facts.string_type t is, refl); values = values_value p t value }

  -- a call's result
  pub answer_right : (e : Core) (t : Ty) → type_of p s e ≡ Some t → IsTrue (is_value p t || is_void t) → Means p s e (Some (answer_denotes t))
  answer_right e t is values = cases (is_void t) refl
    where
      value : (b : Bool) → IsTrue (is_value p t || b) → b ≡ false → IsTrue (is_value p t)
      value b either other = ⊎_elim (λ v. v) (λ void. absurd (false≢true (sym other ∙ void))) (or_cases (is_value p t) b either)

      cases : (b : Bool) → is_void t ≡ b → Means p s e (Some (if b then denotes.Nothing else denotes.Value t))
      cases true void = is ∙ ap Some (facts.void_type t void)
      cases false other = has_type p s e t is (values_value p t (value (is_void t) values other))

module _ (env : Environment) (p : Program) (agrees : Agrees env p) (s : Scope) (cs : CoreScope) (inside : AgreesOnScope env p s cs) where
  pub type_of_this : s.is_static ≡ false → type_of p cs core.This ≡ Some (ty.Class s.class)
  type_of_this on_object = type_of-This p cs ∙ ap (option_map ty.Class) (inside.this on_object)

  on_object : (is_static needs needed : Bool) → (is_static && (needs && needed)) ≡ false → needs ≡ true → needed ≡ true → is_static ≡ false
  on_object true true true none is_needs is_needed = none
  on_object false needs needed none is_needs is_needed = refl
  on_object true false needed none is_needs is_needed = absurd (false≢true is_needs)
  on_object true true false none is_needs is_needed = absurd (false≢true is_needed)

  -- the object that a name alone has
  this_typed : (x : Ident) (c : ℕ) (object : Core) (needed : Bool) → c ≡ s.class → object ≡ core.This → needed ≡ true → only_if (s.is_static && (true && needed)) x.at ≡ [] → type_of p cs object ≡ Some (ty.Class c)
  this_typed x c object needed is_c is_this here none =
      ap (type_of p cs) is_this ∙ type_of_this (on_object s.is_static true needed (only_if_empty (s.is_static && (true && needed)) x.at none) refl here) ∙ ap (λ k. Some (ty.Class k)) (sym is_c)

  class_of_typed : (c : ℕ) (object : Core) → type_of p cs object ≡ Some (ty.Class c) → option_and_then class_of (type_of p cs object) ≡ Some c
  class_of_typed c object is = ap (option_and_then class_of) is ∙ facts.class_of_class c

  -- ---- fields and constants

  -- the object before the dot, by what stands there
  abbrev pub IsNamed : Through → ℕ → Core → Type 0
  IsNamed through.This c object = (c ≡ s.class) × (object ≡ core.This)
  IsNamed through.Class c object = Unit {0}
  IsNamed through.Object c object = type_of p cs object ≡ Some (ty.Class c)
  IsNamed through.Super c object = ⊥

  -- what is right of a field or constant
  pub record NameIsRight (e : Core) (denoted : Option Denotation) (f : Form) : Type 0 where
    pub means : Means p cs e denoted
    pub form : MeansForm p cs e denoted f

  module _ (x : Ident) where
    abbrev pub of_name : Through → ℕ → Core → Naming
    of_name th c object = record { through = th; class = c; object = object; name = x }

    -- the object of an instance field
    field_object : (th : Through) (c : ℕ) (object : Core) (instance : Bool) → IsNamed th c object → instance ≡ true → only_if (is_behind_class th && instance) x.at ≡ [] → only_if (s.is_static && (needs_this th && instance)) x.at ≡ [] → type_of p cs object ≡ Some (ty.Class c)
    field_object through.This c object instance is here none_11 none_14 = this_typed x c object instance is.0 is.1 here none_14
    field_object through.Class c object instance is here none_11 none_14 = absurd (false≢true (sym (only_if_empty (true && instance) x.at none_11) ∙ here))
    field_object through.Object c object instance is here none_11 none_14 = is
    field_object through.Super c object instance is here none_11 none_14 = absurd is

    variable_said : (t : Ty) → IsTrue (is_value p t) → variable_denotes t ≡ Some (denotes.Value t)
    variable_said t value = ap (λ b. if b then None else Some (denotes.Value t)) (value_not_void (length p.classes) t value)

    variable_right : (e : Core) (t : Ty) → IsTrue (is_value p t) → HasType p cs e t → Means p cs e (variable_denotes t)
    variable_right e t value has = subst (Means p cs e) (sym (variable_said t value)) has

    field_right : (object : Core) (c place : ℕ) (t : Ty) → type_of p cs object ≡ Some (ty.Class c) → field_type p c place ≡ Some t → IsTrue (is_value p t) → NameIsRight (view.Field object place) (variable_denotes t) form.Variable
    field_right object c place t is_object is_field value =
        let typed : type_of p cs (view.Field object place) ≡ Some t = type_of-Field p cs object place ∙ ap (option_and_then (λ k. field_type p k place)) (class_of_typed c object is_object) ∙ is_field in
        record {
          means = variable_right (view.Field object place) t value (has_type p cs (view.Field object place) t typed (values_value p t value));
          form = record { place = place_field object place; type = t; said = variable_said t value; typed = typed };
        }

    constant_right : (m : FieldSymbol) → IsTrue (is_value p m.ty) → (v : Scalar) × (constant_at env m.at ≡ Some v) × IsTrue (is_literal_of v m.ty) → NameIsRight (option_map_or literal_core (constant_at env m.at) core.Null) (variable_denotes m.ty) (form.Constant x.at)
    constant_right m value v = record {
      means = subst (λ found. Means p cs (option_map_or literal_core found core.Null) (variable_denotes m.ty)) (sym v.1) (variable_right (literal_core v.0) m.ty value (literal_right p cs v.0 m.ty v.2 value));
      form = tt;
    }

    -- a field or constant that is found
    pub found_right : (th : Through) (c : ℕ) (object : Core) (m : FieldSymbol) → IsNamed th c object → AgreesOnField env p c m → only_if (is_behind_class th && is_some m.place) x.at ≡ [] → only_if (s.is_static && (needs_this th && is_some m.place)) x.at ≡ [] →
        NameIsRight (option_map_or (λ place. view.Field object place) m.place (option_map_or literal_core (constant_at env m.at) core.Null)) (variable_denotes m.ty) (if is_some m.place then form.Variable else form.Constant x.at)
    found_right th c object m is agree none_11 none_14 = cases m.place refl none_11 none_14
      where
        cases : (place : Option ℕ) → m.place ≡ place → only_if (is_behind_class th && is_some place) x.at ≡ [] → only_if (s.is_static && (needs_this th && is_some place)) x.at ≡ [] →
            NameIsRight (option_map_or (λ place. view.Field object place) place (option_map_or literal_core (constant_at env m.at) core.Null)) (variable_denotes m.ty) (if is_some place then form.Variable else form.Constant x.at)
        cases None is_place none_11 none_14 = constant_right m agree.value (agree.constant is_place)
        cases (Some place) is_place none_11 none_14 = field_right object c place m.ty (field_object th c object true is refl none_11 none_14) (agree.field place is_place) agree.value

    pub naming_right : (th : Through) (c : ℕ) (object : Core) → IsNamed th c object → naming_10 env (of_name th c object) ≡ [] → naming_11 env (of_name th c object) ≡ [] → naming_14 env s (of_name th c object) ≡ [] →
        NameIsRight (member_core env (of_name th c object)) (member_denotes env.symbols (of_name th c object)) (member_form env (of_name th c object))
    naming_right th c object is none_10 none_11 none_14 =
        let m = some_of (named_member env.symbols (of_name th c object)) (unless_empty (is_some (named_member env.symbols (of_name th c object))) x.at none_10) in
        subst (λ found. NameIsRight (option_map_or (λ m. option_map_or (λ place. view.Field object place) m.place (option_map_or literal_core (constant_at env m.at) core.Null)) found core.Null)
        (option_and_then (λ m. variable_denotes m.ty) found) (option_map_or (λ m. if is_some m.place then form.Variable else form.Constant x.at) found form.Other)) (sym m.1)
        (found_right th c object m.0 is (agrees.field c x.name m.0 (of_found (is_found th) (member_of env c x.name) m.0 m.1))
        (subst (λ found. only_if (is_behind_class th && option_map_or (λ m. is_some m.place) found false) x.at ≡ []) m.1 none_11)
        (subst (λ found. only_if (s.is_static && (needs_this th && option_map_or (λ m. is_some m.place) found false)) x.at ≡ []) m.1 none_14))

  -- ---- methods

  abbrev pub IsCalled : Through → ℕ → Core → Type 0
  IsCalled through.This c object = (c ≡ s.class) × (object ≡ core.This)
  IsCalled through.Class c object = Unit {0}
  IsCalled through.Object c object = type_of p cs object ≡ Some (ty.Class c)
  IsCalled through.Super c object = (superclass_of env s.class ≡ Some c) × (s.is_static ≡ false)

  module _ (x : Ident) (xs : List Attr) where
    abbrev pub of_call : Through → ℕ → Core → Calling
    of_call th c object = record { through = th; class = c; object = object; name = x; arguments = xs }

    chosen_typed : (c : ℕ) (object : Core) (m : MethodSymbol) (site : Site) → AgreesOnMethod p c (length xs) m → m.is_static ≡ false → type_of p cs object ≡ Some (ty.Class c) → IsTrue (all_fit p m.params (map (type_of p cs) (cores xs))) →
        type_of p cs (view.Chosen object (unwrap_or m.selector 0) (cores xs) site) ≡ Some m.answer
    chosen_typed c object m site agree instance is_object fit =
        type_of-Chosen p cs object (unwrap_or m.selector 0) (cores xs) site
        ∙ ap (option_and_then (chosen_type p (unwrap_or m.selector 0) (map (type_of p cs) (cores xs)))) (class_of_typed c object is_object)
        ∙ agree.chosen instance (map (type_of p cs) (cores xs)) fit

    static_typed : (m : MethodSymbol) (site : Site) → AgreesOnStatic p m → IsTrue (all_fit p m.params (map (type_of p cs) (cores xs))) → type_of p cs (view.Static (unwrap_or m.number 0) (cores xs) site) ≡ Some m.answer
    static_typed m site agree fit =
        type_of-Static p cs (unwrap_or m.number 0) (cores xs) site
        ∙ ap (call_type p (λ method. not method.on_object) (map (type_of p cs) (cores xs))) agree.found
        ∙ where_holds (not agree.method.on_object && all_fit p agree.method.params (map (type_of p cs) (cores xs))) agree.method.answer
        (and_from (not agree.method.on_object) (all_fit p agree.method.params (map (type_of p cs) (cores xs))) (ap not agree.static) (ap (λ ts. all_fit p ts (map (type_of p cs) (cores xs))) agree.params ∙ fit))
        ∙ ap Some agree.answer

    super_typed : (c : ℕ) (m : MethodSymbol) (site : Site) → AgreesOnSuper p s.class m → s.is_static ≡ false → IsTrue (all_fit p m.params (map (type_of p cs) (cores xs))) →
        type_of p cs (option_map_or (λ number. view.Super number (cores xs) site) m.number (view.Message core.This)) ≡ Some m.answer
    super_typed c m site agree no_static fit = cases m.number refl
      where
        cases : (number : Option ℕ) → m.number ≡ number → type_of p cs (option_map_or (λ number. view.Super number (cores xs) site) number (view.Message core.This)) ≡ Some m.answer
        cases (Some number) is =
            type_of-Super p cs number (cores xs) site
            ∙ ap (option_and_then (λ k. call_type p (is_of_superclass p k) (map (type_of p cs) (cores xs)) (slice_get p.methods number))) (inside.this no_static)
            ∙ agree.of_file number is (map (type_of p cs) (cores xs)) fit
        cases None is =
            type_of-Message p cs core.This
            ∙ ap (λ c. where_true (option_map_or (is_throwable p) c false) ty.Text) (class_of_typed s.class core.This (type_of_this no_static))
            ∙ where_holds (is_throwable p s.class) ty.Text (agree.built_in is).0 ∙ ap Some (sym (agree.built_in is).1)

    no_misplaced : (a b : Bool) → (a || b) ≡ false → a ≡ false
    no_misplaced true b none = none
    no_misplaced false b none = refl

    instance_typed : (th : Through) (c : ℕ) (object : Core) (m : MethodSymbol) (site : Site) → IsCalled th c object → method_of env c x.name (length xs) ≡ Some m → m.is_static ≡ false → only_if (is_misplaced th m) x.at ≡ [] → only_if (s.is_static && (needs_this th && not m.is_static)) x.at ≡ [] →
        IsTrue (all_fit p m.params (map (type_of p cs) (cores xs))) → type_of p cs (instance_call (of_call th c object) m site) ≡ Some m.answer
    instance_typed through.This c object m site is found instance none_11 none_14 fit =
        chosen_typed c object m site (agrees.method c x.name (length xs) m found) instance (this_typed x c object (not m.is_static) is.0 is.1 (ap not instance) none_14) fit
    instance_typed through.Class c object m site is found instance none_11 none_14 fit =
        absurd (false≢true (sym (no_misplaced (true && not m.is_static) (false && m.is_static) (only_if_empty (is_misplaced through.Class m) x.at none_11)) ∙ ap not instance))
    instance_typed through.Object c object m site is found instance none_11 none_14 fit =
        chosen_typed c object m site (agrees.method c x.name (length xs) m found) instance is fit
    instance_typed through.Super c object m site is found instance none_11 none_14 fit =
        super_typed c m site (agrees.super s.class c x.name (length xs) m is.0 found instance) is.1 fit

    method_typed : (th : Through) (c : ℕ) (object : Core) (m : MethodSymbol) (site : Site) → IsCalled th c object → method_of env c x.name (length xs) ≡ Some m → only_if (is_misplaced th m) x.at ≡ [] → only_if (s.is_static && (needs_this th && not m.is_static)) x.at ≡ [] →
        IsTrue (all_fit p m.params (map (type_of p cs) (cores xs))) → type_of p cs (if m.is_static then view.Static (unwrap_or m.number 0) (cores xs) site else instance_call (of_call th c object) m site) ≡ Some m.answer
    method_typed th c object m site is found none_11 none_14 fit = cases m.is_static refl
      where
        cases : (b : Bool) → m.is_static ≡ b → type_of p cs (if b then view.Static (unwrap_or m.number 0) (cores xs) site else instance_call (of_call th c object) m site) ≡ Some m.answer
        cases true static = static_typed m site ((agrees.method c x.name (length xs) m found).static static) fit
        cases false instance = instance_typed th c object m site is found instance none_11 none_14 fit

    has_found : (a b : Bool) → (a && b) ≡ false → a ≡ true → b ≡ false
    has_found true b none is = none
    has_found false b none is = absurd (false≢true is)

    pub calling_right : (th : Through) (c : ℕ) (object : Core) → IsCalled th c object → AllHold p cs xs → values_faults xs ≡ [] →
        calling_10 env (of_call th c object) ≡ [] → calling_11 env (of_call th c object) ≡ [] → calling_12 env (of_call th c object) ≡ [] → calling_14 env s (of_call th c object) ≡ [] →
        Means p cs (call_core env (of_call th c object)) (call_denotes env.symbols (of_call th c object))
    calling_right th c object is hold below none_10 none_11 none_12 none_14 =
        let method = method_of env c x.name (length xs) in
        let m = there method (has_found (has_method env c x.name) (is_none method) (only_if_empty (has_method env c x.name && is_none method) x.at none_12) (unless_empty (has_method env c x.name) x.at none_10)) in
        let agree = agrees.method c x.name (length xs) m.0 m.1 in
        let asked = empty_parts (only_if (is_misplaced th m.0) x.at) (wants_each env xs m.0.params) (subst (λ found. option_map_or (λ m. only_if (is_misplaced th m) x.at ++ wants_each env xs m.params) found [] ≡ []) m.1 none_11) in
        let fit = arguments_fit env p agrees cs xs m.0.params hold below asked.1 agree.same_arity agree.params in
        let typed = method_typed th c object m.0 (site_at env.places x.at) is m.1 asked.0 (subst (λ found. only_if (s.is_static && (needs_this th && option_map_or (λ m. not m.is_static) found false)) x.at ≡ []) m.1 none_14) fit in
        subst (λ found. Means p cs (option_map_or (method_core env (of_call th c object)) found core.Null) (option_map (λ m. answer_denotes m.answer) found)) (sym m.1)
        (answer_right p cs (method_core env (of_call th c object) m.0) m.0.answer typed agree.answer)
