-- Methods, constructors and initialisers of fields that break no rule are well typed (JLS 8.3.2, 8.4.7, 8.8.7).
use Rattle.std.proofs.Common.{◌≡◌, ◌∙◌, ⊎_elim, ◌⊎◌, ℕ, suc, Bool, true, false, not, ◌||◌, ◌&&◌, ◌==◌, IsTrue, List, [], ◌∷◌, ◌++◌, length, map, drop, Option, Some, None, option_map, is_some, slice_get, refl, subst, sym, ap, if◌then◌else◌}
use Rattle.std.specs.Prelude.{nat_eq}
use Rattle.std.specs.Option.{option_map_or}
use Rattle.std.specs.List.{list_all, flat_map}
use Rattle.std.specs.Cmp.Lexicographic.{pointwise}
use Rattle.std.proofs.lemmas.Option.{none-some}
use Rattle.std.proofs.lemmas.Bool.{or_left, or_right, and_from, eq-eqb}
use Rattle.std.proofs.lemmas.Cmp.{nat_list_eq_equiv}
use Rattle.std.proofs.lemmas.List.{length-map}
use Rattle.std.proofs.Math.Seq.{drop-append_seam}
use Rattle.std.specs.Cmp.{first_so}
use Rattle.core_tree.specs.declared.ty.Ty.{Ty}
use Rattle.core_tree.specs.declared.ty.Ty.TheVariants as ty
use Rattle.core_tree.specs.declared.stmt.Stmt.{Stmt as Step}
use Rattle.core_tree.specs.declared.program.Program.{Program}
use Rattle.core_tree.specs.declared.program.Parent.TheVariants as parent
use Rattle.core_tree.specs.BuiltIn.{is_built_in}
use Rattle.core_tree.specs.Types.{is_void}
use Rattle.core_tree.specs.Typing.{Scope as CoreScope, fits, all_fit, all_of, type_of, is_typed_stmt, is_typed_body}
use Rattle.core_tree.specs.WellTyped.{is_value, is_of_file, superclass, is_numbered, is_method, is_maker, is_parent, numbers_from, declared_numbers, all_declared, initialiser_scope}
use Rattle.core_tree.specs.WellTyped as typed
use Rattle.token_reading.specs.declared.name.TypeTree.{TypeTree}
use Rattle.java_syntax.specs.declared.expression.Expr.{Expr}
use Rattle.java_syntax.specs.declared.statement.Stmt.{Stmt}
use Rattle.token_reading.specs.declared.name.ParamTree.{ParamTree}
use Rattle.java_syntax.specs.declared.class.FieldTree.{FieldTree}
use Rattle.java_syntax.specs.declared.class.MethodTree.{MethodTree}
use Rattle.java_syntax.specs.declared.class.MakerTree.{MakerTree}
use Rattle.class_table.specs.Members.{is_static, types_of}
use Rattle.java_names.specs.declared.scope.Scope.{Scope}
use Rattle.java_names.specs.declared.symbol.MakerSymbol.{MakerSymbol}
use Rattle.java_names.specs.Scope.{first_scope, method_scope, maker_scope}
use Rattle.java_names.specs.Types.{declared_type, declared_types, answer_type}
use Rattle.java_exprs.specs.declared.environment.Environment.{Environment}
use Rattle.java_exprs.specs.Attr.{Attr, of_rule, value_faults, values_faults}
use Rattle.java_exprs.specs.Lookups.{maker_of, unknown_type}
use Rattle.java_exprs.specs.Resolved.{cores, first_core}
use Rattle.java_exprs.specs.Rules.{wants_type, wants_each}
use Rattle.java_exprs.specs.Checks.{attr}
use Rattle.java_statements.specs.Statements.{effect, again_10}
use Rattle.java_members.specs.Declarations.{with_param, with_params, params_10, answer_10}
use Rattle.java_members.specs.Bodies.{start_faults, field_faults, core_field, body_effects, method_effects, core_method, parent_11, parent_12, parent_13, parent_faults, parent_faults_of, built_in_parent, core_parent_of, core_parent, params_scope, given_of, maker_effects, maker_faults, core_maker, made_maker}
use Rattle.java_names.specs.Beginnings.{beginning}
use Rattle.typing_law.specs.Agrees.{Agrees, AgreesOnMaker, IsOfFile}
use Rattle.typing_law.specs.Scopes.{IsKnown, GoesTo, FitsBody}
use Rattle.core_tree.proofs.TypeFacts as facts
use Rattle.typing_law.proofs.NoFaults.{empty_parts, empty_rule, unless_empty}
use Rattle.typing_law.proofs.Values.{value_not_void}
use Rattle.typing_law.proofs.Parts.{value_part}
use Rattle.typing_law.proofs.Arguments.{AllHold, arguments_fit, fits_wanted}
use Rattle.typing_law.proofs.Spelled.{declared_value}
use Rattle.typing_law.proofs.Exprs.{expr_right}
use Rattle.typing_law.proofs.Scopes.{goes_nowhere, goes_on, goes_declared, fits_before, fits_after, scope_agrees}
use Rattle.typing_law.proofs.Statements.{sequence_right}
use Rattle.typing_law.proofs.Stmts.{stmts_right}
use Rattle.typing_law.proofs.Found.{some_of, no_length}

-- ---- lists

all_typed : (p : Program) (cs : CoreScope) (steps : List Step) (b : Bool) → all_of (map (is_typed_stmt p cs) steps) b ≡ list_all (λ x. is_typed_stmt p cs x b) steps
all_typed p cs [] b = refl
all_typed p cs (x ∷ xs) b = ap (λ y. is_typed_stmt p cs x b && y) (all_typed p cs xs b)

flat_numbers : (steps : List Step) → flat_map declared_numbers steps ≡ all_declared (map declared_numbers steps)
flat_numbers [] = refl
flat_numbers (x ∷ xs) = ap (λ ns. declared_numbers x ++ ns) (flat_numbers xs)

module _ (env : Environment) (p : Program) (agrees : Agrees env p) where
  -- ---- parameters

  record ParamsAreRight (s : Scope) (params : List ParamTree) : Type 0 where
    goes : GoesTo env p s (with_params env params s)
    more_is : goes.more ≡ declared_types env.symbols.names (types_of params)

  params_right : (params : List ParamTree) (s : Scope) → IsKnown env p s → params_10 env params s ≡ [] → ParamsAreRight s params
  unfolding with_params params_10 goes_nowhere goes_on goes_declared
  params_right [] s known none = record { goes = goes_nowhere env p s known; more_is = refl }
  params_right (q ∷ qs) s known none =
      let parts = empty_parts (unknown_type env q.ty ++ again_10 s q.name) (params_10 env qs (with_param env q s)) none in
      let here = empty_parts (unknown_type env q.ty) (again_10 s q.name) parts.0 in
      let first = goes_declared env p s q.name.name (declared_type env.symbols.names q.ty) known (declared_value env p agrees.class q.ty here.0) in
      let rest = params_right qs (with_param env q s) first.known parts.1 in
      record { goes = goes_on env p s (with_param env q s) (with_params env qs (with_param env q s)) first rest.goes; more_is = ap (λ ts. declared_type env.symbols.names q.ty ∷ ts) rest.more_is }

  -- ---- bodies

  -- the types of a body's parameters
  abbrev types_in : List ParamTree → List Ty
  types_in params = declared_types env.symbols.names (types_of params)

  length_types : (params : List ParamTree) → length (types_in params) ≡ length params
  length_types params = length-map (types_of params) (declared_type env.symbols.names) ∙ length-map params (λ q. q.ty)

  -- what a body's typing can name
  record IsBodyScope (s : Scope) (all : List Ty) (cs : CoreScope) : Type 0 where
    this : s.is_static ≡ false → cs.this ≡ Some s.class
    answer : cs.answer ≡ s.answer
    locals : cs.locals ≡ all

  -- a body after its parameters, which begins in the scope s
  record BodyIsRight (s : Scope) (params : List ParamTree) (body : List Stmt) : Type 0 where
    known : IsKnown env p (with_params env params s)
    values : IsTrue (list_all (is_value p) (types_in params))
    local_values : IsTrue (list_all (is_value p) (drop (length params) (body_effects env body (with_params env params s)).after.slots))
    numbered : IsTrue (is_numbered (types_in params) (drop (length params) (body_effects env body (with_params env params s)).after.slots) (body_effects env body (with_params env params s)).steps)
    typed : (cs : CoreScope) → IsBodyScope s (types_in params ++ drop (length params) (body_effects env body (with_params env params s)).after.slots) cs → IsTrue (is_typed_body p cs (body_effects env body (with_params env params s)).steps)
    fits : (cs : CoreScope) → IsBodyScope s (types_in params ++ drop (length params) (body_effects env body (with_params env params s)).after.slots) cs → FitsBody (with_params env params s) (with_params env params s).slots cs

  body_right : (s : Scope) (params : List ParamTree) (body : List Stmt) → IsKnown env p s → s.slots ≡ [] → s.in_loop ≡ false → params_10 env params s ≡ [] → (body_effects env body (with_params env params s)).faults ≡ [] → BodyIsRight s params body
  body_right s params body known no_slots no_loop none_params none =
      let given = params_right params s known none_params in
      let inside = with_params env params s in
      let effects = body_effects env body inside in
      let right = sequence_right env p (map (effect env) body) (stmts_right env p agrees body) inside given.goes.known none in
      let types = types_in params in
      let slots_are : inside.slots ≡ types = given.goes.slots ∙ ap (λ xs. xs ++ given.goes.more) no_slots ∙ given.more_is in
      let after_is : effects.after.slots ≡ types ++ right.goes.more = right.goes.slots ∙ ap (λ xs. xs ++ right.goes.more) slots_are in
      let locals_are : drop (length params) effects.after.slots ≡ right.goes.more = ap (λ n. drop n effects.after.slots) (sym (length_types params)) ∙ ap (drop (length types)) after_is ∙ drop-append_seam types right.goes.more in
      let all_are : types ++ drop (length params) effects.after.slots ≡ effects.after.slots = ap (λ xs. types ++ xs) locals_are ∙ sym after_is in
      let fits_all = λ (cs : CoreScope) (scope : IsBodyScope s (types ++ drop (length params) effects.after.slots) cs). fits_after env p s inside effects.after.slots cs given.goes (record {
        this = scope.this;
        answer = scope.answer;
        slots = λ n t is. subst (λ xs. slice_get xs n ≡ Some t) (sym (scope.locals ∙ all_are)) is;
      }) in
      record {
        known = given.goes.known;
        values = subst (λ xs. IsTrue (list_all (is_value p) xs)) given.more_is given.goes.values;
        local_values = subst (λ xs. IsTrue (list_all (is_value p) xs)) (sym locals_are) right.goes.values;
        numbered =
            subst (λ xs. IsTrue (pointwise nat_eq (flat_map declared_numbers effects.steps) (numbers_from (length types) xs))) (sym locals_are)
            (subst (λ xs. IsTrue (pointwise nat_eq (flat_map declared_numbers effects.steps) (numbers_from (length xs) right.goes.more))) slots_are
            (subst (λ ns. IsTrue (pointwise nat_eq (flat_map declared_numbers effects.steps) ns)) (flat_numbers effects.steps ∙ right.numbers) (nat_list_eq_equiv.refl (flat_map declared_numbers effects.steps))));
        typed = λ cs scope. sym (all_typed p cs effects.steps false) ∙ subst (λ b. IsTrue (all_of (map (is_typed_stmt p cs) effects.steps) b)) (given.goes.in_loop ∙ no_loop) (right.typed cs (fits_all cs scope));
        fits = λ cs scope. fits_before env p inside inside effects.after cs right.goes (fits_all cs scope);
      }

  first_known : (c : ℕ) (static : Bool) (answer : Ty) → IsOfFile env p c → IsKnown env p (first_scope c static answer)
  first_known c static answer of_file = record { class = of_file.within; superclass = of_file.superclass; local = λ x n is. absurd (none-some n is) }

  -- ---- methods

  answer_value : (t : Option TypeTree) → answer_10 env t ≡ [] → IsTrue (is_value p (answer_type env.symbols.names t) || is_void (answer_type env.symbols.names t))
  answer_value None none = or_right (is_value p ty.Void) (is_void ty.Void) facts.is_void-Void
  answer_value (Some t) none = or_left (is_value p (declared_type env.symbols.names t)) (is_void (declared_type env.symbols.names t)) (declared_value env p agrees.class t none)

  pub method_right : (c : ℕ) (m : MethodTree) → IsOfFile env p c → answer_10 env m.answer ≡ [] → params_10 env m.params (method_scope env.symbols c m) ≡ [] → (method_effects env c m).faults ≡ [] → IsTrue (is_method p (core_method env c m))
  method_right c m of_file none_answer none_params none =
      let it = core_method env c m in
      let right = body_right (method_scope env.symbols c m) m.params m.body (first_known c (is_static m.mods) (answer_type env.symbols.names m.answer) of_file) refl refl none_params none in
      let scope : IsBodyScope (method_scope env.symbols c m) (it.params ++ it.locals) (typed.method_scope it) = record { this = λ instance. ap (λ b. if not b then Some c else None) instance; answer = refl; locals = refl } in
      and_from (is_of_file p c) (list_all (is_value p) it.params && (list_all (is_value p) it.locals && ((is_value p it.answer || is_void it.answer) && (is_numbered it.params it.locals it.body && is_typed_body p (typed.method_scope it) it.body)))) of_file.of_file
      (and_from (list_all (is_value p) it.params) (list_all (is_value p) it.locals && ((is_value p it.answer || is_void it.answer) && (is_numbered it.params it.locals it.body && is_typed_body p (typed.method_scope it) it.body))) right.values
      (and_from (list_all (is_value p) it.locals) ((is_value p it.answer || is_void it.answer) && (is_numbered it.params it.locals it.body && is_typed_body p (typed.method_scope it) it.body)) right.local_values
      (and_from (is_value p it.answer || is_void it.answer) (is_numbered it.params it.locals it.body && is_typed_body p (typed.method_scope it) it.body) (answer_value m.answer none_answer)
      (and_from (is_numbered it.params it.locals it.body) (is_typed_body p (typed.method_scope it) it.body) right.numbered (right.typed (typed.method_scope it) scope)))))

  -- ---- what a constructor does with the superclass

  module _ (cs : CoreScope) where
    built_in_fits : (b : ℕ) (given : List Attr) (params : List Ty) → IsTrue (is_built_in b) → length params ≡ length given → IsTrue (all_fit p params (map (type_of p cs) (cores given))) → (params ≡ []) ⊎ ((params ≡ ty.Text ∷ []) × IsTrue (not (b == 0))) →
        IsTrue (is_parent p cs b (built_in_parent b given))
    built_in_fits b given params built_in same fit either = cases (b == 0) refl
      where
        message : (given : List Attr) → length params ≡ length given → IsTrue (all_fit p params (map (type_of p cs) (cores given))) → IsTrue (option_map_or (λ e. fits p ty.Text (type_of p cs e)) (first_core given) true)
        message [] same fit = refl
        message (x ∷ xs) same fit = ⊎_elim
            (λ none. absurd (no_length (length xs) (subst (λ ts. length ts ≡ suc (length xs)) none same)))
            (λ text. one xs (subst (λ ts. IsTrue (all_fit p ts (type_of p cs x.core ∷ map (type_of p cs) (cores xs)))) text.0 fit))
            either
          where
            one : (xs : List Attr) → IsTrue (fits p ty.Text (type_of p cs x.core) && all_fit p [] (map (type_of p cs) (cores xs))) → IsTrue (fits p ty.Text (type_of p cs x.core))
            one xs both = first_so (fits p ty.Text (type_of p cs x.core)) (all_fit p [] (map (type_of p cs) (cores xs))) both

        cases : (object : Bool) → (b == 0) ≡ object → IsTrue (is_parent p cs b (if object then parent.Plain else parent.Message (first_core given)))
        cases true is = is
        cases false is = and_from (is_built_in b) (not (b == 0) && option_map_or (λ e. fits p ty.Text (type_of p cs e)) (first_core given) true) built_in
            (and_from (not (b == 0)) (option_map_or (λ e. fits p ty.Text (type_of p cs e)) (first_core given) true) (ap not is) (message given same fit))

    parent_of_right : (b : ℕ) (given : List Attr) (m : MakerSymbol) → AgreesOnMaker p b (length given) m → IsTrue (all_fit p m.params (map (type_of p cs) (cores given))) →
        IsTrue (is_parent p cs b (option_map_or (λ number. parent.Maker number (cores given)) m.number (built_in_parent b given)))
    parent_of_right b given m agree fit = cases m.number refl
      where
        cases : (number : Option ℕ) → m.number ≡ number → IsTrue (is_parent p cs b (option_map_or (λ number. parent.Maker number (cores given)) number (built_in_parent b given)))
        cases (Some number) is = let maker = agree.of_file number is in
            ap (λ found. option_map_or (λ maker. maker.owner == b && all_fit p maker.params (map (type_of p cs) (cores given))) found false) maker.1
            ∙ and_from (maker.0.owner == b) (all_fit p maker.0.params (map (type_of p cs) (cores given))) (eq-eqb maker.0.owner b maker.3) (ap (λ ts. all_fit p ts (map (type_of p cs) (cores given))) maker.2 ∙ fit)
        cases None is = built_in_fits b given m.params (agree.built_in is).0 agree.same_arity fit (agree.built_in is).1

    pub parent_right : (c at : ℕ) (given : List Attr) → IsOfFile env p c → AllHold p cs given → values_faults given ≡ [] → parent_faults env c at given ≡ [] → IsTrue (option_map_or (λ b. is_parent p cs b (core_parent env c given)) (superclass p c) false)
    parent_right c at given of_file hold below none =
        let b = of_file.superclass in
        let maker = maker_of env b.0 (length given) in
        let none_b = subst (λ found. option_map_or (parent_faults_of env c at given) found [] ≡ []) b.1 none in
        let more = of_rule 12 (parent_12 maker at) (of_rule 13 (parent_13 c maker at) []) in
        let e11 = empty_rule 11 (parent_11 env given maker) more none_b in
        let e12 = empty_rule 12 (parent_12 maker at) (of_rule 13 (parent_13 c maker at) []) e11.1 in
        let m = some_of maker (unless_empty (is_some maker) at e12.0) in
        let agree = agrees.maker b.0 (length given) m.0 m.1 in
        let fit = arguments_fit env p agrees cs given m.0.params hold below (subst (λ found. option_map_or (λ m. wants_each env given m.params) found [] ≡ []) m.1 e11.0) agree.same_arity agree.params in
        ap (λ found. option_map_or (λ b. is_parent p cs b (core_parent env c given)) found false) (sym (agrees.superclass c) ∙ b.1)
        ∙ ap (λ found. is_parent p cs b.0 (option_map_or (core_parent_of env given) found parent.Plain)) b.1
        ∙ ap (λ found. is_parent p cs b.0 (option_map_or (λ m. option_map_or (λ number. parent.Maker number (cores given)) m.number (built_in_parent b.0 given)) found parent.Plain)) m.1
        ∙ parent_of_right b.0 given m.0 agree fit

  -- ---- constructors

  all_hold : (s : Scope) (cs : CoreScope) → IsKnown env p s → FitsBody s s.slots cs → (es : List Expr) → AllHold p cs (map (attr env s) es)
  all_hold s cs known fits [] = tt
  all_hold s cs known fits (e ∷ es) = (expr_right env p agrees s cs (scope_agrees env p s cs known fits) e, all_hold s cs known fits es)

  pub maker_right : (c : ℕ) (m : MakerTree) → IsOfFile env p c → params_10 env m.params (maker_scope c) ≡ [] → maker_faults env c m ≡ [] → IsTrue (is_maker p (core_maker env c m))
  maker_right c m of_file none_params none =
      let it = core_maker env c m in
      let begin = beginning m.name.at m.body in
      let given = given_of env c m in
      let below = empty_parts (values_faults given) (parent_faults env c begin.at given ++ (maker_effects env c m).faults) none in
      let rest = empty_parts (parent_faults env c begin.at given) (maker_effects env c m).faults below.1 in
      let right = body_right (maker_scope c) m.params begin.rest (first_known c false ty.Void of_file) refl refl none_params rest.1 in
      let cs = typed.maker_scope it in
      let scope : IsBodyScope (maker_scope c) (it.params ++ it.locals) cs = record { this = λ instance. refl; answer = refl; locals = refl } in
      let hold = all_hold (params_scope env c m) cs right.known (right.fits cs scope) begin.given in
      let parent_ok = option_map_or (λ b. is_parent p cs b it.parent) (superclass p c) false in
      and_from (is_of_file p c) (list_all (is_value p) it.params && (list_all (is_value p) it.locals && (parent_ok && (is_numbered it.params it.locals it.body && is_typed_body p cs it.body)))) of_file.of_file
      (and_from (list_all (is_value p) it.params) (list_all (is_value p) it.locals && (parent_ok && (is_numbered it.params it.locals it.body && is_typed_body p cs it.body))) right.values
      (and_from (list_all (is_value p) it.locals) (parent_ok && (is_numbered it.params it.locals it.body && is_typed_body p cs it.body)) right.local_values
      (and_from parent_ok (is_numbered it.params it.locals it.body && is_typed_body p cs it.body) (parent_right cs c begin.at given of_file hold below.0 rest.0)
      (and_from (is_numbered it.params it.locals it.body) (is_typed_body p cs it.body) right.numbered (right.typed cs scope)))))

  pub made_right : (c at : ℕ) → IsOfFile env p c → parent_faults env c at [] ≡ [] → IsTrue (is_maker p (made_maker env c))
  made_right c at of_file none =
      let cs = typed.maker_scope (made_maker env c) in
      let parent_ok = option_map_or (λ b. is_parent p cs b (core_parent env c [])) (superclass p c) false in
      and_from (is_of_file p c) (true && (true && (parent_ok && (true && true)))) of_file.of_file (and_from parent_ok true (parent_right cs c at [] of_file tt refl none) refl)

  -- ---- instance fields

  pub start_right : (c : ℕ) (f : FieldTree) → IsOfFile env p c → unknown_type env f.ty ≡ [] → field_faults env c f ≡ [] →
      IsTrue (option_map_or (λ e. fits p (core_field env c f).ty (type_of p (initialiser_scope c) e)) (core_field env c f).start true)
  start_right c f of_file none_10 none = cases f.value none
    where
      known : IsKnown env p (maker_scope c)
      known = first_known c false ty.Void of_file

      cases : (e : Option Expr) → option_map_or (start_faults env c f) e [] ≡ [] → IsTrue (option_map_or (λ e. fits p (declared_type env.symbols.names f.ty) (type_of p (initialiser_scope c) e)) (option_map (λ e. (attr env (maker_scope c) e).core) e) true)
      cases None none = refl
      cases (Some e) none =
          let want = declared_type env.symbols.names f.ty in
          let a = attr env (maker_scope c) e in
          let parts = empty_parts (value_faults a) (of_rule 11 (wants_type env want a) []) none in
          let fits_body : FitsBody (maker_scope c) [] (initialiser_scope c) = record { this = λ instance. refl; answer = refl; slots = λ n t is. absurd (none-some t is) } in
          let right = expr_right env p agrees (maker_scope c) (initialiser_scope c) (scope_agrees env p (maker_scope c) (initialiser_scope c) known fits_body) e in
          fits_wanted env p agrees (initialiser_scope c) want a (value_part p (initialiser_scope c) a right parts.0) (value_not_void (length p.classes) want (declared_value env p agrees.class f.ty none_10)) (empty_rule 11 (wants_type env want a) [] parts.1).0
