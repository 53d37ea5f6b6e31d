-- Each kind of statement: one that breaks no rule is well typed (JLS 14).
use Rattle.std.proofs.Common.{◌≡◌, ◌∙◌, ℕ, Bool, true, false, ◌||◌, ◌&&◌, IsTrue, List, [], ◌∷◌, Option, Some, None, is_some, refl, subst, ap, if◌then◌else◌}
use Rattle.std.specs.Option.{option_map_or}
use Rattle.std.proofs.lemmas.Bool.{or_left, or_right, and_from}
use Rattle.core_tree.specs.declared.ty.Ty.{Ty}
use Rattle.core_tree.specs.declared.ty.Ty.TheVariants as ty
use Rattle.core_tree.specs.declared.operator.UpOp.{UpOp}
use Rattle.core_tree.specs.declared.operator.UpOp.TheVariants as up
use Rattle.core_tree.specs.declared.expr.Expr.{Expr as Core}
use Rattle.core_tree.specs.declared.stmt.Stmt.{Stmt as Step}
use Rattle.core_tree.specs.declared.stmt.Stmt.TheVariants as step
use Rattle.core_tree.specs.declared.program.Program.{Program}
use Rattle.core_tree.specs.Types.{is_int, is_boolean, is_void, is_same_type}
use Rattle.core_tree.specs.Typing.{Scope as CoreScope, PartType, fits, has_text, ints, booleans, type_of, target_type, is_update, is_counting, if_there, is_condition, is_typed_stmt}
use Rattle.core_tree.specs.WellTyped.{declared_numbers}
use Rattle.core_tree.proofs.TypeNodes.{is_same_type-Void}
use Rattle.core_tree.proofs.StmtNodes.{is_typed_stmt-Empty, is_typed_stmt-Assign, is_typed_stmt-Update, is_typed_stmt-Eval, is_typed_stmt-Print, is_typed_stmt-Return, is_typed_stmt-Break, is_typed_stmt-Continue, is_typed_stmt-Throw, declared_numbers-Empty, declared_numbers-Assign, declared_numbers-Update, declared_numbers-Eval, declared_numbers-Print, declared_numbers-Return, declared_numbers-Break, declared_numbers-Continue, declared_numbers-Throw}
use Rattle.java_syntax.specs.declared.operator.AssignOp.{AssignOp}
use Rattle.java_syntax.specs.declared.operator.AssignOp.TheVariants as assign
use Rattle.java_syntax.specs.declared.operator.StepOp.{StepOp}
use Rattle.java_syntax.specs.declared.operator.StepOp.TheVariants as count
use Rattle.java_syntax.specs.declared.operator.Fix.{Fix}
use Rattle.java_syntax.specs.declared.expression.Expr.{Expr}
use Rattle.java_syntax.specs.declared.statement.Stmt.TheOpen.{Stmt-F}
use Rattle.java_names.specs.declared.scope.Scope.{Scope}
use Rattle.java_exprs.specs.declared.environment.Environment.{Environment}
use Rattle.java_denotes.specs.declared.denotation.Denotation.{Denotation}
use Rattle.java_denotes.specs.declared.denotation.Denotation.TheVariants as denotes
use Rattle.java_exprs.specs.Attr.{Attr, only_if, of_rule, named_10, bare_19, is_no_value, value_faults}
use Rattle.java_denotes.specs.Members.{value_type}
use Rattle.java_exprs.specs.Rules.{wants, wants_type, both_11, bitwise_11}
use Rattle.java_exprs.specs.Checks.{attr}
use Rattle.java_statements.specs.Effects.{StmtNode}
use Rattle.java_statements.specs.Statements.{target_of, sum_op, assigned, counted, evaluated, optional_core, stmt_10, stmt_11, stmt_14, stmt_17, stmt_18, stmt_20, stmt_21, condition_11, assign_11, return_11, throwable, target_18, constant_20, optional_faults, stmt_broken_below, stmt_broken_here, effect_at}
use Rattle.typing_law.specs.Means.{Means, prints}
use Rattle.typing_law.specs.Agrees.{Agrees}
use Rattle.typing_law.specs.Scopes.{IsKnown, FitsBody}
use Rattle.core_tree.proofs.TypeFacts as facts
use Rattle.typing_law.proofs.NoFaults.{empty_parts, empty_rule, unless_empty, no_place}
use Rattle.typing_law.proofs.Standing.{has_boolean}
use Rattle.typing_law.proofs.Parts.{Holds, IsValue, value_part, right_part, wanted}
use Rattle.typing_law.proofs.Arguments.{fits_wanted}
use Rattle.typing_law.proofs.Exprs.{expr_right}
use Rattle.typing_law.proofs.Targets.{values_not_void, target_typed, is_variable, ints_update, bits_update, sum_update}
use Rattle.typing_law.proofs.Scopes.{goes_nowhere, scope_agrees}
use Rattle.typing_law.proofs.Statements.{StmtIsRight}

-- no rule is broken at a statement or below it
pub record BreaksNone (env : Environment) (n : StmtNode) (s : Scope) : Type 0 where
  pub below : stmt_broken_below env n s ≡ []
  pub rule_10 : stmt_10 env n s ≡ []
  pub rule_11 : stmt_11 env n s ≡ []
  pub rule_14 : stmt_14 n ≡ []
  pub rule_17 : stmt_17 n s ≡ []
  pub rule_18 : stmt_18 env n s ≡ []
  pub rule_20 : stmt_20 env n s ≡ []
  pub rule_21 : stmt_21 env n s ≡ []

pub breaks_none : (env : Environment) (n : StmtNode) (s : Scope) → (effect_at env n s).faults ≡ [] → BreaksNone env n s
breaks_none env n s none =
    let all = empty_parts (stmt_broken_below env n s) (stmt_broken_here env n s) none in
    let r21 = of_rule 21 (stmt_21 env n s) [] in
    let r20 = of_rule 20 (stmt_20 env n s) r21 in
    let r18 = of_rule 18 (stmt_18 env n s) r20 in
    let r17 = of_rule 17 (stmt_17 n s) r18 in
    let r14 = of_rule 14 (stmt_14 n) r17 in
    let r11 = of_rule 11 (stmt_11 env n s) r14 in
    let e10 = empty_rule 10 (stmt_10 env n s) r11 all.1 in
    let e11 = empty_rule 11 (stmt_11 env n s) r14 e10.1 in
    let e14 = empty_rule 14 (stmt_14 n) r17 e11.1 in
    let e17 = empty_rule 17 (stmt_17 n s) r18 e14.1 in
    let e18 = empty_rule 18 (stmt_18 env n s) r20 e17.1 in
    let e20 = empty_rule 20 (stmt_20 env n s) r21 e18.1 in
    record { below = all.0; rule_10 = e10.0; rule_11 = e11.0; rule_14 = e14.0; rule_17 = e17.0; rule_18 = e18.0; rule_20 = e20.0; rule_21 = (empty_rule 21 (stmt_21 env n s) [] e20.1).0 }

module _ (env : Environment) (p : Program) (agrees : Agrees env p) where
  abbrev pub NodeHolds : StmtNode → Type 0
  NodeHolds n = (s : Scope) → IsKnown env p s → (effect_at env n s).faults ≡ [] → StmtIsRight env p s.in_loop s (effect_at env n s).after (effect_at env n s).step

  -- ---- expressions in a scope

  module _ (s : Scope) (cs : CoreScope) (known : IsKnown env p s) (fits_body : FitsBody s s.slots cs) where
    pub holds : (e : Expr) → Holds p cs (attr env s e)
    holds e = expr_right env p agrees s cs (scope_agrees env p s cs known fits_body) e

    pub value : (e : Expr) → value_faults (attr env s e) ≡ [] → IsValue p cs (attr env s e)
    value e none = value_part p cs (attr env s e) (holds e) none

    pub condition : (e : Expr) → value_faults (attr env s e) ≡ [] → condition_11 env s e ≡ [] → IsTrue (is_condition p cs (attr env s e).core)
    condition e none none_11 = let v = value e none in has_boolean p cs (attr env s e).core v.type v.has (wanted p cs is_boolean (attr env s e) v none_11)

    -- a value that may be left out
    pub optional_fits : (want : Ty) (e : Option Expr) → is_void want ≡ false → optional_faults env s e ≡ [] → option_map_or (λ e. wants_type env want (attr env s e)) e [] ≡ [] → IsTrue (if_there p cs (fits p want) (optional_core env s e))
    optional_fits want None no_void none none_11 = refl
    optional_fits want (Some e) no_void none none_11 = fits_wanted env p agrees cs want (attr env s e) (value e none) no_void none_11

    -- ---- assignments

    module _ (a e : Expr) (v : IsValue p cs (attr env s a)) (w : IsValue p cs (attr env s e)) (target_is : target_type p cs (target_of (attr env s a)) ≡ Some v.type) (inside : Bool) where
      update : (op : UpOp) → IsTrue (is_update op (Some v.type) (type_of p cs (attr env s e).core)) → IsTrue (is_typed_stmt p cs (step.Update (target_of (attr env s a)) op (Some (attr env s e).core)) inside)
      update op is = ap (λ f. f inside) (is_typed_stmt-Update p cs (target_of (attr env s a)) op (Some (attr env s e).core)) ∙ ap (λ x. is_update op x (type_of p cs (attr env s e).core) && true) target_is
          ∙ and_from (is_update op (Some v.type) (type_of p cs (attr env s e).core)) true is refl

      int_update : (op : UpOp) → ((x y : PartType) → is_update op x y ≡ ints x y) → both_11 is_int (attr env s a) (attr env s e) ≡ [] → IsTrue (is_typed_stmt p cs (step.Update (target_of (attr env s a)) op (Some (attr env s e).core)) inside)
      int_update op table none = update op (ints_update env p agrees s cs (attr env s a) (attr env s e) v w op table none)

      bit_update : (op : UpOp) → ((x y : PartType) → is_update op x y ≡ (ints x y || booleans x y)) → bitwise_11 (attr env s a) (attr env s e) ≡ [] → IsTrue (is_typed_stmt p cs (step.Update (target_of (attr env s a)) op (Some (attr env s e).core)) inside)
      bit_update op table none = update op (bits_update env p agrees s cs (attr env s a) (attr env s e) v w op table none)

      assigned_typed : (op : AssignOp) → assign_11 env op (attr env s a) (attr env s e) ≡ [] → stmt_21 env (Stmt-F.Assign a op e) s ≡ [] → IsTrue (is_typed_stmt p cs (assigned op (attr env s a) (attr env s e)) inside)
      assigned_typed assign.Assign none none_21 =
          ap (λ f. f inside) (is_typed_stmt-Assign p cs (target_of (attr env s a)) (attr env s e).core)
          ∙ ap (λ x. option_map_or (λ t. fits p t (type_of p cs (attr env s e).core)) x false) target_is
          ∙ fits_wanted env p agrees cs v.type (attr env s e) w (values_not_void p v.type v.has.values) (subst (λ d. option_map_or (λ t. wants_type env t (attr env s e)) (value_type d) [] ≡ []) v.said none)
      assigned_typed assign.Add none none_21 = update (sum_op (value_type (attr env s a).denotes)) (sum_update env p agrees s cs (attr env s a) (attr env s e) v w none none_21)
      assigned_typed assign.Subtract none none_21 = int_update up.Sub (λ x y. refl) none
      assigned_typed assign.Multiply none none_21 = int_update up.Mul (λ x y. refl) none
      assigned_typed assign.Divide none none_21 = int_update up.Div (λ x y. refl) none
      assigned_typed assign.Remainder none none_21 = int_update up.Rem (λ x y. refl) none
      assigned_typed assign.BitAnd none none_21 = bit_update up.BitAnd (λ x y. refl) none
      assigned_typed assign.BitOr none none_21 = bit_update up.BitOr (λ x y. refl) none
      assigned_typed assign.BitXor none none_21 = bit_update up.BitXor (λ x y. refl) none
      assigned_typed assign.ShiftLeft none none_21 = int_update up.Shl (λ x y. refl) none
      assigned_typed assign.ShiftRight none none_21 = int_update up.Shr (λ x y. refl) none
      assigned_typed assign.UnsignedShiftRight none none_21 = int_update up.Ushr (λ x y. refl) none

    target : (a : Expr) (v : IsValue p cs (attr env s a)) → value_faults (attr env s a) ≡ [] → target_18 (attr env s a) ≡ [] → constant_20 (attr env s a).form ≡ [] → target_type p cs (target_of (attr env s a)) ≡ Some v.type
    target a v none none_18 none_20 = target_typed p cs (attr env s a) (is_variable p cs (attr env s a) v (right_part p cs (attr env s a) (holds a) none) none_18 none_20) v.type v.said

    counted_typed : (op : StepOp) (a : Expr) (inside : Bool) → value_faults (attr env s a) ≡ [] → wants is_int (attr env s a) ≡ [] → target_18 (attr env s a) ≡ [] → constant_20 (attr env s a).form ≡ [] → IsTrue (is_typed_stmt p cs (counted op (attr env s a)) inside)
    counted_typed op a inside none none_11 none_18 none_20 = cases op
      where
        v : IsValue p cs (attr env s a)
        v = value a none

        one : (op : UpOp) → ((x y : PartType) → is_update op x y ≡ ints x y) → IsTrue (is_counting op) → IsTrue (is_typed_stmt p cs (step.Update (target_of (attr env s a)) op None) inside)
        one op table counts =
            ap (λ f. f inside) (is_typed_stmt-Update p cs (target_of (attr env s a)) op None)
            ∙ ap (λ x. is_update op x (Some ty.Int) && is_counting op) (target a v none none_18 none_20)
            ∙ and_from (is_update op (Some v.type) (Some ty.Int)) (is_counting op)
            (table (Some v.type) (Some ty.Int) ∙ and_from (is_int v.type) (is_int ty.Int) (wanted p cs is_int (attr env s a) v none_11) facts.is_int-Int) counts

        cases : (op : StepOp) → IsTrue (is_typed_stmt p cs (counted op (attr env s a)) inside)
        cases count.Increment = one up.Add (λ x y. refl) refl
        cases count.Decrement = one up.Sub (λ x y. refl) refl

    -- ---- expressions as statements

    evaluated_typed : (e : Core) (d : Option Denotation) (at : ℕ) (inside : Bool) → Means p cs e d → only_if (is_no_value d) at ≡ [] → IsTrue (is_typed_stmt p cs (evaluated e d) inside)
    evaluated_typed e None at inside means none = absurd means
    evaluated_typed e (Some (denotes.Value t)) at inside means none = ap (λ f. f inside) (is_typed_stmt-Eval p cs e) ∙ ap is_some means.typed
    evaluated_typed e (Some denotes.Nothing) at inside means none = ap (λ f. f inside) (is_typed_stmt-Eval p cs e) ∙ ap is_some means
    evaluated_typed e (Some (denotes.Print print)) at inside means none = ap (λ f. f inside) (is_typed_stmt-Print p cs print.ends_line (if print.has_argument then Some e else None)) ∙ printed print.has_argument print.ends_line means
      where
        printed : (has_argument ends_line : Bool) → IsTrue (prints has_argument (type_of p cs e) ends_line) → IsTrue (if_there p cs has_text (if has_argument then Some e else None) && (ends_line || is_some (if has_argument then Some e else None)))
        printed true ends_line means = and_from (has_text (type_of p cs e)) (ends_line || true) means (or_right ends_line true refl)
        printed false ends_line means = or_left ends_line false means
    evaluated_typed e _ at inside means none = no_place at [] none

    return_typed : (at : ℕ) (e : Option Expr) (inside : Bool) → optional_faults env s e ≡ [] → return_11 env at e s ≡ [] → IsTrue (is_typed_stmt p cs (step.Return (optional_core env s e)) inside)
    return_typed at None inside none none_11 =
        let void = facts.void_type s.answer (unless_empty (is_void s.answer) at none_11) in
        ap (λ f. f inside) (is_typed_stmt-Return p cs None) ∙ ap (λ t. is_same_type t ty.Void) (fits_body.answer ∙ void) ∙ ap (λ f. f ty.Void) is_same_type-Void ∙ facts.is_void-Void
    return_typed at (Some e) inside none none_11 = ap (λ f. f inside) (is_typed_stmt-Return p cs (Some (attr env s e).core)) ∙ ap (λ t. fits p t (type_of p cs (attr env s e).core)) fits_body.answer ∙ cases (is_void s.answer) refl none_11
      where
        cases : (b : Bool) → is_void s.answer ≡ b → (if b then (attr env s e).at ∷ [] else wants_type env s.answer (attr env s e)) ≡ [] → IsTrue (fits p s.answer (type_of p cs (attr env s e).core))
        cases true void none_11 = no_place (attr env s e).at [] none_11
        cases false other none_11 = fits_wanted env p agrees cs s.answer (attr env s e) (value e none) other none_11

    throw_typed : (e : Expr) (inside : Bool) → value_faults (attr env s e) ≡ [] → wants_type env throwable (attr env s e) ≡ [] → IsTrue (is_typed_stmt p cs (step.Throw (attr env s e).core) inside)
    throw_typed e inside none none_11 = ap (λ f. f inside) (is_typed_stmt-Throw p cs (attr env s e).core) ∙ fits_wanted env p agrees cs throwable (attr env s e) (value e none) (facts.is_void-Class 1) none_11

  -- ---- statements that declare nothing

  leaf : (s : Scope) (it : Step) → IsKnown env p s → declared_numbers it ≡ [] → ((cs : CoreScope) → FitsBody s s.slots cs → IsTrue (is_typed_stmt p cs it s.in_loop)) → StmtIsRight env p s.in_loop s s it
  unfolding goes_nowhere
  leaf s it known numbers typed = record { goes = goes_nowhere env p s known; typed = typed; numbers = numbers }

  assigned_numbers : (op : AssignOp) (a e : Attr) → declared_numbers (assigned op a e) ≡ []
  assigned_numbers assign.Assign a e = declared_numbers-Assign (target_of a) e.core
  assigned_numbers assign.Add a e = declared_numbers-Update (target_of a) (sum_op (value_type a.denotes)) (Some e.core)
  assigned_numbers assign.Subtract a e = declared_numbers-Update (target_of a) up.Sub (Some e.core)
  assigned_numbers assign.Multiply a e = declared_numbers-Update (target_of a) up.Mul (Some e.core)
  assigned_numbers assign.Divide a e = declared_numbers-Update (target_of a) up.Div (Some e.core)
  assigned_numbers assign.Remainder a e = declared_numbers-Update (target_of a) up.Rem (Some e.core)
  assigned_numbers assign.BitAnd a e = declared_numbers-Update (target_of a) up.BitAnd (Some e.core)
  assigned_numbers assign.BitOr a e = declared_numbers-Update (target_of a) up.BitOr (Some e.core)
  assigned_numbers assign.BitXor a e = declared_numbers-Update (target_of a) up.BitXor (Some e.core)
  assigned_numbers assign.ShiftLeft a e = declared_numbers-Update (target_of a) up.Shl (Some e.core)
  assigned_numbers assign.ShiftRight a e = declared_numbers-Update (target_of a) up.Shr (Some e.core)
  assigned_numbers assign.UnsignedShiftRight a e = declared_numbers-Update (target_of a) up.Ushr (Some e.core)

  counted_numbers : (op : StepOp) (a : Attr) → declared_numbers (counted op a) ≡ []
  counted_numbers count.Increment a = declared_numbers-Update (target_of a) up.Add None
  counted_numbers count.Decrement a = declared_numbers-Update (target_of a) up.Sub None

  evaluated_numbers : (e : Core) (d : Option Denotation) → declared_numbers (evaluated e d) ≡ []
  evaluated_numbers e (Some (denotes.Print print)) = declared_numbers-Print print.ends_line (if print.has_argument then Some e else None)
  evaluated_numbers e _ = declared_numbers-Eval e

  pub empty_right : NodeHolds Stmt-F.Empty
  empty_right s known none = leaf s step.Empty known declared_numbers-Empty (λ cs fits. ap (λ f. f s.in_loop) (is_typed_stmt-Empty p cs))

  pub assign_right : (a : Expr) (op : AssignOp) (e : Expr) → NodeHolds (Stmt-F.Assign a op e)
  assign_right a op e s known none =
      let b = breaks_none env (Stmt-F.Assign a op e) s none in
      let below = empty_parts (value_faults (attr env s a)) (value_faults (attr env s e)) b.below in
      leaf s (assigned op (attr env s a) (attr env s e)) known (assigned_numbers op (attr env s a) (attr env s e)) (λ cs fits.
      let v = value s cs known fits a below.0 in
      assigned_typed s cs known fits a e v (value s cs known fits e below.1) (target s cs known fits a v below.0 b.rule_18 b.rule_20) s.in_loop op b.rule_11 b.rule_21)

  pub step_right : (op : StepOp) (side : Fix) (a : Expr) → NodeHolds (Stmt-F.Step op side a)
  step_right op side a s known none =
      let b = breaks_none env (Stmt-F.Step op side a) s none in
      leaf s (counted op (attr env s a)) known (counted_numbers op (attr env s a)) (λ cs fits. counted_typed s cs known fits op a s.in_loop b.below b.rule_11 b.rule_18 b.rule_20)

  pub eval_right : (e : Expr) → NodeHolds (Stmt-F.Eval e)
  eval_right e s known none =
      let b = breaks_none env (Stmt-F.Eval e) s none in
      let parts = empty_parts (attr env s e).faults (of_rule 10 (named_10 (attr env s e)) (of_rule 19 (bare_19 (attr env s e)) [])) b.below in
      let none_10 = (empty_rule 10 (named_10 (attr env s e)) (of_rule 19 (bare_19 (attr env s e)) []) parts.1).0 in
      leaf s (evaluated (attr env s e).core (attr env s e).denotes) known (evaluated_numbers (attr env s e).core (attr env s e).denotes)
      (λ cs fits. evaluated_typed s cs known fits (attr env s e).core (attr env s e).denotes (attr env s e).at s.in_loop (holds s cs known fits e parts.0).means none_10)

  pub super_right : (at : ℕ) (given : List Expr) → NodeHolds (Stmt-F.Super at given)
  super_right at given s known none = no_place at [] (breaks_none env (Stmt-F.Super at given) s none).rule_14

  pub return_right : (at : ℕ) (e : Option Expr) → NodeHolds (Stmt-F.Return at e)
  return_right at e s known none =
      let b = breaks_none env (Stmt-F.Return at e) s none in
      leaf s (step.Return (optional_core env s e)) known (declared_numbers-Return (optional_core env s e)) (λ cs fits. return_typed s cs known fits at e s.in_loop b.below b.rule_11)

  pub break_right : (at : ℕ) → NodeHolds (Stmt-F.Break at)
  break_right at s known none =
      let b = breaks_none env (Stmt-F.Break at) s none in
      leaf s step.Break known declared_numbers-Break (λ cs fits. ap (λ f. f s.in_loop) (is_typed_stmt-Break p cs) ∙ unless_empty s.in_loop at b.rule_17)

  pub continue_right : (at : ℕ) → NodeHolds (Stmt-F.Continue at)
  continue_right at s known none =
      let b = breaks_none env (Stmt-F.Continue at) s none in
      leaf s step.Continue known declared_numbers-Continue (λ cs fits. ap (λ f. f s.in_loop) (is_typed_stmt-Continue p cs) ∙ unless_empty s.in_loop at b.rule_17)

  pub throw_right : (e : Expr) → NodeHolds (Stmt-F.Throw e)
  throw_right e s known none =
      let b = breaks_none env (Stmt-F.Throw e) s none in
      leaf s (step.Throw (attr env s e).core) known (declared_numbers-Throw (attr env s e).core) (λ cs fits. throw_typed s cs known fits e s.in_loop b.below b.rule_11)
