-- Statements with parts, and declarations: one that breaks no rule is well typed (JLS 14).
use Rattle.std.proofs.Common.{◌≡◌, ◌∙◌, ℕ, Bool, true, ◌||◌, ◌&&◌, IsTrue, List, [], ◌∷◌, ◌++◌, length, map, Option, Some, None, option_map, is_some, slice_get, refl, subst, sym, ap}
use Rattle.std.specs.Prelude.{unwrap_or}
use Rattle.std.specs.Option.{option_map_or}
use Rattle.std.proofs.lemmas.Bool.{false≢true, and_from}
use Rattle.core_tree.specs.declared.ty.Ty.{Ty}
use Rattle.core_tree.specs.declared.ty.Ty.TheVariants as ty
use Rattle.core_tree.specs.declared.stmt.Stmt.{Stmt as Step}
use Rattle.core_tree.specs.declared.stmt.Stmt.TheVariants as step
use Rattle.core_tree.specs.declared.program.Program.{Program}
use Rattle.core_tree.specs.Types.{is_same_type}
use Rattle.core_tree.specs.Typing.{Scope as CoreScope, has, fits as fits_part, if_there, is_condition, is_typed_stmt}
use Rattle.core_tree.specs.WellTyped.{is_value, declared_numbers, numbers_from}
use Rattle.core_tree.proofs.StmtNodes.{is_typed_stmt-Block, is_typed_stmt-Declare, is_typed_stmt-If, is_typed_stmt-While, is_typed_stmt-DoWhile, is_typed_stmt-For, is_typed_stmt-Try, declared_numbers-Block, declared_numbers-Declare, declared_numbers-If, declared_numbers-While, declared_numbers-DoWhile, declared_numbers-For, declared_numbers-Try}
use Rattle.java_syntax.specs.declared.expression.Expr.{Expr}
use Rattle.java_syntax.specs.declared.statement.LocalTree.{LocalTree}
use Rattle.java_syntax.specs.declared.statement.Stmt.TheOpen.{Stmt-F}
use Rattle.java_names.specs.declared.scope.Scope.{Scope}
use Rattle.java_names.specs.Scope.{declared, left, back_at}
use Rattle.java_exprs.specs.declared.environment.Environment.{Environment}
use Rattle.java_exprs.specs.Attr.{unless, only_if, of_rule, value_faults}
use Rattle.java_exprs.specs.Lookups.{unknown_type}
use Rattle.java_exprs.specs.Rules.{wants_type}
use Rattle.java_exprs.specs.Checks.{attr}
use Rattle.java_statements.specs.Effects.{Part, CatchPart, sequence, clauses, inner, looped, branch}
use Rattle.java_statements.specs.Statements.{local_type, with_local, started, updated, optional_core, again_10, condition_11, optional_faults}
use Rattle.typing_law.specs.Agrees.{Agrees}
use Rattle.typing_law.specs.Scopes.{IsKnown, FitsBody}
use Rattle.typing_law.proofs.NoFaults.{empty_parts, empty_rule, unless_empty, only_if_empty}
use Rattle.typing_law.proofs.Spelled.{known_type, spelled_value}
use Rattle.typing_law.proofs.Scopes.{goes_on, goes_left, goes_declared, numbers_on, fits_before, fits_after, get_end}
use Rattle.typing_law.proofs.Statements.{StmtIsRight, PartHolds, PartsHold, CatchesHold, BranchHolds, sequence_right, clauses_right, inner_right, looped_right, branch_right, is_typed_catch, catch_numbers}
use Rattle.std.specs.Prelude.{nat_lt}
use Rattle.core_tree.specs.declared.stmt.Stmt.TheFolds.{fold-roll-Catch}
use Rattle.core_tree.specs.Typing.{InLoop, all_of, stmt_node, catch_node, is_throwable}
use Rattle.core_tree.specs.WellTyped.{declared_in, all_declared, declared_node, declared_catch}
use Rattle.token_reading.specs.declared.name.Ident.{Ident}
use Rattle.java_exprs.specs.Lookups.{class_named}
use Rattle.java_names.specs.Types.{is_string as is_string_name}
use Rattle.java_names.specs.Lookups.{is_below}
use Rattle.java_statements.specs.Effects.{CatchNode}
use Rattle.java_statements.specs.Statements.{exception_10, catch_10, catch_11, with_caught, catch_at}
use Rattle.typing_law.proofs.Values.{class_value, value_not_void}
use Rattle.typing_law.proofs.SameTypes.{same_refl}
use Rattle.typing_law.proofs.Statements.{CatchHolds, CatchIsRight}
use Rattle.typing_law.proofs.BodyNodes.{breaks_none, NodeHolds, condition, optional_fits}

module _ (env : Environment) (p : Program) (agrees : Agrees env p) where
  -- ---- declarations

  slot_typed : (s : Scope) (x : List ℕ) (t : Ty) (cs : CoreScope) → FitsBody s (declared s x t).slots cs → slice_get cs.locals (length s.slots) ≡ Some t
  unfolding declared
  slot_typed s x t cs fits = fits.slots (length s.slots) t (get_end s.slots t)

  of_slot : (s : Scope) (x : List ℕ) (t : Ty) (cs : CoreScope) → FitsBody s (declared s x t).slots cs → IsTrue (has (is_same_type t) (slice_get cs.locals (length s.slots)))
  of_slot s x t cs fits = ap (has (is_same_type t)) (slot_typed s x t cs fits) ∙ same_refl t

  local_declared : (s : Scope) (t : LocalTree) → IsKnown env p s → IsTrue (is_value p (local_type env t)) → optional_faults env (with_local env t s) t.value ≡ [] → option_map_or (λ e. wants_type env (local_type env t) (attr env (with_local env t s) e)) t.value [] ≡ [] →
      StmtIsRight env p s.in_loop s (with_local env t s) (step.Declare (length s.slots) (local_type env t) (optional_core env (with_local env t s) t.value))
  unfolding goes_declared
  local_declared s t known value none none_11 =
      let goes = goes_declared env p s t.name.name (local_type env t) known value in
      record {
        goes = goes;
        typed = λ cs fits. ap (λ f. f s.in_loop) (is_typed_stmt-Declare p cs (length s.slots) (local_type env t) (optional_core env (with_local env t s) t.value))
            ∙ and_from (has (is_same_type (local_type env t)) (slice_get cs.locals (length s.slots))) (if_there p cs (fits_part p (local_type env t)) (optional_core env (with_local env t s) t.value))
            (of_slot s t.name.name (local_type env t) cs fits)
            (optional_fits env p agrees (with_local env t s) cs goes.known (fits_after env p s (with_local env t s) (with_local env t s).slots cs goes fits) (local_type env t) t.value (value_not_void (length p.classes) (local_type env t) value) none none_11);
        numbers = declared_numbers-Declare (length s.slots) (local_type env t) (optional_core env (with_local env t s) t.value);
      }

  pub local_right : (t : LocalTree) → NodeHolds env p agrees (Stmt-F.Local t)
  local_right t s known none =
      let b = breaks_none env (Stmt-F.Local t) s none in
      let to = known_type env t.ty (empty_parts (unknown_type env t.ty) (again_10 s t.name) b.rule_10).0 in
      let value : IsTrue (is_value p (local_type env t)) = subst (λ u. IsTrue (is_value p (unwrap_or u ty.Void))) (sym to.1) (spelled_value env p agrees.class t.ty to.0 to.1) in
      local_declared s t known value b.below b.rule_11

  -- ---- blocks

  pub block_right : (all : List Part) → PartsHold env p all → NodeHolds env p agrees (Stmt-F.Block all)
  unfolding goes_left back_at
  block_right all hold s known none =
      let b = breaks_none env (Stmt-F.Block all) s none in
      let right = sequence_right env p all hold s known b.below in
      record {
        goes = goes_left env p s (sequence all s).after right.goes;
        typed = λ cs fits. ap (λ f. f s.in_loop) (is_typed_stmt-Block p cs (sequence all s).steps) ∙ right.typed cs (record { this = fits.this; answer = fits.answer; slots = fits.slots });
        numbers = declared_numbers-Block (sequence all s).steps ∙ right.numbers;
      }

  -- ---- choices

  pub if_right : (c : Expr) (body : Part) (other : Option Part) → PartHolds env p body → BranchHolds env p other → NodeHolds env p agrees (Stmt-F.If c body other)
  unfolding goes_on
  if_right c body other hold_body hold_other s known none =
      let b = breaks_none env (Stmt-F.If c body other) s none in
      let middle = (inner body s).after in
      let last = (branch other middle).after in
      let below = empty_parts (value_faults (attr env s c)) ((inner body s).faults ++ (branch other middle).faults) b.below in
      let parts = empty_parts (inner body s).faults (branch other middle).faults below.1 in
      let first = inner_right env p body hold_body s known parts.0 in
      let second = branch_right env p other hold_other middle first.goes.known parts.1 in
      let goes = goes_on env p s middle last first.goes second.goes in
      record {
        goes = goes;
        typed = λ cs fits. ap (λ f. f s.in_loop) (is_typed_stmt-If p cs (attr env s c).core (inner body s).step (branch other middle).step)
            ∙ and_from (is_condition p cs (attr env s c).core) (is_typed_stmt p cs (inner body s).step s.in_loop && option_map_or (λ it. it s.in_loop) (option_map (is_typed_stmt p cs) (branch other middle).step) true)
            (condition env p agrees s cs known (fits_before env p s s last cs goes fits) c below.0 b.rule_11)
            (and_from (is_typed_stmt p cs (inner body s).step s.in_loop) (option_map_or (λ it. it s.in_loop) (option_map (is_typed_stmt p cs) (branch other middle).step) true)
            (first.typed cs (fits_before env p s middle last cs second.goes fits))
            (subst (λ x. IsTrue (option_map_or (λ it. it x) (option_map (is_typed_stmt p cs) (branch other middle).step) true)) first.goes.in_loop (second.typed cs (fits_after env p s middle last.slots cs first.goes fits))));
        numbers = declared_numbers-If (attr env s c).core (inner body s).step (branch other middle).step
            ∙ ap (λ ns. ns ++ declared_in (option_map declared_numbers (branch other middle).step)) first.numbers ∙ ap (λ ns. numbers_from (length s.slots) first.goes.more ++ ns) second.numbers ∙ sym (numbers_on env p s middle last first.goes second.goes);
      }

  -- ---- loops

  pub while_right : (c : Expr) (body : Part) → PartHolds env p body → NodeHolds env p agrees (Stmt-F.While c body)
  while_right c body hold s known none =
      let b = breaks_none env (Stmt-F.While c body) s none in
      let below = empty_parts (value_faults (attr env s c)) (looped body s).faults b.below in
      let right = looped_right env p body hold s known below.1 in
      record {
        goes = right.goes;
        typed = λ cs fits. ap (λ f. f s.in_loop) (is_typed_stmt-While p cs (attr env s c).core (looped body s).step)
            ∙ and_from (is_condition p cs (attr env s c).core) (is_typed_stmt p cs (looped body s).step true)
            (condition env p agrees s cs known (fits_before env p s s (looped body s).after cs right.goes fits) c below.0 b.rule_11) (right.typed cs fits);
        numbers = declared_numbers-While (attr env s c).core (looped body s).step ∙ right.numbers;
      }

  pub do_while_right : (body : Part) (c : Expr) → PartHolds env p body → NodeHolds env p agrees (Stmt-F.DoWhile body c)
  do_while_right body c hold s known none =
      let b = breaks_none env (Stmt-F.DoWhile body c) s none in
      let below = empty_parts (looped body s).faults (value_faults (attr env s c)) b.below in
      let right = looped_right env p body hold s known below.0 in
      record {
        goes = right.goes;
        typed = λ cs fits. ap (λ f. f s.in_loop) (is_typed_stmt-DoWhile p cs (looped body s).step (attr env s c).core)
            ∙ and_from (is_typed_stmt p cs (looped body s).step true) (is_condition p cs (attr env s c).core)
            (right.typed cs fits) (condition env p agrees s cs known (fits_before env p s s (looped body s).after cs right.goes fits) c below.1 b.rule_11);
        numbers = declared_numbers-DoWhile (looped body s).step (attr env s c).core ∙ right.numbers;
      }

  optional_condition : (s : Scope) (cs : CoreScope) → IsKnown env p s → FitsBody s s.slots cs → (c : Option Expr) → optional_faults env s c ≡ [] → option_map_or (condition_11 env s) c [] ≡ [] → IsTrue (option_map_or (is_condition p cs) (optional_core env s c) true)
  optional_condition s cs known fits None none none_11 = refl
  optional_condition s cs known fits (Some c) none none_11 = condition env p agrees s cs known fits c none none_11

  pub for_right : (start : List Part) (c : Option Expr) (update : List Part) (body : Part) → PartsHold env p start → PartsHold env p update → PartHolds env p body → NodeHolds env p agrees (Stmt-F.For start c update body)
  unfolding goes_on goes_left back_at
  for_right start c update body hold_start hold_update hold_body s known none =
      let b = breaks_none env (Stmt-F.For start c update body) s none in
      let s1 = started start s in
      let s2 = updated start update s in
      let s3 = (looped body s2).after in
      let below = empty_parts (sequence start s).faults (optional_faults env s1 c ++ ((sequence update s1).faults ++ (looped body s2).faults)) b.below in
      let rest = empty_parts (optional_faults env s1 c) ((sequence update s1).faults ++ (looped body s2).faults) below.1 in
      let loop = empty_parts (sequence update s1).faults (looped body s2).faults rest.1 in
      let first = sequence_right env p start hold_start s known below.0 in
      let second = sequence_right env p update hold_update s1 first.goes.known loop.0 in
      let third = looped_right env p body hold_body s2 second.goes.known loop.1 in
      let behind = goes_on env p s1 s2 s3 second.goes third.goes in
      let goes = goes_on env p s s1 s3 first.goes behind in
      record {
        goes = goes_left env p s s3 goes;
        typed = λ cs fits_left.
            let fits : FitsBody s s3.slots cs = record { this = fits_left.this; answer = fits_left.answer; slots = fits_left.slots } in
            let fits_1 : FitsBody s1 s3.slots cs = fits_after env p s s1 s3.slots cs first.goes fits in
            let fits_2 : FitsBody s2 s3.slots cs = fits_after env p s1 s2 s3.slots cs second.goes fits_1 in
            ap (λ f. f s.in_loop) (is_typed_stmt-For p cs (sequence start s).steps (optional_core env s1 c) (sequence update s1).steps (looped body s2).step)
            ∙ and_from (all_of (map (is_typed_stmt p cs) (sequence start s).steps) s.in_loop) (option_map_or (is_condition p cs) (optional_core env s1 c) true && (all_of (map (is_typed_stmt p cs) (sequence update s1).steps) s.in_loop && is_typed_stmt p cs (looped body s2).step true))
            (first.typed cs (fits_before env p s s1 s3 cs behind fits))
            (and_from (option_map_or (is_condition p cs) (optional_core env s1 c) true) (all_of (map (is_typed_stmt p cs) (sequence update s1).steps) s.in_loop && is_typed_stmt p cs (looped body s2).step true)
            (optional_condition s1 cs first.goes.known (fits_before env p s1 s1 s3 cs behind fits_1) c rest.0 b.rule_11)
            (and_from (all_of (map (is_typed_stmt p cs) (sequence update s1).steps) s.in_loop) (is_typed_stmt p cs (looped body s2).step true)
            (subst (λ x. IsTrue (all_of (map (is_typed_stmt p cs) (sequence update s1).steps) x)) first.goes.in_loop (second.typed cs (fits_before env p s1 s2 s3 cs third.goes fits_1)))
            (third.typed cs fits_2)));
        numbers = declared_numbers-For (sequence start s).steps (optional_core env s1 c) (sequence update s1).steps (looped body s2).step
            ∙ ap (λ ns. ns ++ (all_declared (map declared_numbers (sequence update s1).steps) ++ declared_numbers (looped body s2).step)) first.numbers
            ∙ ap (λ ns. numbers_from (length s.slots) first.goes.more ++ (ns ++ declared_numbers (looped body s2).step)) second.numbers
            ∙ ap (λ ns. numbers_from (length s.slots) first.goes.more ++ (numbers_from (length s1.slots) second.goes.more ++ ns)) third.numbers
            ∙ ap (λ ns. numbers_from (length s.slots) first.goes.more ++ ns) (sym (numbers_on env p s1 s2 s3 second.goes third.goes))
            ∙ sym (numbers_on env p s s1 s3 first.goes behind);
      }

  -- ---- exceptions

  pub try_right : (body : Part) (catches : List CatchPart) (last : Option Part) → PartHolds env p body → CatchesHold env p catches → BranchHolds env p last → NodeHolds env p agrees (Stmt-F.Try body catches last)
  unfolding goes_on
  try_right body catches last hold_body hold_catches hold_last s known none =
      let b = breaks_none env (Stmt-F.Try body catches last) s none in
      let s1 = (inner body s).after in
      let s2 = (clauses catches s1).after in
      let s3 = (branch last s2).after in
      let below = empty_parts (inner body s).faults ((clauses catches s1).faults ++ (branch last s2).faults) b.below in
      let rest = empty_parts (clauses catches s1).faults (branch last s2).faults below.1 in
      let first = inner_right env p body hold_body s known below.0 in
      let second = clauses_right env p catches hold_catches s1 first.goes.known rest.0 in
      let third = branch_right env p last hold_last s2 second.goes.known rest.1 in
      let behind = goes_on env p s1 s2 s3 second.goes third.goes in
      let typed_catches = λ (cs : CoreScope) (x : Bool). all_of (map (is_typed_catch env p cs) (clauses catches s1).handlers) x in
      let typed_last = λ (cs : CoreScope) (x : Bool). option_map_or (λ it. it x) (option_map (is_typed_stmt p cs) (branch last s2).step) true in
      record {
        goes = goes_on env p s s1 s3 first.goes behind;
        typed = λ cs fits.
            let fits_1 : FitsBody s1 s3.slots cs = fits_after env p s s1 s3.slots cs first.goes fits in
            let fits_2 : FitsBody s2 s3.slots cs = fits_after env p s1 s2 s3.slots cs second.goes fits_1 in
            ap (λ f. f s.in_loop) (is_typed_stmt-Try p cs (inner body s).step (clauses catches s1).handlers (branch last s2).step)
            ∙ and_from (is_typed_stmt p cs (inner body s).step s.in_loop) (typed_catches cs s.in_loop && typed_last cs s.in_loop)
            (first.typed cs (fits_before env p s s1 s3 cs behind fits))
            (and_from (typed_catches cs s.in_loop) (typed_last cs s.in_loop)
            (subst (λ x. IsTrue (typed_catches cs x)) first.goes.in_loop (second.typed cs (fits_before env p s1 s2 s3 cs third.goes fits_1)))
            (subst (λ x. IsTrue (typed_last cs x)) (second.goes.in_loop ∙ first.goes.in_loop) (third.typed cs fits_2)));
        numbers = declared_numbers-Try (inner body s).step (clauses catches s1).handlers (branch last s2).step
            ∙ ap (λ ns. ns ++ (all_declared (map (catch_numbers env p) (clauses catches s1).handlers) ++ declared_in (option_map declared_numbers (branch last s2).step))) first.numbers
            ∙ ap (λ ns. numbers_from (length s.slots) first.goes.more ++ (ns ++ declared_in (option_map declared_numbers (branch last s2).step))) second.numbers
            ∙ ap (λ ns. numbers_from (length s.slots) first.goes.more ++ (numbers_from (length s1.slots) second.goes.more ++ ns)) third.numbers
            ∙ ap (λ ns. numbers_from (length s.slots) first.goes.more ++ ns) (sym (numbers_on env p s1 s2 s3 second.goes third.goes))
            ∙ sym (numbers_on env p s s1 s3 first.goes behind);
      }

  -- the class of a catch clause
  caught : (c : Ident) (found : Option ℕ) → unless (is_some found || is_string_name c.name) c.at ≡ [] → option_map_or (λ class. unless (is_below env.symbols class 1) c.at) found (only_if (is_string_name c.name) c.at) ≡ [] →
      (k : ℕ) × (found ≡ Some k) × IsTrue (is_below env.symbols k 1)
  caught c None none_10 none_11 = absurd (false≢true (sym (only_if_empty (is_string_name c.name) c.at none_11) ∙ unless_empty (is_string_name c.name) c.at none_10))
  caught c (Some k) none_10 none_11 = (k, refl, unless_empty (is_below env.symbols k 1) c.at none_11)

  caught_right : (s : Scope) (x : List ℕ) (k : ℕ) (after : Scope) (body : Step) → IsKnown env p s → IsTrue (nat_lt k (length p.classes)) → IsTrue (is_throwable p k) →
      ((known : IsKnown env p (declared s x (ty.Class k))) → StmtIsRight env p (declared s x (ty.Class k)).in_loop (declared s x (ty.Class k)) after body) →
      CatchIsRight env p s.in_loop s (left s after) (record { class = k; slot = length s.slots; body = body })
  unfolding goes_declared goes_on goes_left back_at is_typed_stmt declared_numbers
  caught_right s x k after body known within throwable_k hold =
      let t = ty.Class k in
      let mid = declared s x t in
      let first = goes_declared env p s x t known (class_value (length p.classes) k within) in
      let right = hold first.known in
      let goes = goes_on env p s mid after first right.goes in
      record {
        goes = goes_left env p s after goes;
        typed = λ cs fits_left.
            let fits : FitsBody s after.slots cs = record { this = fits_left.this; answer = fits_left.answer; slots = fits_left.slots } in
            ap (λ f. f s.in_loop) (fold-roll-Catch InLoop InLoop (stmt_node p cs) (catch_node p cs) (record { class = k; slot = length s.slots; body = body }))
            ∙ and_from (is_throwable p k) (has (is_same_type t) (slice_get cs.locals (length s.slots)) && is_typed_stmt p cs body s.in_loop) throwable_k
            (and_from (has (is_same_type t) (slice_get cs.locals (length s.slots))) (is_typed_stmt p cs body s.in_loop)
            (of_slot s x t cs (fits_before env p s mid after cs right.goes fits))
            (subst (λ b. IsTrue (is_typed_stmt p cs body b)) first.in_loop (right.typed cs (fits_after env p s mid after.slots cs first fits))));
        numbers = fold-roll-Catch (List ℕ) (List ℕ) declared_node declared_catch (record { class = k; slot = length s.slots; body = body })
            ∙ ap (λ ns. length s.slots ∷ ns) right.numbers ∙ sym (numbers_on env p s mid after first right.goes);
      }

  pub catch_right : (c : CatchNode) → PartHolds env p c.body → CatchHolds env p (catch_at env c)
  catch_right c hold s known none =
      let mid = with_caught env c s in
      let parts = empty_parts (c.body mid).faults (of_rule 10 (catch_10 env c s) (of_rule 11 (catch_11 env c) [])) none in
      let e10 = empty_rule 10 (catch_10 env c s) (of_rule 11 (catch_11 env c) []) parts.1 in
      let e11 = empty_rule 11 (catch_11 env c) [] e10.1 in
      let k = caught c.class (class_named env c.class.name) (empty_parts (exception_10 env c.class) (again_10 s c.name) e10.0).0 e11.0 in
      let throwable_k : IsTrue (is_throwable p k.0) = sym (agrees.below k.0 1) ∙ k.2 in
      let within = agrees.class c.class.name k.0 k.1 in
      let of = λ (found : Option ℕ). declared s c.name.name (option_map_or ty.Class found ty.Void) in
      subst (λ found. (IsKnown env p (of found) → StmtIsRight env p (of found).in_loop (of found) (c.body (of found)).after (c.body (of found)).step) → CatchIsRight env p s.in_loop s (left s (c.body (of found)).after) (record { class = unwrap_or found 0; slot = length s.slots; body = (c.body (of found)).step })) (sym k.1)
      (caught_right s c.name.name k.0 (c.body (of (Some k.0))).after (c.body (of (Some k.0))).step known within throwable_k) (λ known. hold mid known parts.0)
