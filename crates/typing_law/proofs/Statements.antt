-- What holds of the parts of a body: sequences, blocks, loops and branches.
use Rattle.std.proofs.Common.{◌≡◌, ◌∙◌, ℕ, Bool, true, IsTrue, List, [], ◌∷◌, ◌++◌, length, map, Option, Some, None, option_map, refl, subst, sym, ap}
use Rattle.std.specs.Option.{option_map_or}
use Rattle.std.proofs.lemmas.Bool.{and_from}
use Rattle.core_tree.specs.declared.stmt.Stmt.{Stmt as Step}
use Rattle.core_tree.specs.declared.stmt.Stmt.TheFolds.{fold-Catch}
use Rattle.core_tree.specs.declared.stmt.Catch.{Catch as Handler}
use Rattle.core_tree.specs.declared.program.Program.{Program}
use Rattle.core_tree.specs.Typing.{Scope as CoreScope, InLoop, all_of, stmt_node, catch_node, is_typed_stmt}
use Rattle.core_tree.specs.WellTyped.{declared_node, declared_catch, declared_numbers, declared_in, all_declared, numbers_from}
use Rattle.java_names.specs.declared.scope.Scope.{Scope}
use Rattle.java_names.specs.Scope.{back_at}
use Rattle.java_exprs.specs.declared.environment.Environment.{Environment}
use Rattle.java_statements.specs.Effects.{Part, CatchPart, sequence, clauses, inner, looped, branch, in_loop}
use Rattle.typing_law.specs.Scopes.{IsKnown, GoesTo, FitsBody}
use Rattle.typing_law.proofs.NoFaults.{empty_parts}
use Rattle.typing_law.proofs.Scopes.{goes_nowhere, goes_on, numbers_on, goes_left, left_known, fits_before, fits_after}

module _ (env : Environment) (p : Program) where
  -- a statement with its scopes before and after it, inside a loop or not
  pub record StmtIsRight (inside : Bool) (s : Scope) (after : Scope) (step : Step) : Type 0 where
    pub goes : GoesTo env p s after
    pub typed : (cs : CoreScope) → FitsBody s after.slots cs → IsTrue (is_typed_stmt p cs step inside)
    pub numbers : declared_numbers step ≡ numbers_from (length s.slots) goes.more

  -- several statements
  pub record StmtsAreRight (inside : Bool) (s : Scope) (after : Scope) (steps : List Step) : Type 0 where
    pub goes : GoesTo env p s after
    pub typed : (cs : CoreScope) → FitsBody s after.slots cs → IsTrue (all_of (map (is_typed_stmt p cs) steps) inside)
    pub numbers : all_declared (map declared_numbers steps) ≡ numbers_from (length s.slots) goes.more

  -- a statement that may be left out
  pub record BranchIsRight (inside : Bool) (s : Scope) (after : Scope) (step : Option Step) : Type 0 where
    pub goes : GoesTo env p s after
    pub typed : (cs : CoreScope) → FitsBody s after.slots cs → IsTrue (option_map_or (λ it. it inside) (option_map (is_typed_stmt p cs) step) true)
    pub numbers : declared_in (option_map declared_numbers step) ≡ numbers_from (length s.slots) goes.more

  -- a catch clause, and several
  abbrev pub is_typed_catch : CoreScope → Handler → InLoop
  is_typed_catch cs = fold-Catch InLoop InLoop (stmt_node p cs) (catch_node p cs)

  abbrev pub catch_numbers : Handler → List ℕ
  catch_numbers = fold-Catch (List ℕ) (List ℕ) declared_node declared_catch

  pub record CatchIsRight (inside : Bool) (s : Scope) (after : Scope) (handler : Handler) : Type 0 where
    pub goes : GoesTo env p s after
    pub typed : (cs : CoreScope) → FitsBody s after.slots cs → IsTrue (is_typed_catch cs handler inside)
    pub numbers : catch_numbers handler ≡ numbers_from (length s.slots) goes.more

  pub record CatchesAreRight (inside : Bool) (s : Scope) (after : Scope) (handlers : List Handler) : Type 0 where
    pub goes : GoesTo env p s after
    pub typed : (cs : CoreScope) → FitsBody s after.slots cs → IsTrue (all_of (map (is_typed_catch cs) handlers) inside)
    pub numbers : all_declared (map catch_numbers handlers) ≡ numbers_from (length s.slots) goes.more

  -- what breaks no rule is right
  abbrev pub PartHolds : Part → Type 0
  PartHolds k = (s : Scope) → IsKnown env p s → (k s).faults ≡ [] → StmtIsRight s.in_loop s (k s).after (k s).step

  abbrev pub CatchHolds : CatchPart → Type 0
  CatchHolds k = (s : Scope) → IsKnown env p s → (k s).faults ≡ [] → CatchIsRight s.in_loop s (k s).after (k s).handler

  abbrev pub PartsHold : List Part → Type 0
  PartsHold [] = Unit {0}
  PartsHold (k ∷ ks) = PartHolds k × PartsHold ks

  abbrev pub CatchesHold : List CatchPart → Type 0
  CatchesHold [] = Unit {0}
  CatchesHold (k ∷ ks) = CatchHolds k × CatchesHold ks

  abbrev pub BranchHolds : Option Part → Type 0
  BranchHolds None = Unit {0}
  BranchHolds (Some k) = PartHolds k

  -- ---- one after another

  pub sequence_right : (ks : List Part) → PartsHold ks → (s : Scope) → IsKnown env p s → (sequence ks s).faults ≡ [] → StmtsAreRight s.in_loop s (sequence ks s).after (sequence ks s).steps
  unfolding sequence goes_nowhere goes_on
  sequence_right [] hold s known none = record { goes = goes_nowhere env p s known; typed = λ cs fits. refl; numbers = refl }
  sequence_right (k ∷ ks) hold s known none =
      let parts = empty_parts (k s).faults (sequence ks (k s).after).faults none in
      let first = hold.0 s known parts.0 in
      let rest = sequence_right ks hold.1 (k s).after first.goes.known parts.1 in
      record {
        goes = goes_on env p s (k s).after (sequence ks (k s).after).after first.goes rest.goes;
        typed = λ cs fits. and_from (is_typed_stmt p cs (k s).step s.in_loop) (all_of (map (is_typed_stmt p cs) (sequence ks (k s).after).steps) s.in_loop)
            (first.typed cs (fits_before env p s (k s).after (sequence ks (k s).after).after cs rest.goes fits))
            (subst (λ b. IsTrue (all_of (map (is_typed_stmt p cs) (sequence ks (k s).after).steps) b)) first.goes.in_loop (rest.typed cs (fits_after env p s (k s).after (sequence ks (k s).after).after.slots cs first.goes fits)));
        numbers = ap (λ ns. ns ++ all_declared (map declared_numbers (sequence ks (k s).after).steps)) first.numbers ∙ ap (λ ns. numbers_from (length s.slots) first.goes.more ++ ns) rest.numbers ∙ sym (numbers_on env p s (k s).after (sequence ks (k s).after).after first.goes rest.goes);
      }

  pub clauses_right : (ks : List CatchPart) → CatchesHold ks → (s : Scope) → IsKnown env p s → (clauses ks s).faults ≡ [] → CatchesAreRight s.in_loop s (clauses ks s).after (clauses ks s).handlers
  unfolding clauses goes_nowhere goes_on
  clauses_right [] hold s known none = record { goes = goes_nowhere env p s known; typed = λ cs fits. refl; numbers = refl }
  clauses_right (k ∷ ks) hold s known none =
      let parts = empty_parts (k s).faults (clauses ks (k s).after).faults none in
      let first = hold.0 s known parts.0 in
      let rest = clauses_right ks hold.1 (k s).after first.goes.known parts.1 in
      record {
        goes = goes_on env p s (k s).after (clauses ks (k s).after).after first.goes rest.goes;
        typed = λ cs fits. and_from (is_typed_catch cs (k s).handler s.in_loop) (all_of (map (is_typed_catch cs) (clauses ks (k s).after).handlers) s.in_loop)
            (first.typed cs (fits_before env p s (k s).after (clauses ks (k s).after).after cs rest.goes fits))
            (subst (λ b. IsTrue (all_of (map (is_typed_catch cs) (clauses ks (k s).after).handlers) b)) first.goes.in_loop (rest.typed cs (fits_after env p s (k s).after (clauses ks (k s).after).after.slots cs first.goes fits)));
        numbers = ap (λ ns. ns ++ all_declared (map catch_numbers (clauses ks (k s).after).handlers)) first.numbers ∙ ap (λ ns. numbers_from (length s.slots) first.goes.more ++ ns) rest.numbers ∙ sym (numbers_on env p s (k s).after (clauses ks (k s).after).after first.goes rest.goes);
      }

  -- ---- a statement by itself

  pub inner_right : (k : Part) → PartHolds k → (s : Scope) → IsKnown env p s → (inner k s).faults ≡ [] → StmtIsRight s.in_loop s (inner k s).after (inner k s).step
  unfolding inner back_at goes_left
  inner_right k holds s known none =
      let right = holds s known none in
      record { goes = goes_left env p s (k s).after right.goes; typed = right.typed; numbers = right.numbers }

  known_in_loop : (s : Scope) → IsKnown env p s → IsKnown env p (in_loop s)
  known_in_loop s known = record {
    class = known.class;
    superclass = known.superclass;
    local = λ x n is. let has = known.local x n is in record { type = has.type; slot = has.slot; value = has.value };
  }

  pub looped_right : (k : Part) → PartHolds k → (s : Scope) → IsKnown env p s → (looped k s).faults ≡ [] → StmtIsRight true s (looped k s).after (looped k s).step
  unfolding looped back_at
  looped_right k holds s known none =
      let right = holds (in_loop s) (known_in_loop s known) none in
      record {
        goes = record {
          class = right.goes.class;
          is_static = right.goes.is_static;
          answer = right.goes.answer;
          in_loop = refl;
          more = right.goes.more;
          slots = right.goes.slots;
          values = right.goes.values;
          known = left_known env p s (k (in_loop s)).after right.goes.known;
        };
        typed = λ cs fits. right.typed cs (record { this = fits.this; answer = fits.answer; slots = fits.slots });
        numbers = right.numbers;
      }

  pub branch_right : (k : Option Part) → BranchHolds k → (s : Scope) → IsKnown env p s → (branch k s).faults ≡ [] → BranchIsRight s.in_loop s (branch k s).after (branch k s).step
  unfolding branch goes_nowhere
  branch_right None holds s known none = record { goes = goes_nowhere env p s known; typed = λ cs fits. refl; numbers = refl }
  branch_right (Some k) holds s known none = let right = inner_right k holds s known none in record { goes = right.goes; typed = right.typed; numbers = right.numbers }
