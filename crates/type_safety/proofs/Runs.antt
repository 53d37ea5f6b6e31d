-- Whole runs: every part is safe, whatever the number of steps, and no run of a well-typed program is stuck.
use Rattle.std.proofs.Common.{Option, ◌≡◌, ℕ, zero, suc, Bool, true, false, not, nat_le, IsTrue, List, [], ◌∷◌, length, Some, None, slice_get, refl, subst, sym, ap, arith, if◌then◌else◌}
use Rattle.std.specs.Prelude.{option_and_then}
use Rattle.std.specs.Option.{option_map_or}
use Rattle.std.proofs.lemmas.Option.{none-some, same_Some}
use Rattle.std.proofs.lemmas.Bool.{false≢true, leb-true, not-true}
use Rattle.std.specs.Cmp.{first_so, second_so}
use Rattle.core_tree.specs.Text.{code_units}
use Rattle.core_tree.specs.declared.ty.Ty.{Ty}
use Rattle.core_tree.specs.declared.ty.Ty.TheVariants as ty
use Rattle.core_tree.specs.declared.ty.Ty.TheViews as type
use Rattle.core_tree.specs.declared.what.What.TheVariants as what
use Rattle.core_tree.specs.declared.stmt.Stmt.{out-Stmt}
use Rattle.core_tree.specs.declared.expr.Expr.{out-Expr}
use Rattle.core_tree.specs.declared.program.Method.{Method}
use Rattle.core_tree.specs.declared.program.Program.{Program}
use Rattle.core_tree.specs.Types.{is_value_type}
use Rattle.core_tree.specs.Typing.{is_throwable, is_typed_body}
use Rattle.core_tree.specs.WellTyped.{IsWellTyped, same_types, is_method, is_main, method_scope}
use Rattle.heap_arena.specs.declared.cell.Cell.TheVariants as value
use Rattle.heap_arena.specs.declared.kind.Kind.TheVariants as kind
use Rattle.heap_arena.specs.Heap.{Heap, cell_count, most_cells, cell_at, class_at}
use Rattle.relation_bounds.specs.declared.journal.Entry.{Entry}
use Rattle.evaluation.specs.declared.outcome.Outcome.{Outcome}
use Rattle.evaluation.specs.declared.outcome.Outcome.TheVariants as outcome
use Rattle.evaluation.specs.World.{World, Answer, gives}
use Rattle.evaluation.specs.Values.{most_units}
use Rattle.evaluation.specs.Objects.{object_fits, message_place}
use Rattle.evaluation.specs.Calls.{block}
use Rattle.evaluation.specs.Evaluate.{expr_node}
use Rattle.evaluation.specs.Execute.{stmt_node, meaning}
use Rattle.evaluation.specs.Run.{arguments_heap, first_world, has_short_arguments, run_main, run, Ending, uncaught, ending_of, ending, message_of}
use Rattle.type_safety.specs.Fits.{FitsType, FitsKind, FitsHeap, FitsThis, FitsScope}
use Rattle.type_safety.specs.Ends.{Wanted, Meets, AreSafe}
use Rattle.core_tree.proofs.TypeFacts.{found_passes, is_string-Text}
use Rattle.core_tree.proofs.TypeNodes.{is_value_type-Text}
use Rattle.type_safety.proofs.Assignable.{array_to_array, is_assignable_refl}
use Rattle.type_safety.proofs.Lists.{all_at, mapped_at}
use Rattle.type_safety.proofs.Values.{object_cases, of_kind}
use Rattle.type_safety.proofs.Parts.{gives_ends, gives_in, enter_ends, enter_in, scope_fuel}
use Rattle.type_safety.proofs.Programs as programs
use Rattle.type_safety.proofs.Methods.{same_lists, method_passes}
use Rattle.type_safety.proofs.Calls.{FitAll, block_in, locals_fit}
use Rattle.type_safety.proofs.Expressions.{expr_ends}
use Rattle.type_safety.proofs.Statements.{one_not_zero, stmt_in, turn_in}

-- what nodes do is safe, down to each depth
pub are_safe : (p : Program) → IsWellTyped p → (k : ℕ) → AreSafe p (meaning p k)
unfolding meaning
are_safe p typed zero = record {
  expr = λ s e t w is fits. gives_ends p (Wanted.ValueOf t) w outcome.Spent fits.world tt;
  stmt = λ s x inside w is fits. gives_in p s (Wanted.StatementEnd s.answer inside) w outcome.Spent fits tt;
  loop = λ s loop inside w is fits. gives_in p s (Wanted.StatementEnd s.answer inside) w outcome.Spent fits tt;
}
are_safe p typed (suc k) = record {
  expr = λ s e t w is fits. enter_ends p (Wanted.ValueOf t) (expr_node p (meaning p k) (out-Expr e)) w fits.world (λ f. expr_ends p typed (meaning p k) (are_safe p typed k) s e t (record w { fuel = f }) is (scope_fuel p s w f fits));
  stmt = λ s x inside w is fits. enter_in p s (Wanted.StatementEnd s.answer inside) (stmt_node p (meaning p k) (out-Stmt x)) w fits (λ f. stmt_in p typed (meaning p k) (are_safe p typed k) s x inside (record w { fuel = f }) is (scope_fuel p s w f fits));
  loop = λ s loop inside w is fits. turn_in p typed (meaning p k) (are_safe p typed k) s inside loop w is fits;
}

-- ---- the beginning

text_is_value : (classes : ℕ) → IsTrue (is_value_type classes ty.Text)
text_is_value classes = is_value_type-Text classes

module _ (p : Program) (typed : IsWellTyped p) where
  arguments_fit : (args : List (List ℕ)) → IsTrue (has_short_arguments args) → FitsHeap p (arguments_heap args)
  arguments_fit args short (suc o) object is = absurd (none-some object is)
  arguments_fit args short zero object is = subst (λ x. FitsKind p (arguments_heap args) x.cells x.kind) (same_Some _ object is) (
    text_is_value (length p.classes),
    λ at v is_v.
        let arg = mapped_at value.Text args at v is_v in
        subst (λ u. FitsType p (arguments_heap args) u ty.Text) arg.2 (is_string-Text, leb-true (code_units arg.0) most_units (all_at (λ a. nat_le (code_units a) most_units) args at arg.0 short arg.1)),
  )

  begins : (main : Method) (args : List (List ℕ)) (steps : ℕ) (journal : List Entry) → IsTrue (is_main main) → IsTrue (has_short_arguments args) → FitsScope p (method_scope main) (first_world main args steps journal)
  begins main args steps journal is short = record {
    world = record { heap = arguments_fit args short; live = omega arith };
    this = no_this (first_so (not main.on_object) (same_types main.params (type.Array ty.Text ∷ [])) is);
    locals = locals_fit p (arguments_heap args) (value.Ref 0 ∷ []) main.params main.locals
        (subst (FitAll p (arguments_heap args) (value.Ref 0 ∷ [])) (sym (same_lists main.params (type.Array ty.Text ∷ []) (second_so (not main.on_object) (same_types main.params (type.Array ty.Text ∷ [])) is)))
        (of_kind p (arguments_heap args) 0 (type.Array ty.Text) (kind.Array ty.Text) refl (array_to_array p.classes ty.Text ty.Text (is_assignable_refl p.classes (programs.have_lines p typed) ty.Text (text_is_value (length p.classes)))), tt));
  }
    where
      no_this : IsTrue (not main.on_object) → FitsThis p (arguments_heap args) (method_scope main).this None
      no_this none = rw (not-true main.on_object none) tt

  -- ---- the end

  -- the run isn't stuck, and what was thrown is of a class that can be thrown
  abbrev EndsWell : Ending → Type 0
  EndsWell Ending.Stuck = ⊥
  EndsWell (Ending.Uncaught c message) = IsTrue (is_throwable p c)
  EndsWell _ = Unit {0}

  uncaught_ends : (h : Heap) (o : ℕ) → IsTrue (object_fits p h o (ty.Class 1)) → EndsWell (uncaught h o)
  uncaught_ends h o thrown =
      object_cases p h o 1 {Q = EndsWell (uncaught h o)} thrown
      (λ d is_kind below.
      let is_class : class_at h o ≡ Some d = ap (option_and_then (λ k. elim k [ kind.Instance c ↦ Some c | kind.Array t ↦ None ])) is_kind in
      subst (λ found. EndsWell (option_map_or (λ c. Ending.Uncaught c (message_of (cell_at h o message_place))) found Ending.Stuck)) (sym is_class) below)
      (λ f is_kind top. absurd (one_not_zero top))

  meets_ending : (t : Ty) (h : Heap) (o : Outcome) → Meets p (Wanted.StatementEnd t false) h o → EndsWell (ending_of h o)
  meets_ending t h (outcome.Value v) meets = absurd meets
  meets_ending t h outcome.Break meets = absurd (false≢true meets)
  meets_ending t h outcome.Continue meets = absurd (false≢true meets)
  meets_ending t h (outcome.Throw o) meets = uncaught_ends h o meets
  meets_ending t h outcome.Stuck meets = absurd meets
  meets_ending t h _ meets = tt

  main_body : (m : Method) → IsTrue (is_method p m) → IsTrue (is_typed_body p (method_scope m) m.body)
  main_body m passes = search (first_so, second_so)

  main_ends : (main : Method) (args : List (List ℕ)) (steps : ℕ) (journal : List Entry) → slice_get p.methods p.main ≡ Some main → IsTrue (is_main main) → EndsWell (ending (run_main p args (first_world main args steps journal)))
  main_ends main args steps journal is_main passes = short (has_short_arguments args) refl
    where
      w : World
      w = first_world main args steps journal

      executed : Answer
      executed = option_map_or (λ main. block p (meaning p w.fuel) main.body w) (slice_get p.methods p.main) (gives outcome.Stuck w)

      room : IsTrue (has_short_arguments args) → (b : Bool) → EndsWell (ending (if not b then gives (outcome.Full what.Cells) w else executed))
      room short false = tt
      room short true = subst (λ found. EndsWell (ending (option_map_or (λ main. block p (meaning p steps) main.body w) found (gives outcome.Stuck w)))) (sym is_main)
          (let ends = block_in p (meaning p steps) (are_safe p typed steps) (method_scope main) false main.body w (main_body main (method_passes p typed p.main main is_main)) (begins main args steps journal passes short) in
          meets_ending main.answer (block p (meaning p steps) main.body w).world.now (block p (meaning p steps) main.body w).outcome ends.outcome)

      short : (b : Bool) → has_short_arguments args ≡ b → EndsWell (ending (if not b then gives (outcome.Full what.Text) w else (if not (nat_le (cell_count w.now) most_cells) then gives (outcome.Full what.Cells) w else executed)))
      short false is = tt
      short true is = room is (nat_le (cell_count w.now) most_cells)

  run_ends : (args : List (List ℕ)) (steps : ℕ) (journal : List Entry) → EndsWell (ending (run p args steps journal))
  run_ends args steps journal =
      found_passes is_main (slice_get p.methods p.main) {Q = EndsWell (ending (run p args steps journal))} typed.main (λ main is_there passes.
      subst (λ found. EndsWell (ending (option_map_or (λ main. run_main p args (first_world main args steps journal)) found (gives outcome.Stuck (record { this = None; locals = []; now = []; live = 0; fuel = steps; journal = journal }))))) (sym is_there)
      (main_ends main args steps journal is_there passes))

  pub never_stuck : (args : List (List ℕ)) (steps : ℕ) (journal : List Entry) → ending (run p args steps journal) ≡ Ending.Stuck → ⊥
  never_stuck args steps journal is = subst EndsWell is (run_ends args steps journal)

  pub uncaught_class : (args : List (List ℕ)) (steps : ℕ) (journal : List Entry) (c : ℕ) (message : Option (List ℕ)) → ending (run p args steps journal) ≡ Ending.Uncaught c message → IsTrue (is_throwable p c)
  uncaught_class args steps journal c message is = subst EndsWell is (run_ends args steps journal)
