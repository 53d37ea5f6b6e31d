-- Each statement of a well-typed program ends as its typing says.
use Rattle.std.proofs.Common.{◌≡◌, ⊎_elim, ℕ, pos, Bool, true, false, not, ◌&&◌, ◌||◌, ◌==◌, IsTrue, List, [], ◌∷◌, map, Option, Some, None, is_some, slice_get, refl, subst, sym, ap, arith, if◌then◌else◌}
use Rattle.std.specs.Prelude.{option_and_then}
use Rattle.std.specs.Option.{option_map_or}
use Rattle.std.specs.List.{list_all}
use Rattle.std.proofs.lemmas.Option.{none-some, same_Some, option_and_then_some}
use Rattle.std.proofs.lemmas.Bool.{and_from, or_cases}
use Rattle.std.specs.Cmp.{first_so, second_so}
use Rattle.core_tree.specs.declared.ty.Ty.{Ty}
use Rattle.core_tree.specs.declared.ty.Ty.TheVariants as ty
use Rattle.core_tree.specs.declared.built_in.BuiltIn.{BuiltIn}
use Rattle.core_tree.specs.declared.built_in.BuiltIn.TheVariants as class
use Rattle.core_tree.specs.declared.operator.UpOp.{UpOp}
use Rattle.core_tree.specs.declared.operator.UpOp.TheVariants as update
use Rattle.core_tree.specs.declared.expr.Expr.{Expr}
use Rattle.core_tree.specs.declared.stmt.Target.{Target}
use Rattle.core_tree.specs.declared.stmt.Target.TheVariants as target
use Rattle.core_tree.specs.declared.stmt.Stmt.{Stmt, out-Stmt}
use Rattle.core_tree.specs.declared.stmt.Stmt.TheOpen.{Stmt-F}
use Rattle.core_tree.specs.declared.stmt.Stmt.TheFolds.{fold_out-Stmt, fold_out-Catch, map-Stmt, fold-Catch}
use Rattle.core_tree.specs.declared.stmt.Catch.{Catch, out-Catch}
use Rattle.core_tree.specs.declared.program.Program.{Program}
use Rattle.core_tree.specs.BuiltIn.{number_of}
use Rattle.core_tree.specs.Types.{class_of, elements_of, is_int, is_boolean, is_string, is_subclass, is_assignable, is_same_type}
use Rattle.core_tree.specs.Typing.{Scope, PartType, InLoop, has, fits as fits_part, has_text, ints, booleans, field_type, is_throwable, type_of, target_type, operand_type, is_update, is_counting, if_there, all_of, is_condition, catch_node, is_typed_stmt}
use Rattle.core_tree.specs.Typing as typing
use Rattle.core_tree.specs.WellTyped.{IsWellTyped}
use Rattle.heap_arena.specs.declared.cell.Cell.TheVariants as value
use Rattle.heap_arena.specs.declared.kind.Kind.TheVariants as kind
use Rattle.heap_arena.specs.Heap.{Heap, Value, default_of, class_at, kind_at}
use Rattle.evaluation.specs.declared.outcome.Outcome.{Outcome}
use Rattle.evaluation.specs.declared.outcome.Outcome.TheVariants as outcome
use Rattle.evaluation.specs.declared.place.Place.{Place}
use Rattle.evaluation.specs.declared.place.Place.TheVariants as location
use Rattle.evaluation.specs.World.{World, KeptCall, Answer, Run, gives, after, continued, ◌>>=◌, ◌>>◌}
use Rattle.evaluation.specs.Values.{update_value}
use Rattle.evaluation.specs.Objects.{trap, computed, write_local, read_place, write_place, with_field, with_element}
use Rattle.evaluation.specs.Calls.{Parts, Loop, block}
use Rattle.evaluation.specs.Evaluate.{choose}
use Rattle.evaluation.specs.Execute.{printed, prints, print_value, handler, throw, keeping, finally, with_target, assign, operand, update_place, tested, after_body, body_of, turn, handled, catch_object, catching, finally_if, stmt_node}
use Rattle.type_safety.specs.Fits.{FitsType, FitsScope, HasGrown}
use Rattle.type_safety.specs.Ends.{Wanted, Meets, Follows, EndsAs, EndsIn, IsTypedLoop, IsThrown, AreSafe}
use Rattle.core_tree.proofs.TypeFacts.{found_passes, class_type, array_type, is_object_class, int_type, boolean_type, is_int-Int}
use Rattle.type_safety.proofs.Assignable.{same_type, to_class}
use Rattle.type_safety.proofs.Values.{fits_grown, fits_on, default_fits, of_kind, object_cases, object_grown, grown_refl, grown_trans}
use Rattle.type_safety.proofs.Parts.{in_scope, gives_ends, gives_in, value_then_in, normal_then_in, normal_is_statement}
use Rattle.type_safety.proofs.Programs as programs
use Rattle.type_safety.proofs.Making.{trap_ends, computed_ends}
use Rattle.type_safety.proofs.Places.{FitsPlace, place_grown, write_local_in, read_place_ends, write_place_in}
use Rattle.type_safety.proofs.Objects.{with_object_by, with_field_by, with_element_by, choose_by}
use Rattle.type_safety.proofs.Computing.{has_a_text, update_computes}
use Rattle.type_safety.proofs.Calls.{block_in}
use Rattle.type_safety.proofs.Lists.{some_of}

-- what is asked of an outcome holds of it as the heap grows
meets_grown : (p : Program) (t : Ty) (inside : Bool) (h later : Heap) (o : Outcome) → HasGrown h later → Meets p (Wanted.StatementEnd t inside) h o → Meets p (Wanted.StatementEnd t inside) later o
meets_grown p t inside h later (outcome.Return (Some v)) grown meets = fits_grown p h later v t grown meets
meets_grown p t inside h later (outcome.Throw o) grown meets = object_grown p h later o (ty.Class (number_of class.Throwable)) grown meets
meets_grown p t inside h later _ grown meets = meets

-- a list of statements that are well typed, in the two ways of saying so
all_typed : (p : Program) (s : Scope) (ss : List Stmt) (inside : Bool) → IsTrue (all_of (map (is_typed_stmt p s) ss) inside) → IsTrue (list_all (λ x. is_typed_stmt p s x inside) ss)
all_typed p s [] inside all = refl
all_typed p s (x ∷ xs) inside all = and_from (is_typed_stmt p s x inside) (list_all (λ x. is_typed_stmt p s x inside) xs) (first_so (is_typed_stmt p s x inside) (all_of (map (is_typed_stmt p s) xs) inside) all) (all_typed p s xs inside (second_so (is_typed_stmt p s x inside) (all_of (map (is_typed_stmt p s) xs) inside) all))

pub one_not_zero : ◌≡◌ {A = ℕ} 1 0 → ⊥
one_not_zero is = omega arith

module _ (p : Program) (typed : IsWellTyped p) (part : Parts) (safe : AreSafe p part) (s : Scope) where
  -- what is asked of a statement of this scope
  abbrev Ends : Bool → World → Answer → Type 0
  Ends inside = EndsIn p s (Wanted.StatementEnd s.answer inside)

  of_part_in : (e : Expr) (a : Ty) (wanted : Wanted) (go : Value → Run) (w : World) → type_of p s e ≡ Some a → FitsScope p s w → ((v : Value) (u : World) → FitsScope p s u → Follows p w u → FitsType p u.now v a → EndsIn p s wanted u (go v u)) → EndsIn p s wanted w ((part.expr e >>= go) w)
  of_part_in e a wanted go w is fits next = value_then_in p s wanted a go w (part.expr e w) fits (safe.expr s e a w is fits) next

  tested_part_in : (e : Expr) (test : Ty → Bool) (wanted : Wanted) (go : Value → Run) (w : World) → IsTrue (has test (type_of p s e)) → FitsScope p s w → ((a : Ty) (v : Value) (u : World) → IsTrue (test a) → FitsScope p s u → Follows p w u → FitsType p u.now v a → EndsIn p s wanted u (go v u)) → EndsIn p s wanted w ((part.expr e >>= go) w)
  tested_part_in e test wanted go w passes fits next =
      found_passes test (type_of p s e) {Q = EndsIn p s wanted w ((part.expr e >>= go) w)} passes (λ a is test_a. of_part_in e a wanted go w is fits (λ v u fits_u on of_type. next a v u test_a fits_u on of_type))

  -- a value that can be assigned to a type is of that type
  assigned : (h : Heap) (v : Value) (a t : Ty) → FitsType p h v a → IsTrue (is_assignable p.classes a t) → FitsType p h v t
  assigned h v a t of_type below = fits_on p h v a t (programs.have_lines p typed) (programs.is_top p typed) of_type below

  -- a trap in a statement
  trapped : (inside : Bool) (w : World) → FitsScope p s w → (c : BuiltIn) → IsTrue (not (number_of c == 0)) → Ends inside w (trap p c w)
  trapped inside w fits c below = in_scope p s (Wanted.StatementEnd s.answer inside) w (trap p c w) fits (trap_ends p typed (Wanted.StatementEnd s.answer inside) c w below fits.world)

  -- goes on by a condition
  condition_in : (inside : Bool) (e : Expr) (first second : Run) (w : World) → IsTrue (is_condition p s e) → FitsScope p s w → ((u : World) → FitsScope p s u → Ends inside u (first u)) → ((u : World) → FitsScope p s u → Ends inside u (second u)) → Ends inside w ((part.expr e >>= (λ x. choose x first second)) w)
  condition_in inside e first second w passes fits true_ends false_ends =
      tested_part_in e is_boolean (Wanted.StatementEnd s.answer inside) (λ x. choose x first second) w passes fits (λ a v u boolean fits_u on of_type.
      choose_by p (Ends inside u) v first second u (subst (FitsType p u.now v) (boolean_type a boolean) of_type) (true_ends u fits_u) (false_ends u fits_u))

  statement : (inside : Bool) (w : World) (a : Answer) → EndsIn p s Wanted.NormalEnd w a → Ends inside w a
  statement inside w a ends = normal_is_statement p s s.answer inside w a ends

  written_in : (inside : Bool) (place : Place) (t : Ty) (v : Value) (w : World) → FitsScope p s w → FitsPlace p typed s w.now place t → FitsType p w.now v t → Ends inside w (write_place p place v w)
  written_in inside place t v w fits is of_type = statement inside w (write_place p place v w) (write_place_in p typed s place t v w fits is of_type)

  -- ---- declarations

  declared : (inside : Bool) (at : ℕ) (t : Ty) (v : Value) (w : World) → IsTrue (has (is_same_type t) (slice_get s.locals at)) → FitsScope p s w → FitsType p w.now v t → Ends inside w (write_local at v w)
  declared inside at t v w passes fits of_type =
      found_passes (is_same_type t) (slice_get s.locals at) {Q = Ends inside w (write_local at v w)} passes (λ r is same.
      statement inside w (write_local at v w) (write_local_in p s at r v w fits is (subst (FitsType p w.now v) (same_type t r same) of_type)))

  declare_in : (inside : Bool) (at : ℕ) (t : Ty) (e : Option Expr) (w : World) → IsTrue (has (is_same_type t) (slice_get s.locals at) && if_there p s (fits_part p t) e) → FitsScope p s w → Ends inside w (stmt_node p part (Stmt-F.Declare at t e) w)
  declare_in inside at t None w passes fits = declared inside at t (default_of t) w (first_so (has (is_same_type t) (slice_get s.locals at)) true passes) fits (default_fits p w.now t)
  declare_in inside at t (Some e) w passes fits =
      tested_part_in e (λ from. is_assignable p.classes from t) (Wanted.StatementEnd s.answer inside) (write_local at) w (second_so (has (is_same_type t) (slice_get s.locals at)) (fits_part p t (type_of p s e)) passes) fits (λ a v u below fits_u on of_type.
      declared inside at t v u (first_so (has (is_same_type t) (slice_get s.locals at)) (fits_part p t (type_of p s e)) passes) fits_u (assigned u.now v a t of_type below))

  -- ---- assignments

  assign_in : (inside : Bool) (to : Target) (e : Expr) (t : Ty) (w : World) → target_type p s to ≡ Some t → IsTrue (fits_part p t (type_of p s e)) → FitsScope p s w → Ends inside w (assign p part to e w)
  assign_in inside (target.Local at) e t w is passes fits =
      tested_part_in e (λ from. is_assignable p.classes from t) (Wanted.StatementEnd s.answer inside) (write_local at) w passes fits (λ a v u below fits_u on of_type.
      written_in inside (location.Local at) t v u fits_u is (assigned u.now v a t of_type below))
  assign_in inside (target.Field e at) f t w is passes fits =
      option_and_then_some (λ c. field_type p c at) (option_and_then class_of (type_of p s e)) t is (λ c is_c of_field.
      option_and_then_some class_of (type_of p s e) c is_c (λ a is_a is_class.
      of_part_in e a (Wanted.StatementEnd s.answer inside) (λ o. part.expr f >>= (λ v. with_field p o at (λ place. write_place p place v))) w is_a fits (λ o u fits_u on of_type.
      tested_part_in f (λ from. is_assignable p.classes from t) (Wanted.StatementEnd s.answer inside) (λ v. with_field p o at (λ place. write_place p place v)) u passes fits_u (λ b v x below fits_x further of_value.
      with_field_by p typed (Ends inside x) c at t o (λ place. write_place p place v) x fits_x.world (subst (FitsType p x.now o) (class_type a c is_class) (fits_grown p u.now x.now o a further.grown of_type)) (programs.field_type-types p typed c at t of_field)
      (trapped inside x fits_x class.NullPointerException refl) (λ k cell. written_in inside (location.Cell k at) t v x fits_x cell (assigned x.now v b t of_value below))))))
  assign_in inside (target.Element e i) f t w is passes fits = indexed (has is_int (type_of p s i)) refl is
    where
      indexed : (int : Bool) → has is_int (type_of p s i) ≡ int → (if int then option_and_then elements_of (type_of p s e) else None) ≡ Some t → Ends inside w (assign p part (target.Element e i) f w)
      indexed false int_index is = absurd (none-some t is)
      indexed true int_index is =
          option_and_then_some elements_of (type_of p s e) t is (λ a is_a is_array.
          of_part_in e a (Wanted.StatementEnd s.answer inside) (λ x. part.expr i >>= (λ y. part.expr f >>= (λ v. with_element p x y (λ place. write_place p place v)))) w is_a fits (λ o u fits_u on of_type.
          tested_part_in i is_int (Wanted.StatementEnd s.answer inside) (λ y. part.expr f >>= (λ v. with_element p o y (λ place. write_place p place v))) u int_index fits_u (λ b n x int fits_x further of_int.
          tested_part_in f (λ from. is_assignable p.classes from t) (Wanted.StatementEnd s.answer inside) (λ v. with_element p o n (λ place. write_place p place v)) x passes fits_x (λ c v y below fits_y last of_value.
          with_element_by p typed (Ends inside y) t o n (λ place. write_place p place v) y fits_y.world
          (subst (FitsType p y.now o) (array_type a t is_array) (fits_grown p u.now y.now o a (grown_trans u.now x.now y.now further.grown last.grown) of_type))
          (subst (FitsType p y.now n) (int_type b int) (fits_grown p x.now y.now n b last.grown of_int))
          (trapped inside y fits_y class.NullPointerException refl) (trapped inside y fits_y class.ArrayIndexOutOfBoundsException refl)
          (λ k at cell. written_in inside (location.Cell k at) t v y fits_y cell (assigned y.now v c t of_value below))))))

  -- ---- compound assignments

  both_some : (test other : Ty → Bool) (x y : PartType) {Q : Type 0} → IsTrue (has test x && has other y) → ((a b : Ty) → x ≡ Some a → y ≡ Some b → Q) → Q
  both_some test other x y {Q = Q} passes next =
      found_passes test x {Q = Q} (first_so (has test x) (has other y) passes) (λ a is_a test_a. found_passes other y {Q = Q} (second_so (has test x) (has other y) passes) (λ b is_b test_b. next a b is_a is_b))

  either_some : (x y : PartType) {Q : Type 0} → IsTrue (ints x y || booleans x y) → ((a b : Ty) → x ≡ Some a → y ≡ Some b → Q) → Q
  either_some x y {Q = Q} passes next = ⊎_elim (λ both. both_some is_int is_int x y {Q = Q} both next) (λ both. both_some is_boolean is_boolean x y {Q = Q} both next) (or_cases (ints x y) (booleans x y) passes)

  update_parts : (op : UpOp) (x y : PartType) {Q : Type 0} → IsTrue (is_update op x y) → ((a b : Ty) → x ≡ Some a → y ≡ Some b → Q) → Q
  update_parts update.BitAnd x y {Q = Q} passes next = either_some x y {Q = Q} passes next
  update_parts update.BitOr x y {Q = Q} passes next = either_some x y {Q = Q} passes next
  update_parts update.BitXor x y {Q = Q} passes next = either_some x y {Q = Q} passes next
  update_parts update.Concat x y {Q = Q} passes next = both_some is_string (λ b. has_text (Some b)) x y {Q = Q} passes next
  update_parts _ x y {Q = Q} passes next = both_some is_int is_int x y {Q = Q} passes next

  operand_ends : (e : Option Expr) (b : Ty) (w : World) → operand_type p s e ≡ Some b → FitsScope p s w → EndsAs p (Wanted.ValueOf b) w (operand p part e w)
  operand_ends None b w is fits = gives_ends p (Wanted.ValueOf b) w (outcome.Value (value.Int (pos 1))) fits.world (subst (FitsType p w.now (value.Int (pos 1))) (same_Some ty.Int b is) is_int-Int)
  operand_ends (Some e) b w is fits = safe.expr s e b w is fits

  update_place_in : (inside : Bool) (op : UpOp) (e : Option Expr) (place : Place) (a b : Ty) (w : World) → IsTrue (is_update op (Some a) (Some b)) → operand_type p s e ≡ Some b → FitsScope p s w → FitsPlace p typed s w.now place a → Ends inside w (update_place p part op e place w)
  update_place_in inside op e place a b w passes is_b fits is_place =
      let wanted = Wanted.StatementEnd s.answer inside in
      value_then_in p s wanted a (λ x. operand p part e >>= (λ y. computed p (update_value op x y) >>= (λ v. write_place p place v))) w (read_place place w) fits (read_place_ends p typed s place a w fits is_place) (λ x u fits_u on of_x.
      value_then_in p s wanted b (λ y. computed p (update_value op x y) >>= (λ v. write_place p place v)) u (operand p part e u) fits_u (operand_ends e b u is_b fits_u) (λ y z fits_z further of_y.
      value_then_in p s wanted a (write_place p place) z (computed p (update_value op x y) z) fits_z
      (computed_ends p typed a (update_value op x y) z fits_z.world (update_computes p typed z.now op x y a b passes (fits_grown p u.now z.now x a further.grown of_x) of_y)) (λ v n fits_n last of_v.
      written_in inside place a v n fits_n (place_grown p typed s w.now n.now place a (grown_trans w.now u.now n.now on.grown (grown_trans u.now z.now n.now further.grown last.grown)) is_place) of_v)))

  with_target_in : (inside : Bool) (to : Target) (t : Ty) (go : Place → Run) (w : World) → target_type p s to ≡ Some t → FitsScope p s w → ((place : Place) (u : World) → FitsScope p s u → FitsPlace p typed s u.now place t → Ends inside u (go place u)) → Ends inside w (with_target p part to go w)
  with_target_in inside (target.Local at) t go w is fits next = next (location.Local at) w fits is
  with_target_in inside (target.Field e at) t go w is fits next =
      option_and_then_some (λ c. field_type p c at) (option_and_then class_of (type_of p s e)) t is (λ c is_c of_field.
      option_and_then_some class_of (type_of p s e) c is_c (λ a is_a is_class.
      of_part_in e a (Wanted.StatementEnd s.answer inside) (λ o. with_field p o at go) w is_a fits (λ o u fits_u on of_type.
      with_field_by p typed (Ends inside u) c at t o go u fits_u.world (subst (FitsType p u.now o) (class_type a c is_class) of_type) (programs.field_type-types p typed c at t of_field)
      (trapped inside u fits_u class.NullPointerException refl) (λ k cell. next (location.Cell k at) u fits_u cell))))
  with_target_in inside (target.Element e i) t go w is fits next = indexed (has is_int (type_of p s i)) refl is
    where
      indexed : (int : Bool) → has is_int (type_of p s i) ≡ int → (if int then option_and_then elements_of (type_of p s e) else None) ≡ Some t → Ends inside w (with_target p part (target.Element e i) go w)
      indexed false int_index is = absurd (none-some t is)
      indexed true int_index is =
          option_and_then_some elements_of (type_of p s e) t is (λ a is_a is_array.
          of_part_in e a (Wanted.StatementEnd s.answer inside) (λ x. part.expr i >>= (λ y. with_element p x y go)) w is_a fits (λ o u fits_u on of_type.
          tested_part_in i is_int (Wanted.StatementEnd s.answer inside) (λ y. with_element p o y go) u int_index fits_u (λ b n x int fits_x further of_int.
          with_element_by p typed (Ends inside x) t o n go x fits_x.world
          (subst (FitsType p x.now o) (array_type a t is_array) (fits_grown p u.now x.now o a further.grown of_type)) (subst (FitsType p x.now n) (int_type b int) of_int)
          (trapped inside x fits_x class.NullPointerException refl) (trapped inside x fits_x class.ArrayIndexOutOfBoundsException refl)
          (λ k at cell. next (location.Cell k at) x fits_x cell))))

  update_in : (inside : Bool) (to : Target) (op : UpOp) (e : Option Expr) (w : World) → IsTrue (is_update op (target_type p s to) (operand_type p s e) && (is_some e || is_counting op)) → FitsScope p s w → Ends inside w (stmt_node p part (Stmt-F.Update to op e) w)
  update_in inside to op e w typed_update fits =
      let passes = first_so (is_update op (target_type p s to) (operand_type p s e)) (is_some e || is_counting op) typed_update in
      update_parts op (target_type p s to) (operand_type p s e) {Q = Ends inside w (stmt_node p part (Stmt-F.Update to op e) w)} passes (λ a b is_a is_b.
      with_target_in inside to a (update_place p part op e) w is_a fits (λ place u fits_u is_place.
      update_place_in inside op e place a b u (subst (λ x. IsTrue (is_update op x (Some b))) is_a (subst (λ y. IsTrue (is_update op (target_type p s to) y)) is_b passes)) is_b fits_u is_place))

  -- ---- expressions and prints

  eval_in : (inside : Bool) (e : Expr) (w : World) → IsTrue (is_some (type_of p s e)) → FitsScope p s w → Ends inside w (stmt_node p part (Stmt-F.Eval e) w)
  eval_in inside e w some fits =
      let found = some_of (type_of p s e) some in
      of_part_in e found.0 (Wanted.StatementEnd s.answer inside) (λ v. gives outcome.Normal) w found.1 fits (λ v u fits_u on of_type.
      gives_in p s (Wanted.StatementEnd s.answer inside) u outcome.Normal fits_u tt)

  prints_in : (inside : Bool) (bytes : List ℕ) (w : World) → FitsScope p s w → Ends inside w (prints bytes w)
  prints_in inside bytes w fits = record { world = fits; grown = grown_refl w.now; outcome = tt }

  print_in : (inside line : Bool) (e : Option Expr) (w : World) → IsTrue (if_there p s has_text e && (line || is_some e)) → FitsScope p s w → Ends inside w (stmt_node p part (Stmt-F.Print line e) w)
  print_in inside line None w passes fits = prints_in inside (printed line []) w fits
  print_in inside line (Some e) w passes fits =
      tested_part_in e (λ t. has_text (Some t)) (Wanted.StatementEnd s.answer inside) (print_value line) w (first_so (has_text (type_of p s e)) (line || true) passes) fits (λ a v u printable fits_u on of_type.
      let text = has_a_text p u.now v a printable of_type in
      subst (λ t. Ends inside u (option_map_or (λ t. prints (printed line t)) t (gives outcome.Stuck) u)) (sym text.1) (prints_in inside (printed line text.0) u fits_u))

  -- ---- loops

  after_body_in : (inside : Bool) (loop : Loop) (w : World) (a : Answer) → IsTypedLoop p s inside loop → Ends true w a → Ends inside w (after_body p part loop a)
  after_body_in inside loop w a is ends = cases a.outcome a.world a.out a.kept ends.world ends.grown ends.outcome
    where
      go : Run
      go = block p part loop.updates >> part.loop loop

      goes_on : (u : World) → FitsScope p s u → Ends inside u (go u)
      goes_on u fits = normal_then_in p s (Wanted.StatementEnd s.answer inside) (part.loop loop) u (block p part loop.updates u) (block_in p part safe s inside loop.updates u is.updates fits) (λ x fits_x grown. safe.loop s loop inside x is fits_x)

      on : (u : World) (out : List ℕ) (kept : List KeptCall) (next : Run) → HasGrown w.now u.now → (o : Outcome) → Ends inside u (next u) → Ends inside w (continued (record { outcome = o; world = u; out = out; kept = kept }) next)
      on u out kept next grown o ends = record { world = ends.world; grown = grown_trans w.now u.now (next u).world.now grown ends.grown; outcome = ends.outcome }

      cases : (o : Outcome) (u : World) (out : List ℕ) (kept : List KeptCall) → FitsScope p s u → HasGrown w.now u.now → Meets p (Wanted.StatementEnd s.answer true) u.now o → Ends inside w (after_body p part loop (record { outcome = o; world = u; out = out; kept = kept }))
      cases (outcome.Value v) u out kept fits grown meets = absurd meets
      cases outcome.Normal u out kept fits grown meets = on u out kept go grown outcome.Normal (goes_on u fits)
      cases outcome.Break u out kept fits grown meets = on u out kept (gives outcome.Normal) grown outcome.Break (gives_in p s (Wanted.StatementEnd s.answer inside) u outcome.Normal fits tt)
      cases outcome.Continue u out kept fits grown meets = on u out kept go grown outcome.Continue (goes_on u fits)
      cases outcome.Stuck u out kept fits grown meets = absurd meets
      cases _ u out kept fits grown meets = record { world = fits; grown = grown; outcome = meets }

  pub body_of_in : (inside : Bool) (loop : Loop) (w : World) → IsTypedLoop p s inside loop → FitsScope p s w → Ends inside w (body_of p part loop w)
  body_of_in inside loop w is fits = after_body_in inside loop w (part.stmt loop.body w) is (safe.stmt s loop.body true w is.body fits)

  tested_in : (inside : Bool) (e : Option Expr) (first second : Run) (w : World) → IsTrue (option_map_or (is_condition p s) e true) → FitsScope p s w → ((u : World) → FitsScope p s u → Ends inside u (first u)) → ((u : World) → FitsScope p s u → Ends inside u (second u)) → Ends inside w (tested p part e first second w)
  tested_in inside None first second w passes fits true_ends false_ends = true_ends w fits
  tested_in inside (Some e) first second w passes fits true_ends false_ends = condition_in inside e first second w passes fits true_ends false_ends

  pub turn_in : (inside : Bool) (loop : Loop) (w : World) → IsTypedLoop p s inside loop → FitsScope p s w → Ends inside w (turn p part loop w)
  turn_in inside loop w is fits =
      tested_in inside loop.test (body_of p part loop) (gives outcome.Normal) w is.test fits (λ u fits_u. body_of_in inside loop u is fits_u) (λ u fits_u. gives_in p s (Wanted.StatementEnd s.answer inside) u outcome.Normal fits_u tt)

  -- ---- exceptions

  -- a `catch` that is well typed
  abbrev typed_catch : Catch → InLoop
  typed_catch = fold-Catch InLoop InLoop (typing.stmt_node p s) (catch_node p s)

  abbrev catch_passes : Catch → InLoop
  catch_passes k inside = is_throwable p (out-Catch k).class && (has (is_same_type (ty.Class (out-Catch k).class)) (slice_get s.locals (out-Catch k).slot) && is_typed_stmt p s (out-Catch k).body inside)

  catch_opens : (k : Catch) → typed_catch k ≡ catch_passes k
  unfolding is_typed_stmt
  catch_opens k = fold_out-Catch InLoop InLoop (typing.stmt_node p s) (catch_node p s) k

  handled_in : (inside : Bool) (o d : ℕ) (k : Catch) (w : World) → IsTrue (catch_passes k inside) → FitsScope p s w → kind_at w.now o ≡ Some (kind.Instance d) → IsTrue (is_subclass p.classes d (out-Catch k).class) → Ends inside w (handled p part o (Some k) w)
  handled_in inside o d k w passes fits is_kind below =
      let c = (out-Catch k).class in
      let local = has (is_same_type (ty.Class c)) (slice_get s.locals (out-Catch k).slot) in
      let body = is_typed_stmt p s (out-Catch k).body inside in
      let rest = second_so (is_throwable p c) (local && body) passes in
      normal_then_in p s (Wanted.StatementEnd s.answer inside) (part.stmt (out-Catch k).body) w (write_local (out-Catch k).slot (value.Ref o) w)
      (declared inside (out-Catch k).slot (ty.Class c) (value.Ref o) w (first_so local body rest) fits (of_kind p w.now o (ty.Class c) (kind.Instance d) is_kind (to_class p.classes d c below))) (λ u fits_u grown.
      safe.stmt s (out-Catch k).body inside u (second_so local body rest) fits_u)

  handler_in : (inside : Bool) (o d : ℕ) (ks : List Catch) (w : World) → IsTrue (all_of (map typed_catch ks) inside) → FitsScope p s w → kind_at w.now o ≡ Some (kind.Instance d) → IsThrown p w.now o → Ends inside w (handled p part o (handler p ks d) w)
  handler_in inside o d [] w passes fits is_kind thrown = gives_in p s (Wanted.StatementEnd s.answer inside) w (outcome.Throw o) fits thrown
  handler_in inside o d (k ∷ ks) w passes fits is_kind thrown = cases (handler_in inside o d ks w (second_so (typed_catch k inside) (all_of (map typed_catch ks) inside) passes) fits is_kind thrown) (is_subclass p.classes d (out-Catch k).class) refl
    where
      cases : Ends inside w (handled p part o (handler p ks d) w) → (below : Bool) → is_subclass p.classes d (out-Catch k).class ≡ below → Ends inside w (handled p part o (if below then Some k else handler p ks d) w)
      cases others true below = handled_in inside o d k w (subst (λ f. IsTrue (f inside)) (catch_opens k) (first_so (typed_catch k inside) (all_of (map typed_catch ks) inside) passes)) fits is_kind below
      cases others false below = others

  catch_object_in : (inside : Bool) (ks : List Catch) (o : ℕ) (w : World) → IsTrue (all_of (map typed_catch ks) inside) → FitsScope p s w → IsThrown p w.now o → Ends inside w (catch_object p part ks o w)
  catch_object_in inside ks o w passes fits thrown =
      object_cases p w.now o 1 {Q = Ends inside w (catch_object p part ks o w)} thrown
      (λ d is_kind below.
      let is_class : class_at w.now o ≡ Some d = ap (option_and_then (λ k. elim k [ kind.Instance c ↦ Some c | kind.Array t ↦ None ])) is_kind in
      subst (λ found. Ends inside w (option_map_or (λ c. handled p part o (handler p ks c) w) found (gives outcome.Stuck w))) (sym is_class) (handler_in inside o d ks w passes fits is_kind thrown))
      (λ f is_kind top. absurd (one_not_zero top))

  catching_in : (inside : Bool) (ks : List Catch) (w : World) (a : Answer) → IsTrue (all_of (map typed_catch ks) inside) → Ends inside w a → Ends inside w (catching p part ks a)
  catching_in inside ks w a passes ends = cases a.outcome a.world a.out a.kept ends.world ends.grown ends.outcome
    where
      cases : (o : Outcome) (u : World) (out : List ℕ) (kept : List KeptCall) → FitsScope p s u → HasGrown w.now u.now → Meets p (Wanted.StatementEnd s.answer inside) u.now o → Ends inside w (catching p part ks (record { outcome = o; world = u; out = out; kept = kept }))
      cases (outcome.Value v) u out kept fits grown meets = absurd meets
      cases (outcome.Throw o) u out kept fits grown meets =
          let caught = catch_object_in inside ks o u passes fits meets in
          record { world = caught.world; grown = grown_trans w.now u.now (catch_object p part ks o u).world.now grown caught.grown; outcome = caught.outcome }
      cases outcome.Stuck u out kept fits grown meets = absurd meets
      cases _ u out kept fits grown meets = record { world = fits; grown = grown; outcome = meets }

  -- ---- `finally`

  keeping_in : (inside : Bool) (o : Outcome) (w : World) (a : Answer) → Meets p (Wanted.StatementEnd s.answer inside) w.now o → Ends inside w a → Ends inside w (keeping o a)
  keeping_in inside o w a meets ends = cases a.outcome a.world a.out a.kept ends.world ends.grown ends.outcome
    where
      cases : (other : Outcome) (u : World) (out : List ℕ) (kept : List KeptCall) → FitsScope p s u → HasGrown w.now u.now → Meets p (Wanted.StatementEnd s.answer inside) u.now other → Ends inside w (keeping o (record { outcome = other; world = u; out = out; kept = kept }))
      cases (outcome.Value v) u out kept fits grown met = absurd met
      cases outcome.Normal u out kept fits grown met = record { world = fits; grown = grown; outcome = meets_grown p s.answer inside w.now u.now o grown meets }
      cases outcome.Stuck u out kept fits grown met = absurd met
      cases _ u out kept fits grown met = record { world = fits; grown = grown; outcome = met }

  finally_in : (inside : Bool) (run : Run) (w : World) (a : Answer) → ((u : World) → FitsScope p s u → Ends inside u (run u)) → Ends inside w a → Ends inside w (finally run a)
  finally_in inside run w a last ends = cases a.outcome a.world a.out a.kept ends.world ends.grown ends.outcome
    where
      executed : (o : Outcome) (u : World) (out : List ℕ) (kept : List KeptCall) → FitsScope p s u → HasGrown w.now u.now → Meets p (Wanted.StatementEnd s.answer inside) u.now o → Ends inside w (after out kept (keeping o (run u)))
      executed o u out kept fits grown meets =
          let ends = keeping_in inside o u (run u) meets (last u fits) in
          record { world = ends.world; grown = grown_trans w.now u.now (keeping o (run u)).world.now grown ends.grown; outcome = ends.outcome }

      cases : (o : Outcome) (u : World) (out : List ℕ) (kept : List KeptCall) → FitsScope p s u → HasGrown w.now u.now → Meets p (Wanted.StatementEnd s.answer inside) u.now o → Ends inside w (finally run (record { outcome = o; world = u; out = out; kept = kept }))
      cases outcome.Normal u out kept fits grown meets = executed outcome.Normal u out kept fits grown meets
      cases (outcome.Return v) u out kept fits grown meets = executed (outcome.Return v) u out kept fits grown meets
      cases outcome.Break u out kept fits grown meets = executed outcome.Break u out kept fits grown meets
      cases outcome.Continue u out kept fits grown meets = executed outcome.Continue u out kept fits grown meets
      cases (outcome.Throw o) u out kept fits grown meets = executed (outcome.Throw o) u out kept fits grown meets
      cases outcome.Spent u out kept fits grown meets = record { world = fits; grown = grown; outcome = meets }
      cases (outcome.Full what) u out kept fits grown meets = record { world = fits; grown = grown; outcome = meets }
      cases _ u out kept fits grown meets = absurd meets

  finally_if_in : (inside : Bool) (last : Option Stmt) (w : World) (a : Answer) → IsTrue (option_map_or (λ x. is_typed_stmt p s x inside) last true) → Ends inside w a → Ends inside w (finally_if p part last a)
  finally_if_in inside None w a passes ends = ends
  finally_if_in inside (Some x) w a passes ends = finally_in inside (part.stmt x) w a (λ u fits. safe.stmt s x inside u passes fits) ends

  try_in : (inside : Bool) (body : Stmt) (ks : List Catch) (last : Option Stmt) (w : World) → IsTrue (is_typed_stmt p s body inside) → IsTrue (all_of (map typed_catch ks) inside) → IsTrue (option_map_or (λ x. is_typed_stmt p s x inside) last true) → FitsScope p s w → Ends inside w (stmt_node p part (Stmt-F.Try body ks last) w)
  try_in inside body ks last w is_body are_catches is_last fits =
      finally_if_in inside last w (catching p part ks (part.stmt body w)) is_last (catching_in inside ks w (part.stmt body w) are_catches (safe.stmt s body inside w is_body fits))

  -- ---- jumps

  return_in : (inside : Bool) (e : Option Expr) (w : World) → IsTrue (option_map_or (λ it. fits_part p s.answer (type_of p s it)) e (is_same_type s.answer ty.Void)) → FitsScope p s w → Ends inside w (stmt_node p part (Stmt-F.Return e) w)
  return_in inside None w passes fits = gives_in p s (Wanted.StatementEnd s.answer inside) w (outcome.Return None) fits tt
  return_in inside (Some e) w passes fits =
      tested_part_in e (λ from. is_assignable p.classes from s.answer) (Wanted.StatementEnd s.answer inside) (λ v. gives (outcome.Return (Some v))) w passes fits (λ a v u below fits_u on of_type.
      gives_in p s (Wanted.StatementEnd s.answer inside) u (outcome.Return (Some v)) fits_u (assigned u.now v a s.answer of_type below))

  throw_in : (inside : Bool) (e : Expr) (w : World) → IsTrue (fits_part p (ty.Class (number_of class.Throwable)) (type_of p s e)) → FitsScope p s w → Ends inside w (stmt_node p part (Stmt-F.Throw e) w)
  throw_in inside e w passes fits =
      tested_part_in e (λ from. is_assignable p.classes from (ty.Class 1)) (Wanted.StatementEnd s.answer inside) (throw p) w passes fits (λ a v u below fits_u on of_type.
      with_object_by p (Ends inside u) (ty.Class 1) v (λ o. gives (outcome.Throw o)) u (assigned u.now v a (ty.Class 1) of_type below) (is_object_class 1)
      (trapped inside u fits_u class.NullPointerException refl) (λ o thrown. gives_in p s (Wanted.StatementEnd s.answer inside) u (outcome.Throw o) fits_u thrown))

  -- ---- every statement

  -- the typing of a statement from that of its parts
  abbrev TypedLayer : Stmt-F Stmt Catch → Bool → Type 0
  TypedLayer x inside = IsTrue (typing.stmt_node p s (map-Stmt Stmt Catch InLoop InLoop (is_typed_stmt p s) typed_catch x) inside)

  if_in : (inside : Bool) (e : Expr) (x : Stmt) (other : Option Stmt) (w : World) → IsTrue (is_condition p s e) → IsTrue (is_typed_stmt p s x inside) → IsTrue (option_map_or (λ y. is_typed_stmt p s y inside) other true) → FitsScope p s w → Ends inside w (stmt_node p part (Stmt-F.If e x other) w)
  if_in inside e x other w test body rest fits = condition_in inside e (part.stmt x) (option_map_or part.stmt other (gives outcome.Normal)) w test fits (λ u fits_u. safe.stmt s x inside u body fits_u) (otherwise other rest)
    where
      otherwise : (other : Option Stmt) → IsTrue (option_map_or (λ y. is_typed_stmt p s y inside) other true) → (u : World) → FitsScope p s u → Ends inside u (option_map_or part.stmt other (gives outcome.Normal) u)
      otherwise None rest u fits_u = gives_in p s (Wanted.StatementEnd s.answer inside) u outcome.Normal fits_u tt
      otherwise (Some y) rest u fits_u = safe.stmt s y inside u rest fits_u

  for_in : (inside : Bool) (first : List Stmt) (test : Option Expr) (updates : List Stmt) (x : Stmt) (w : World) → IsTrue (all_of (map (is_typed_stmt p s) first) inside) → IsTrue (option_map_or (is_condition p s) test true) → IsTrue (all_of (map (is_typed_stmt p s) updates) inside) → IsTrue (is_typed_stmt p s x true) → FitsScope p s w → Ends inside w (stmt_node p part (Stmt-F.For first test updates x) w)
  for_in inside first test updates x w is_first is_test are_updates is_body fits =
      let loop : Loop = record { test = test; updates = updates; body = x } in
      normal_then_in p s (Wanted.StatementEnd s.answer inside) (turn p part loop) w (block p part first w) (block_in p part safe s inside first w (all_typed p s first inside is_first) fits) (λ u fits_u grown.
      turn_in inside loop u (record { test = is_test; updates = all_typed p s updates inside are_updates; body = is_body }) fits_u)

  pub node_in : (x : Stmt-F Stmt Catch) (inside : Bool) (w : World) → TypedLayer x inside → FitsScope p s w → Ends inside w (stmt_node p part x w)
  node_in Stmt-F.Empty inside w is fits = gives_in p s (Wanted.StatementEnd s.answer inside) w outcome.Normal fits tt
  node_in (Stmt-F.Block ss) inside w is fits = block_in p part safe s inside ss w (all_typed p s ss inside is) fits
  node_in (Stmt-F.Declare at t e) inside w is fits = declare_in inside at t e w is fits
  node_in (Stmt-F.Assign to e) inside w is fits = found_passes (λ t. fits_part p t (type_of p s e)) (target_type p s to) {Q = Ends inside w (assign p part to e w)} is (λ t is_t passes. assign_in inside to e t w is_t passes fits)
  node_in (Stmt-F.Update to op e) inside w is fits = update_in inside to op e w is fits
  node_in (Stmt-F.Eval e) inside w is fits = eval_in inside e w is fits
  node_in (Stmt-F.Print line e) inside w is fits = print_in inside line e w is fits
  node_in (Stmt-F.If e x None) inside w is fits =
      let rest = is_typed_stmt p s x inside && true in
      if_in inside e x None w (first_so (is_condition p s e) rest is) (first_so (is_typed_stmt p s x inside) true (second_so (is_condition p s e) rest is)) refl fits
  node_in (Stmt-F.If e x (Some y)) inside w is fits =
      let rest = is_typed_stmt p s x inside && is_typed_stmt p s y inside in
      if_in inside e x (Some y) w (first_so (is_condition p s e) rest is) (first_so (is_typed_stmt p s x inside) (is_typed_stmt p s y inside) (second_so (is_condition p s e) rest is)) (second_so (is_typed_stmt p s x inside) (is_typed_stmt p s y inside) (second_so (is_condition p s e) rest is)) fits
  node_in (Stmt-F.While e x) inside w is fits =
      turn_in inside (record { test = Some e; updates = []; body = x }) w (record { test = first_so (is_condition p s e) (is_typed_stmt p s x true) is; updates = refl; body = second_so (is_condition p s e) (is_typed_stmt p s x true) is }) fits
  node_in (Stmt-F.DoWhile x e) inside w is fits =
      body_of_in inside (record { test = Some e; updates = []; body = x }) w (record { test = second_so (is_typed_stmt p s x true) (is_condition p s e) is; updates = refl; body = first_so (is_typed_stmt p s x true) (is_condition p s e) is }) fits
  node_in (Stmt-F.For first test updates x) inside w is fits =
      let before = all_of (map (is_typed_stmt p s) first) inside in
      let condition = option_map_or (is_condition p s) test true in
      let after_each = all_of (map (is_typed_stmt p s) updates) inside in
      let body = is_typed_stmt p s x true in
      let rest = second_so before (condition && (after_each && body)) is in
      for_in inside first test updates x w (first_so before (condition && (after_each && body)) is) (first_so condition (after_each && body) rest) (first_so after_each body (second_so condition (after_each && body) rest)) (second_so after_each body (second_so condition (after_each && body) rest)) fits
  node_in (Stmt-F.Return e) inside w is fits = return_in inside e w is fits
  node_in Stmt-F.Break inside w is fits = gives_in p s (Wanted.StatementEnd s.answer inside) w outcome.Break fits is
  node_in Stmt-F.Continue inside w is fits = gives_in p s (Wanted.StatementEnd s.answer inside) w outcome.Continue fits is
  node_in (Stmt-F.Throw e) inside w is fits = throw_in inside e w is fits
  node_in (Stmt-F.Try body ks None) inside w is fits =
      let catches = all_of (map typed_catch ks) inside in
      let rest = second_so (is_typed_stmt p s body inside) (catches && true) is in
      try_in inside body ks None w (first_so (is_typed_stmt p s body inside) (catches && true) is) (first_so catches true rest) refl fits
  node_in (Stmt-F.Try body ks (Some x)) inside w is fits =
      let catches = all_of (map typed_catch ks) inside in
      let last = is_typed_stmt p s x inside in
      let rest = second_so (is_typed_stmt p s body inside) (catches && last) is in
      try_in inside body ks (Some x) w (first_so (is_typed_stmt p s body inside) (catches && last) is) (first_so catches last rest) (second_so catches last rest) fits

  pub stmt_in : (x : Stmt) (inside : Bool) (w : World) → IsTrue (is_typed_stmt p s x inside) → FitsScope p s w → Ends inside w (stmt_node p part (out-Stmt x) w)
  unfolding is_typed_stmt
  stmt_in x inside w is fits = node_in (out-Stmt x) inside w (subst (λ f. IsTrue (f inside)) (fold_out-Stmt InLoop InLoop (typing.stmt_node p s) (catch_node p s) x) is) fits
