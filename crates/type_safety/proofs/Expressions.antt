-- Each expression of a well-typed program has a value of its type, throws, or ends the run.
use Rattle.std.proofs.Common.{◌≡◌, ◌∙◌, ℕ, zero, suc, Bool, true, false, not, ◌&&◌, ◌||◌, ◌==◌, IsTrue, List, [], length, map, Option, Some, None, option_map, is_some, slice_get, refl, subst, sym, ap, if◌then◌else◌}
use Rattle.std.specs.Prelude.{option_and_then}
use Rattle.std.specs.Option.{option_map_or}
use Rattle.std.proofs.lemmas.Option.{none-some, same_Some, option_and_then_some}
use Rattle.std.proofs.lemmas.Bool.{false≢true, or_left, or_right}
use Rattle.std.specs.Cmp.{first_so, second_so}
use Rattle.core_tree.specs.declared.ty.Ty.{Ty}
use Rattle.core_tree.specs.declared.ty.Ty.TheVariants as ty
use Rattle.core_tree.specs.declared.ty.Ty.TheViews as type
use Rattle.core_tree.specs.declared.built_in.BuiltIn.TheVariants as class
use Rattle.core_tree.specs.declared.operator.UnOp.{UnOp}
use Rattle.core_tree.specs.declared.operator.UnOp.TheVariants as unary
use Rattle.core_tree.specs.declared.operator.BinOp.{BinOp}
use Rattle.core_tree.specs.declared.operator.BinOp.TheVariants as binary
use Rattle.core_tree.specs.declared.expr.Expr.{Expr, out-Expr}
use Rattle.core_tree.specs.declared.expr.Expr.TheOpen.{Expr-F}
use Rattle.core_tree.specs.declared.expr.Expr.TheFolds.{fold_out-Expr, map-Expr}
use Rattle.core_tree.specs.declared.program.Maker.{Maker}
use Rattle.core_tree.specs.declared.program.Program.{Program}
use Rattle.core_tree.specs.BuiltIn.{is_built_in}
use Rattle.core_tree.specs.Types.{class_of, elements_of, is_int, is_boolean, is_string, is_null, is_void, is_object, is_subclass, is_assignable, is_value_type}
use Rattle.core_tree.specs.Typing.{Scope, PartType, has, fits as fits_part, all_fit, where_true, is_int_number, is_throwable, field_type, call_type, chosen_type, is_of_superclass, has_text, is_text_or_null, wider, is_castable, unary_type, binary_type, bitwise_type, equality_type, ints, booleans, type_of}
use Rattle.core_tree.specs.Typing as typing
use Rattle.core_tree.specs.WellTyped.{IsWellTyped, is_maker}
use Rattle.heap_arena.specs.declared.cell.Cell.TheVariants as value
use Rattle.heap_arena.specs.declared.kind.Kind.TheVariants as kind
use Rattle.heap_arena.specs.Heap.{Heap, Value, kind_at}
use Rattle.evaluation.specs.declared.outcome.Outcome.{Outcome}
use Rattle.evaluation.specs.declared.outcome.Outcome.TheVariants as outcome
use Rattle.evaluation.specs.World.{World, Answer, Run, gives, ◌>>=◌, ◌>>◌}
use Rattle.evaluation.specs.Values.{literal, unary_value, binary_value, concatenated, text_length, text_equals}
use Rattle.evaluation.specs.Objects.{make_instance, computed, read_local, read_place, write_cell, with_field, with_element, array_length, new_array, cast, is_instance, message_place}
use Rattle.evaluation.specs.Calls.{Parts, arguments, dispatch, construct}
use Rattle.evaluation.specs.Evaluate.{this_value, choose, new_object, new_built_in, expr_node}
use Rattle.type_safety.specs.Fits.{FitsType, FitsWorld, FitsScope, FitsThis, has_null, types_of_fields}
use Rattle.type_safety.specs.Ends.{Wanted, Meets, Follows, EndsAs, AreSafe}
use Rattle.core_tree.proofs.TypeFacts.{found_passes, class_type, array_type, int_type, boolean_type, is_boolean-Bool, is_int-Int, is_null-Null}
use Rattle.type_safety.proofs.Assignable.{to_class, text_to}
use Rattle.type_safety.proofs.Lines.{is_subclass_refl}
use Rattle.type_safety.proofs.Values.{fits_grown, fits_on, of_kind, kind_grown}
use Rattle.type_safety.proofs.Parts.{scope_on, gives_ends, value_then_ends, normal_then_ends}
use Rattle.type_safety.proofs.Programs as programs
use Rattle.type_safety.proofs.Methods as methods
use Rattle.type_safety.proofs.BuiltIns as built_ins
use Rattle.type_safety.proofs.Making.{make_instance_ends, trap_ends, computed_ends}
use Rattle.type_safety.proofs.Places.{read_local_ends, read_cell_ends}
use Rattle.type_safety.proofs.Objects.{with_field_by, with_element_by, array_length_ends, new_array_ends, cast_ends, is_instance_ends, choose_by}
use Rattle.type_safety.proofs.Computing.{where_some, literal_computes, text_length_computes, text_equals_computes, unary_computes, binary_computes, concatenated_computes}
use Rattle.type_safety.proofs.Calls.{arguments_ends, static_ends, chosen_ends, super_ends}
use Rattle.type_safety.proofs.Constructors.{field_written, construct_ends}
use Rattle.type_safety.proofs.Lists.{some_of}

module _ (p : Program) (typed : IsWellTyped p) (part : Parts) (safe : AreSafe p part) (s : Scope) where
  -- goes on with the value of a part
  of_part : (e : Expr) (a : Ty) (wanted : Wanted) (go : Value → Run) (w : World) → type_of p s e ≡ Some a → FitsScope p s w → ((v : Value) (u : World) → FitsScope p s u → Follows p w u → FitsType p u.now v a → EndsAs p wanted u (go v u)) → EndsAs p wanted w ((part.expr e >>= go) w)
  of_part e a wanted go w is fits next = value_then_ends p wanted a go w (part.expr e w) (safe.expr s e a w is fits) (λ v u on of_type. next v u (scope_on p s w u fits on) on of_type)

  -- goes on with the value of a part of a type that passes a test
  tested_part : (e : Expr) (test : Ty → Bool) (wanted : Wanted) (go : Value → Run) (w : World) → IsTrue (has test (type_of p s e)) → FitsScope p s w → ((a : Ty) (v : Value) (u : World) → IsTrue (test a) → FitsScope p s u → Follows p w u → FitsType p u.now v a → EndsAs p wanted u (go v u)) → EndsAs p wanted w ((part.expr e >>= go) w)
  tested_part e test wanted go w passes fits next =
      found_passes test (type_of p s e) {Q = EndsAs p wanted w ((part.expr e >>= go) w)} passes (λ a is test_a. of_part e a wanted go w is fits (λ v u fits_u on of_type. next a v u test_a fits_u on of_type))

  -- a value of a type is of each type that this can be assigned to
  ends_on : (a t : Ty) (w : World) (x : Answer) → IsTrue (is_assignable p.classes a t) → EndsAs p (Wanted.ValueOf a) w x → EndsAs p (Wanted.ValueOf t) w x
  ends_on a t w x below ends = record { world = ends.world; outcome = cases x.outcome ends.outcome }
    where
      cases : (o : Outcome) → Meets p (Wanted.ValueOf a) x.world.now o → Meets p (Wanted.ValueOf t) x.world.now o
      cases (outcome.Value v) meets = fits_on p x.world.now v a t (programs.have_lines p typed) (programs.is_top p typed) meets below
      cases _ meets = meets

  -- the type of a node from the types of its parts
  abbrev TypedLayer : Expr-F Expr → Ty → Type 0
  TypedLayer x t = typing.expr_node p s (map-Expr Expr PartType (type_of p s) x) ≡ Some t

  -- a part that is a boolean
  boolean_part : (e : Expr) (w : World) → IsTrue (has is_boolean (type_of p s e)) → FitsScope p s w → EndsAs p (Wanted.ValueOf ty.Bool) w (part.expr e w)
  boolean_part e w passes fits =
      found_passes is_boolean (type_of p s e) {Q = EndsAs p (Wanted.ValueOf ty.Bool) w (part.expr e w)} passes (λ a is boolean. subst (λ r. EndsAs p (Wanted.ValueOf r) w (part.expr e w)) (boolean_type a boolean) (safe.expr s e a w is fits))

  -- what a cast's typing says
  cast_to : (to from : Ty) → IsTrue (is_castable p to from) → IsTrue (is_object to)
  cast_to to from castable = search (first_so, second_so)

  cast_from : (to from : Ty) → IsTrue (is_castable p to from) → IsTrue (is_object from || is_null from)
  cast_from to from castable = search (first_so, second_so)

  null_of_object : (t : Ty) → IsTrue (is_object t) → IsTrue (has_null t)
  null_of_object t is = or_right (is_null t) (is_string t || (is_object t || is_void t)) (or_right (is_string t) (is_object t || is_void t) (or_left (is_object t) (is_void t) is))

  this_type : (this : Option ℕ) (t : Ty) → option_map ty.Class this ≡ Some t → option_map_or (λ k. Some (ty.Class k)) this None ≡ Some t
  this_type None t is = is
  this_type (Some c) t is = is

  -- ---- nodes

  this_ends : (this c : Option ℕ) (t : Ty) (w : World) → FitsWorld p w → FitsThis p w.now c this → option_map_or (λ k. Some (ty.Class k)) c None ≡ Some t → EndsAs p (Wanted.ValueOf t) w (this_value this w)
  this_ends this None t w fits fits_this is = absurd (none-some t is)
  this_ends None (Some k) t w fits fits_this is = absurd fits_this
  this_ends (Some o) (Some k) t w fits fits_this is = gives_ends p (Wanted.ValueOf t) w (outcome.Value (value.Ref o)) fits (subst (λ r. FitsType p w.now (value.Ref o) r) (same_Some _ _ is) fits_this)

  field_node_ends : (e : Expr) (at : ℕ) (t : Ty) (w : World) → TypedLayer (Expr-F.Field e at) t → FitsScope p s w → EndsAs p (Wanted.ValueOf t) w (expr_node p part (Expr-F.Field e at) w)
  field_node_ends e at t w is fits =
      option_and_then_some (λ c. field_type p c at) (option_and_then class_of (type_of p s e)) t is (λ c is_c of_field.
      option_and_then_some class_of (type_of p s e) c is_c (λ a is_a is_class.
      of_part e a (Wanted.ValueOf t) (λ o. with_field p o at read_place) w is_a fits (λ v u fits_u on of_type.
      with_field_by p typed (EndsAs p (Wanted.ValueOf t) u) c at t v read_place u fits_u.world (subst (FitsType p u.now v) (class_type a c is_class) of_type) (programs.field_type-types p typed c at t of_field)
      (trap_ends p typed (Wanted.ValueOf t) class.NullPointerException u refl fits_u.world) (λ o cell. read_cell_ends p typed o at t u fits_u.world cell))))

  message_node_ends : (e : Expr) (t : Ty) (w : World) → TypedLayer (Expr-F.Message e) t → FitsScope p s w → EndsAs p (Wanted.ValueOf t) w (expr_node p part (Expr-F.Message e) w)
  message_node_ends e t w is fits =
      let test = where_some (option_map_or (is_throwable p) (option_and_then class_of (type_of p s e)) false) ty.Text t is in
      subst (λ r. EndsAs p (Wanted.ValueOf r) w (expr_node p part (Expr-F.Message e) w)) test.1
      (found_passes (is_throwable p) (option_and_then class_of (type_of p s e)) {Q = EndsAs p (Wanted.ValueOf ty.Text) w (expr_node p part (Expr-F.Message e) w)} test.0 (λ c is_c throwable.
      option_and_then_some class_of (type_of p s e) c is_c (λ a is_a is_class.
      of_part e a (Wanted.ValueOf ty.Text) (λ o. with_field p o message_place read_place) w is_a fits (λ v u fits_u on of_type.
      with_field_by p typed (EndsAs p (Wanted.ValueOf ty.Text) u) c message_place ty.Text v read_place u fits_u.world (subst (FitsType p u.now v) (class_type a c is_class) of_type) (built_ins.message_field_below p typed c throwable)
      (trap_ends p typed (Wanted.ValueOf ty.Text) class.NullPointerException u refl fits_u.world) (λ o cell. read_cell_ends p typed o message_place ty.Text u fits_u.world cell)))))

  length_node_ends : (e : Expr) (t : Ty) (w : World) → TypedLayer (Expr-F.Length e) t → FitsScope p s w → EndsAs p (Wanted.ValueOf t) w (expr_node p part (Expr-F.Length e) w)
  length_node_ends e t w is fits =
      option_and_then_some (λ f. Some ty.Int) (option_and_then elements_of (type_of p s e)) t is (λ f is_f is_int.
      option_and_then_some elements_of (type_of p s e) f is_f (λ a is_a is_array.
      subst (λ r. EndsAs p (Wanted.ValueOf r) w (expr_node p part (Expr-F.Length e) w)) (same_Some _ _ is_int)
      (of_part e a (Wanted.ValueOf ty.Int) (array_length p) w is_a fits (λ v u fits_u on of_type. array_length_ends p typed f v u fits_u.world (subst (FitsType p u.now v) (array_type a f is_array) of_type)))))

  element_node_ends : (e i : Expr) (t : Ty) (w : World) → TypedLayer (Expr-F.Element e i) t → FitsScope p s w → EndsAs p (Wanted.ValueOf t) w (expr_node p part (Expr-F.Element e i) w)
  element_node_ends e i t w is fits = cases (has is_int (type_of p s i)) refl is
    where
      cases : (int : Bool) → has is_int (type_of p s i) ≡ int → (if int then option_and_then elements_of (type_of p s e) else None) ≡ Some t → EndsAs p (Wanted.ValueOf t) w (expr_node p part (Expr-F.Element e i) w)
      cases false int_index is = absurd (none-some t is)
      cases true int_index is =
          option_and_then_some elements_of (type_of p s e) t is (λ a is_a is_array.
          of_part e a (Wanted.ValueOf t) (λ x. part.expr i >>= (λ y. with_element p x y read_place)) w is_a fits (λ v u fits_u on of_type.
          tested_part i is_int (Wanted.ValueOf t) (λ y. with_element p v y read_place) u int_index fits_u (λ b y x int fits_x further of_int.
          with_element_by p typed (EndsAs p (Wanted.ValueOf t) x) t v y read_place x fits_x.world (subst (FitsType p x.now v) (array_type a t is_array) (fits_grown p u.now x.now v a further.grown of_type)) (subst (FitsType p x.now y) (int_type b int) of_int)
          (trap_ends p typed (Wanted.ValueOf t) class.NullPointerException x refl fits_x.world) (trap_ends p typed (Wanted.ValueOf t) class.ArrayIndexOutOfBoundsException x refl fits_x.world) (λ o at cell. read_cell_ends p typed o at t x fits_x.world cell))))

  text_length_node_ends : (e : Expr) (t : Ty) (w : World) → TypedLayer (Expr-F.TextLength e) t → FitsScope p s w → EndsAs p (Wanted.ValueOf t) w (expr_node p part (Expr-F.TextLength e) w)
  text_length_node_ends e t w is fits =
      let test = where_some (has is_text_or_null (type_of p s e)) ty.Int t is in
      subst (λ r. EndsAs p (Wanted.ValueOf r) w (expr_node p part (Expr-F.TextLength e) w)) test.1
      (tested_part e is_text_or_null (Wanted.ValueOf ty.Int) (λ v. computed p (text_length v)) w test.0 fits (λ a v u string fits_u on of_type.
      computed_ends p typed ty.Int (text_length v) u fits_u.world (text_length_computes p u.now v (fits_on p u.now v a ty.Text (programs.have_lines p typed) (programs.is_top p typed) of_type (text_to p.classes a string)))))

  text_equals_node_ends : (e f : Expr) (t : Ty) (w : World) → TypedLayer (Expr-F.TextEquals e f) t → FitsScope p s w → EndsAs p (Wanted.ValueOf t) w (expr_node p part (Expr-F.TextEquals e f) w)
  text_equals_node_ends e f t w is fits =
      let test = where_some (has is_text_or_null (type_of p s e) && fits_part p ty.Text (type_of p s f)) ty.Bool t is in
      subst (λ r. EndsAs p (Wanted.ValueOf r) w (expr_node p part (Expr-F.TextEquals e f) w)) test.1
      (tested_part e is_text_or_null (Wanted.ValueOf ty.Bool) (λ x. part.expr f >>= (λ y. computed p (text_equals x y))) w (first_so (has is_text_or_null (type_of p s e)) (fits_part p ty.Text (type_of p s f)) test.0) fits (λ a v u string fits_u on of_type.
      tested_part f (λ from. is_assignable p.classes from ty.Text) (Wanted.ValueOf ty.Bool) (λ y. computed p (text_equals v y)) u (second_so (has is_text_or_null (type_of p s e)) (fits_part p ty.Text (type_of p s f)) test.0) fits_u (λ b y x below fits_x further of_other.
      computed_ends p typed ty.Bool (text_equals v y) x fits_x.world (text_equals_computes p x.now v y
      (fits_on p x.now v a ty.Text (programs.have_lines p typed) (programs.is_top p typed) (fits_grown p u.now x.now v a further.grown of_type) (text_to p.classes a string)) (fits_on p x.now y b ty.Text (programs.have_lines p typed) (programs.is_top p typed) of_other below)))))

  -- ---- new objects

  of_class : (h : Heap) (o c : ℕ) → kind_at h o ≡ Some (kind.Instance c) → IsTrue (is_subclass p.classes c c) → FitsType p h (value.Ref o) (ty.Class c)
  of_class h o c is below = of_kind p h o (ty.Class c) (kind.Instance c) is (to_class p.classes c c below)

  maker_class : (maker : Maker) → IsTrue (is_maker p maker) → IsTrue (is_some (slice_get p.classes maker.owner))
  maker_class maker passes = search (first_so, second_so)

  new_made : (k : ℕ) (es : List Expr) (maker : Maker) (w : World) → slice_get p.makers k ≡ Some maker → IsTrue (all_fit p maker.params (map (type_of p s) es)) → FitsScope p s w →
      EndsAs p (Wanted.ValueOf (ty.Class maker.owner)) w (make_instance p maker.owner (λ o. arguments p part es [] (λ args. construct p part (length p.classes) k o args >> gives (outcome.Value (value.Ref o)))) w)
  new_made k es maker w is_maker all fits =
      let wanted = Wanted.ValueOf (ty.Class maker.owner) in
      let there = some_of (slice_get p.classes maker.owner) (maker_class maker (methods.maker_passes p typed k maker is_maker)) in
      let line = programs.have_lines p typed maker.owner there.0 there.1 in
      let itself = is_subclass_refl p.classes maker.owner line in
      make_instance_ends p wanted maker.owner there.0 (λ o. arguments p part es [] (λ args. construct p part (length p.classes) k o args >> gives (outcome.Value (value.Ref o)))) w there.1 fits.world (λ o u on is_kind.
      arguments_ends p typed part safe wanted s es maker.params [] [] (λ args. construct p part (length p.classes) k o args >> gives (outcome.Value (value.Ref o))) u all (scope_on p s w u fits on) tt (λ args x further fit_args.
      let later = kind_grown u.now x.now o (kind.Instance maker.owner) further.grown is_kind in
      normal_then_ends p wanted (gives (outcome.Value (value.Ref o))) x (construct p part (length p.classes) k o args x)
      (construct_ends p typed part safe (length p.classes) k maker o maker.owner args line.0 x is_maker line.1 later itself further.world fit_args) (λ y last.
      gives_ends p wanted y (outcome.Value (value.Ref o)) last.world (of_class y.now o maker.owner (kind_grown x.now y.now o (kind.Instance maker.owner) last.grown later) itself))))

  new_node_ends : (k : ℕ) (es : List Expr) (t : Ty) (w : World) → TypedLayer (Expr-F.New k es) t → FitsScope p s w → EndsAs p (Wanted.ValueOf t) w (expr_node p part (Expr-F.New k es) w)
  new_node_ends k es t w is fits =
      option_and_then_some (λ maker. where_true (all_fit p maker.params (map (type_of p s) es)) (ty.Class maker.owner)) (slice_get p.makers k) t is (λ maker is_maker true_type.
      let test = where_some (all_fit p maker.params (map (type_of p s) es)) (ty.Class maker.owner) t true_type in
      subst (λ r. EndsAs p (Wanted.ValueOf r) w (new_object p part k es w)) test.1
      (subst (λ found. EndsAs p (Wanted.ValueOf (ty.Class maker.owner)) w (option_map_or (λ maker.
      make_instance p maker.owner (λ o. arguments p part es [] (λ args. construct p part (length p.classes) k o args >> gives (outcome.Value (value.Ref o))))) found (gives outcome.Stuck) w)) (sym is_maker)
      (new_made k es maker w is_maker test.0 fits)))

  -- the message of a new object of a built-in class
  message_ends : (o c : ℕ) (message : Option Expr) (w : World) → IsTrue (is_built_in c) → IsTrue (option_map_or (λ e. not (c == 0) && fits_part p ty.Text (type_of p s e)) message true) → FitsScope p s w → kind_at w.now o ≡ Some (kind.Instance c) →
      EndsAs p Wanted.NormalEnd w (option_map_or (λ e. part.expr e >>= (λ v. write_cell o message_place v)) message (gives outcome.Normal) w)
  message_ends o c None w built_in passes fits is_kind = gives_ends p Wanted.NormalEnd w outcome.Normal fits.world tt
  message_ends o c (Some e) w built_in passes fits is_kind =
      field_written p typed part safe s o c message_place e ty.Text w fits (second_so (not (c == 0)) (fits_part p ty.Text (type_of p s e)) passes) is_kind (placed c built_in (first_so (not (c == 0)) (fits_part p ty.Text (type_of p s e)) passes))
    where
      placed : (c : ℕ) → IsTrue (is_built_in c) → IsTrue (not (c == 0)) → slice_get (types_of_fields p c) message_place ≡ Some ty.Text
      placed zero built_in no_object = absurd (false≢true no_object)
      placed (suc c) built_in no_object = built_ins.message_at p typed c built_in

  built_in_ends : (c : ℕ) (message : Option Expr) (t : Ty) (w : World) → where_true (is_built_in c && option_map_or (λ e. not (c == 0) && fits_part p ty.Text (type_of p s e)) message true) (ty.Class c) ≡ Some t → FitsScope p s w → EndsAs p (Wanted.ValueOf t) w (new_built_in p part c message w)
  built_in_ends c message t w is fits =
      let passes = option_map_or (λ e. not (c == 0) && fits_part p ty.Text (type_of p s e)) message true in
      let test = where_some (is_built_in c && passes) (ty.Class c) t is in
      let built_in = first_so (is_built_in c) passes test.0 in
      let there = built_ins.built_in_there p typed c built_in in
      let itself = is_subclass_refl p.classes c (programs.have_lines p typed c there.0 there.1) in
      subst (λ r. EndsAs p (Wanted.ValueOf r) w (new_built_in p part c message w)) test.1
      (make_instance_ends p (Wanted.ValueOf (ty.Class c)) c there.0 (λ o. option_map_or (λ e. part.expr e >>= (λ v. write_cell o message_place v)) message (gives outcome.Normal) >> gives (outcome.Value (value.Ref o))) w there.1 fits.world (λ o u on is_kind.
      normal_then_ends p (Wanted.ValueOf (ty.Class c)) (gives (outcome.Value (value.Ref o))) u (option_map_or (λ e. part.expr e >>= (λ v. write_cell o message_place v)) message (gives outcome.Normal) u)
      (message_ends o c message u built_in (second_so (is_built_in c) passes test.0) (scope_on p s w u fits on) is_kind) (λ x further.
      gives_ends p (Wanted.ValueOf (ty.Class c)) x (outcome.Value (value.Ref o)) further.world (of_class x.now o c (kind_grown u.now x.now o (kind.Instance c) further.grown is_kind) itself))))

  new_array_node_ends : (f : Ty) (e : Expr) (t : Ty) (w : World) → TypedLayer (Expr-F.NewArray f e) t → FitsScope p s w → EndsAs p (Wanted.ValueOf t) w (expr_node p part (Expr-F.NewArray f e) w)
  new_array_node_ends f e t w is fits =
      let test = where_some (has is_int (type_of p s e) && is_value_type (length p.classes) f) (type.Array f) t is in
      subst (λ r. EndsAs p (Wanted.ValueOf r) w (expr_node p part (Expr-F.NewArray f e) w)) test.1
      (tested_part e is_int (Wanted.ValueOf (type.Array f)) (new_array p f) w (first_so (has is_int (type_of p s e)) (is_value_type (length p.classes) f) test.0) fits (λ a v u int fits_u on of_type.
      new_array_ends p typed f v u fits_u.world (second_so (has is_int (type_of p s e)) (is_value_type (length p.classes) f) test.0) (subst (FitsType p u.now v) (int_type a int) of_type)))

  -- ---- operators

  part_of_test : (test : Ty → Bool) (x : PartType) {Q : Type 0} → IsTrue (has test x) → ((a : Ty) → x ≡ Some a → Q) → Q
  part_of_test test x {Q = Q} passes next = found_passes test x {Q = Q} passes (λ a is test_a. next a is)

  parts_of_tests : (test : Ty → Bool) (x y : PartType) {Q : Type 0} → IsTrue (has test x && has test y) → ((a b : Ty) → x ≡ Some a → y ≡ Some b → Q) → Q
  parts_of_tests test x y {Q = Q} passes next =
      part_of_test test x {Q = Q} (first_so (has test x) (has test y) passes) (λ a is_a. part_of_test test y {Q = Q} (second_so (has test x) (has test y) passes) (λ b is_b. next a b is_a is_b))

  unary_part : (op : UnOp) (x : PartType) (t : Ty) {Q : Type 0} → unary_type op x ≡ Some t → ((a : Ty) → x ≡ Some a → Q) → Q
  unary_part unary.Not x t {Q = Q} is next = part_of_test is_boolean x {Q = Q} (where_some (has is_boolean x) ty.Bool t is).0 next
  unary_part _ x t {Q = Q} is next = part_of_test is_int x {Q = Q} (where_some (has is_int x) ty.Int t is).0 next

  bitwise_parts : (x y : PartType) (t : Ty) {Q : Type 0} → bitwise_type x y ≡ Some t → ((a b : Ty) → x ≡ Some a → y ≡ Some b → Q) → Q
  bitwise_parts x y t {Q = Q} is next = cases (booleans x y) refl is
    where
      cases : (both : Bool) → booleans x y ≡ both → (if both then Some ty.Bool else where_true (ints x y) ty.Int) ≡ Some t → Q
      cases true both is = parts_of_tests is_boolean x y {Q = Q} both next
      cases false both is = parts_of_tests is_int x y {Q = Q} (where_some (ints x y) ty.Int t is).0 next

  equality_parts : (x y : PartType) (t : Ty) {Q : Type 0} → equality_type p x y ≡ Some t → ((a b : Ty) → x ≡ Some a → y ≡ Some b → Q) → Q
  equality_parts (Some a) (Some b) t is next = next a b refl refl
  equality_parts (Some a) None t is next = absurd (none-some t is)
  equality_parts None y t is next = absurd (none-some t is)

  binary_parts : (op : BinOp) (x y : PartType) (t : Ty) {Q : Type 0} → binary_type p op x y ≡ Some t → ((a b : Ty) → x ≡ Some a → y ≡ Some b → Q) → Q
  binary_parts binary.BitAnd x y t {Q = Q} is next = bitwise_parts x y t {Q = Q} is next
  binary_parts binary.BitOr x y t {Q = Q} is next = bitwise_parts x y t {Q = Q} is next
  binary_parts binary.BitXor x y t {Q = Q} is next = bitwise_parts x y t {Q = Q} is next
  binary_parts binary.Eq x y t {Q = Q} is next = equality_parts x y t {Q = Q} is next
  binary_parts binary.Ne x y t {Q = Q} is next = equality_parts x y t {Q = Q} is next
  binary_parts _ x y t {Q = Q} is next = parts_of_tests is_int x y {Q = Q} (where_some (ints x y) _ t is).0 next

  unary_node_ends : (op : UnOp) (e : Expr) (t : Ty) (w : World) → TypedLayer (Expr-F.Unary op e) t → FitsScope p s w → EndsAs p (Wanted.ValueOf t) w (expr_node p part (Expr-F.Unary op e) w)
  unary_node_ends op e t w is fits =
      unary_part op (type_of p s e) t {Q = EndsAs p (Wanted.ValueOf t) w (expr_node p part (Expr-F.Unary op e) w)} is (λ a is_a.
      of_part e a (Wanted.ValueOf t) (λ x. computed p (unary_value op x)) w is_a fits (λ v u fits_u on of_type.
      computed_ends p typed t (unary_value op v) u fits_u.world (unary_computes p u.now op v a t (ap (unary_type op) (sym is_a) ∙ is) of_type)))

  binary_node_ends : (op : BinOp) (e f : Expr) (t : Ty) (w : World) → TypedLayer (Expr-F.Binary op e f) t → FitsScope p s w → EndsAs p (Wanted.ValueOf t) w (expr_node p part (Expr-F.Binary op e f) w)
  binary_node_ends op e f t w is fits =
      binary_parts op (type_of p s e) (type_of p s f) t {Q = EndsAs p (Wanted.ValueOf t) w (expr_node p part (Expr-F.Binary op e f) w)} is (λ a b is_a is_b.
      of_part e a (Wanted.ValueOf t) (λ x. part.expr f >>= (λ y. computed p (binary_value op x y))) w is_a fits (λ v u fits_u on of_type.
      of_part f b (Wanted.ValueOf t) (λ y. computed p (binary_value op v y)) u is_b fits_u (λ y x fits_x further of_other.
      computed_ends p typed t (binary_value op v y) x fits_x.world (binary_computes p typed x.now op v y a b t (ap (λ l. binary_type p op l (Some b)) (sym is_a) ∙ ap (binary_type p op (type_of p s e)) (sym is_b) ∙ is) (fits_grown p u.now x.now v a further.grown of_type) of_other))))

  concat_node_ends : (e f : Expr) (t : Ty) (w : World) → TypedLayer (Expr-F.Concat e f) t → FitsScope p s w → EndsAs p (Wanted.ValueOf t) w (expr_node p part (Expr-F.Concat e f) w)
  concat_node_ends e f t w is fits =
      let test = where_some ((has_text (type_of p s e) && has_text (type_of p s f)) && (has is_text_or_null (type_of p s e) || has is_text_or_null (type_of p s f))) ty.Text t is in
      let texts = first_so (has_text (type_of p s e) && has_text (type_of p s f)) (has is_text_or_null (type_of p s e) || has is_text_or_null (type_of p s f)) test.0 in
      subst (λ r. EndsAs p (Wanted.ValueOf r) w (expr_node p part (Expr-F.Concat e f) w)) test.1
      (tested_part e (λ a. has_text (Some a)) (Wanted.ValueOf ty.Text) (λ x. part.expr f >>= (λ y. computed p (concatenated x y))) w (first_so (has_text (type_of p s e)) (has_text (type_of p s f)) texts) fits (λ a v u text_a fits_u on of_type.
      tested_part f (λ b. has_text (Some b)) (Wanted.ValueOf ty.Text) (λ y. computed p (concatenated v y)) u (second_so (has_text (type_of p s e)) (has_text (type_of p s f)) texts) fits_u (λ b y x text_b fits_x further of_other.
      computed_ends p typed ty.Text (concatenated v y) x fits_x.world (concatenated_computes p x.now v y a b text_a text_b (fits_grown p u.now x.now v a further.grown of_type) of_other))))

  -- ---- choices

  and_node_ends : (e f : Expr) (t : Ty) (w : World) → TypedLayer (Expr-F.And e f) t → FitsScope p s w → EndsAs p (Wanted.ValueOf t) w (expr_node p part (Expr-F.And e f) w)
  and_node_ends e f t w is fits =
      let test = where_some (booleans (type_of p s e) (type_of p s f)) ty.Bool t is in
      subst (λ r. EndsAs p (Wanted.ValueOf r) w (expr_node p part (Expr-F.And e f) w)) test.1
      (tested_part e is_boolean (Wanted.ValueOf ty.Bool) (λ x. choose x (part.expr f) (gives (outcome.Value (value.Bool false)))) w (first_so (has is_boolean (type_of p s e)) (has is_boolean (type_of p s f)) test.0) fits (λ a v u boolean fits_u on of_type.
      choose_by p (EndsAs p (Wanted.ValueOf ty.Bool) u) v (part.expr f) (gives (outcome.Value (value.Bool false))) u (subst (FitsType p u.now v) (boolean_type a boolean) of_type)
      (boolean_part f u (second_so (has is_boolean (type_of p s e)) (has is_boolean (type_of p s f)) test.0) fits_u) (gives_ends p (Wanted.ValueOf ty.Bool) u (outcome.Value (value.Bool false)) fits_u.world is_boolean-Bool)))

  or_node_ends : (e f : Expr) (t : Ty) (w : World) → TypedLayer (Expr-F.Or e f) t → FitsScope p s w → EndsAs p (Wanted.ValueOf t) w (expr_node p part (Expr-F.Or e f) w)
  or_node_ends e f t w is fits =
      let test = where_some (booleans (type_of p s e) (type_of p s f)) ty.Bool t is in
      subst (λ r. EndsAs p (Wanted.ValueOf r) w (expr_node p part (Expr-F.Or e f) w)) test.1
      (tested_part e is_boolean (Wanted.ValueOf ty.Bool) (λ x. choose x (gives (outcome.Value (value.Bool true))) (part.expr f)) w (first_so (has is_boolean (type_of p s e)) (has is_boolean (type_of p s f)) test.0) fits (λ a v u boolean fits_u on of_type.
      choose_by p (EndsAs p (Wanted.ValueOf ty.Bool) u) v (gives (outcome.Value (value.Bool true))) (part.expr f) u (subst (FitsType p u.now v) (boolean_type a boolean) of_type)
      (gives_ends p (Wanted.ValueOf ty.Bool) u (outcome.Value (value.Bool true)) fits_u.world is_boolean-Bool) (boolean_part f u (second_so (has is_boolean (type_of p s e)) (has is_boolean (type_of p s f)) test.0) fits_u)))

  -- the type of a choice: both values can be assigned to it
  wider_parts : (x y : PartType) (t : Ty) {Q : Type 0} → wider p x y ≡ Some t → ((a b : Ty) → x ≡ Some a → y ≡ Some b → ((w : World) (n : Answer) → EndsAs p (Wanted.ValueOf a) w n → EndsAs p (Wanted.ValueOf t) w n) → ((w : World) (n : Answer) → EndsAs p (Wanted.ValueOf b) w n → EndsAs p (Wanted.ValueOf t) w n) → Q) → Q
  wider_parts None y t is next = absurd (none-some t is)
  wider_parts (Some a) None t is next = absurd (none-some t is)
  wider_parts (Some a) (Some b) t {Q = Q} is next = cases (is_assignable p.classes a b) refl is
    where
      cases : (below : Bool) → is_assignable p.classes a b ≡ below → (if below then Some b else where_true (is_assignable p.classes b a) a) ≡ Some t → Q
      cases true below is =
          let same : b ≡ t = same_Some b t is in
          next a b refl refl (λ w n ends. subst (λ r. EndsAs p (Wanted.ValueOf r) w n) same (ends_on a b w n below ends)) (λ w n ends. subst (λ r. EndsAs p (Wanted.ValueOf r) w n) same ends)
      cases false below is =
          let test = where_some (is_assignable p.classes b a) a t is in
          next a b refl refl (λ w n ends. subst (λ r. EndsAs p (Wanted.ValueOf r) w n) test.1 ends) (λ w n ends. subst (λ r. EndsAs p (Wanted.ValueOf r) w n) test.1 (ends_on b a w n test.0 ends))

  cond_node_ends : (e f g : Expr) (t : Ty) (w : World) → TypedLayer (Expr-F.Cond e f g) t → FitsScope p s w → EndsAs p (Wanted.ValueOf t) w (expr_node p part (Expr-F.Cond e f g) w)
  cond_node_ends e f g t w is fits = cases (has is_boolean (type_of p s e)) refl is
    where
      cases : (test : Bool) → has is_boolean (type_of p s e) ≡ test → (if test then wider p (type_of p s f) (type_of p s g) else None) ≡ Some t → EndsAs p (Wanted.ValueOf t) w (expr_node p part (Expr-F.Cond e f g) w)
      cases false test is = absurd (none-some t is)
      cases true test is =
          wider_parts (type_of p s f) (type_of p s g) t {Q = EndsAs p (Wanted.ValueOf t) w (expr_node p part (Expr-F.Cond e f g) w)} is (λ a b is_a is_b from_a from_b.
          tested_part e is_boolean (Wanted.ValueOf t) (λ x. choose x (part.expr f) (part.expr g)) w test fits (λ c v u boolean fits_u on of_type.
          choose_by p (EndsAs p (Wanted.ValueOf t) u) v (part.expr f) (part.expr g) u (subst (FitsType p u.now v) (boolean_type c boolean) of_type)
          (from_a u (part.expr f u) (safe.expr s f a u is_a fits_u)) (from_b u (part.expr g u) (safe.expr s g b u is_b fits_u))))

  -- ---- casts

  cast_node_ends : (to : Ty) (e : Expr) (t : Ty) (w : World) → TypedLayer (Expr-F.Cast to e) t → FitsScope p s w → EndsAs p (Wanted.ValueOf t) w (expr_node p part (Expr-F.Cast to e) w)
  cast_node_ends to e t w is fits =
      let test = where_some (has (is_castable p to) (type_of p s e)) to t is in
      subst (λ r. EndsAs p (Wanted.ValueOf r) w (expr_node p part (Expr-F.Cast to e) w)) test.1
      (tested_part e (is_castable p to) (Wanted.ValueOf to) (cast p to) w test.0 fits (λ a v u castable fits_u on of_type.
      cast_ends p typed to a v u fits_u.world (null_of_object to (cast_to to a castable)) (cast_from to a castable) of_type))

  is_node_ends : (to : Ty) (e : Expr) (t : Ty) (w : World) → TypedLayer (Expr-F.Is to e) t → FitsScope p s w → EndsAs p (Wanted.ValueOf t) w (expr_node p part (Expr-F.Is to e) w)
  is_node_ends to e t w is fits =
      let test = where_some (has (is_castable p to) (type_of p s e)) ty.Bool t is in
      subst (λ r. EndsAs p (Wanted.ValueOf r) w (expr_node p part (Expr-F.Is to e) w)) test.1
      (tested_part e (is_castable p to) (Wanted.ValueOf ty.Bool) (is_instance p to) w test.0 fits (λ a v u castable fits_u on of_type.
      is_instance_ends p typed to a v u fits_u.world (cast_from to a castable) of_type))

  -- ---- every node

  local_ends : (at : ℕ) (t : Ty) (w : World) → slice_get s.locals at ≡ Some t → FitsScope p s w → EndsAs p (Wanted.ValueOf t) w (read_local at w)
  local_ends at t w is fits = read_local_ends p s at t w fits is

  pub node_ends : (x : Expr-F Expr) (t : Ty) (w : World) → TypedLayer x t → FitsScope p s w → EndsAs p (Wanted.ValueOf t) w (expr_node p part x w)
  node_ends (Expr-F.Int n) t w is fits = let test = where_some (is_int_number n) ty.Int t is in gives_ends p (Wanted.ValueOf t) w (outcome.Value (value.Int n)) fits.world (subst (FitsType p w.now (value.Int n)) test.1 is_int-Int)
  node_ends (Expr-F.Bool b) t w is fits = gives_ends p (Wanted.ValueOf t) w (outcome.Value (value.Bool b)) fits.world (subst (FitsType p w.now (value.Bool b)) (same_Some ty.Bool t is) is_boolean-Bool)
  node_ends (Expr-F.Text text) t w is fits = subst (λ r. EndsAs p (Wanted.ValueOf r) w (computed p (literal (value.Text text)) w)) (same_Some ty.Text t is) (computed_ends p typed ty.Text (literal (value.Text text)) w fits.world (literal_computes p w.now text))
  node_ends Expr-F.Null t w is fits = gives_ends p (Wanted.ValueOf t) w (outcome.Value value.Null) fits.world (subst (FitsType p w.now value.Null) (same_Some ty.Null t is) (rw is_null-Null refl))
  node_ends Expr-F.This t w is fits = this_ends w.this s.this t w fits.world fits.this (this_type s.this t is)
  node_ends (Expr-F.Local at) t w is fits = local_ends at t w is fits
  node_ends (Expr-F.Field e at) t w is fits = field_node_ends e at t w is fits
  node_ends (Expr-F.Length e) t w is fits = length_node_ends e t w is fits
  node_ends (Expr-F.Element e i) t w is fits = element_node_ends e i t w is fits
  node_ends (Expr-F.TextLength e) t w is fits = text_length_node_ends e t w is fits
  node_ends (Expr-F.TextEquals e f) t w is fits = text_equals_node_ends e f t w is fits
  node_ends (Expr-F.Message e) t w is fits = message_node_ends e t w is fits
  node_ends (Expr-F.Static m es site) t w is fits = static_ends p typed part safe s m es t w fits is
  node_ends (Expr-F.Chosen e selector es site) t w is fits =
      option_and_then_some (chosen_type p selector (map (type_of p s) es)) (option_and_then class_of (type_of p s e)) t is (λ c is_c chosen.
      option_and_then_some class_of (type_of p s e) c is_c (λ a is_a is_class.
      of_part e a (Wanted.ValueOf t) (λ o. arguments p part es [] (dispatch p part selector o)) w is_a fits (λ v u fits_u on of_type.
      chosen_ends p typed part safe s v selector c es t u fits_u (subst (FitsType p u.now v) (class_type a c is_class) of_type) chosen)))
  node_ends (Expr-F.Super m es site) t w is fits =
      option_and_then_some (λ c. call_type p (is_of_superclass p c) (map (type_of p s) es) (slice_get p.methods m)) s.this t is (λ c is_c called. super_ends p typed part safe s m c es t w fits is_c called)
  node_ends (Expr-F.New k es) t w is fits = new_node_ends k es t w is fits
  node_ends (Expr-F.NewBuilt c None) t w is fits = built_in_ends c None t w is fits
  node_ends (Expr-F.NewBuilt c (Some e)) t w is fits = built_in_ends c (Some e) t w is fits
  node_ends (Expr-F.NewArray f e) t w is fits = new_array_node_ends f e t w is fits
  node_ends (Expr-F.Unary op e) t w is fits = unary_node_ends op e t w is fits
  node_ends (Expr-F.Binary op e f) t w is fits = binary_node_ends op e f t w is fits
  node_ends (Expr-F.And e f) t w is fits = and_node_ends e f t w is fits
  node_ends (Expr-F.Or e f) t w is fits = or_node_ends e f t w is fits
  node_ends (Expr-F.Cond e f g) t w is fits = cond_node_ends e f g t w is fits
  node_ends (Expr-F.Cast to e) t w is fits = cast_node_ends to e t w is fits
  node_ends (Expr-F.Is to e) t w is fits = is_node_ends to e t w is fits
  node_ends (Expr-F.Concat e f) t w is fits = concat_node_ends e f t w is fits

  pub expr_ends : (e : Expr) (t : Ty) (w : World) → type_of p s e ≡ Some t → FitsScope p s w → EndsAs p (Wanted.ValueOf t) w (expr_node p part (out-Expr e) w)
  unfolding type_of
  expr_ends e t w is fits = node_ends (out-Expr e) t w (sym (fold_out-Expr PartType (typing.expr_node p s) e) ∙ is) fits
