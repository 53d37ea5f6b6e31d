-- Blocks, arguments and calls end as it is asked.
use Rattle.std.proofs.Common.{◌≡◌, ◌∙◌, ℕ, zero, suc, ◌+◌, ◌≤◌, ◌<◌, Bool, true, false, not, ◌&&◌, ◌==◌, nat_lt, IsTrue, List, [], ◌∷◌, ◌++◌, map, Option, Some, None, slice_get, refl, subst, sym, ap, arith, if◌then◌else◌}
use Rattle.std.specs.Prelude.{option_and_then}
use Rattle.std.specs.Option.{option_map_or}
use Rattle.std.specs.List.{list_all}
use Rattle.std.proofs.lemmas.Option.{same_Some, option_and_then_some, slice_get-map}
use Rattle.std.proofs.lemmas.List.{append_assoc, append-nil}
use Rattle.std.proofs.lemmas.Bool.{false≢true, eqb-true, ltb-true, not-true}
use Rattle.std.specs.Cmp.{first_so, second_so}
use Rattle.core_tree.specs.declared.ty.Ty.{Ty}
use Rattle.core_tree.specs.declared.ty.Ty.TheVariants as ty
use Rattle.core_tree.specs.declared.built_in.BuiltIn.TheVariants as class
use Rattle.core_tree.specs.declared.expr.Expr.{Expr}
use Rattle.core_tree.specs.declared.stmt.Stmt.{Stmt}
use Rattle.core_tree.specs.declared.program.Method.{Method}
use Rattle.core_tree.specs.declared.program.Program.{Program}
use Rattle.core_tree.specs.Types.{is_subclass, is_assignable}
use Rattle.core_tree.specs.Typing.{Scope, PartType, fits as fits_part, all_fit, type_of, is_typed_stmt, is_typed_body, is_throwable, chosen_number, chosen_method, call_type, chosen_type, where_true, is_of_superclass}
use Rattle.core_tree.specs.WellTyped.{IsWellTyped, is_method, method_scope}
use Rattle.heap_arena.specs.declared.cell.Cell.TheVariants as value
use Rattle.heap_arena.specs.declared.kind.Kind.TheVariants as kind
use Rattle.heap_arena.specs.Heap.{Heap, Value, default_of, kind_at, class_at}
use Rattle.evaluation.specs.declared.outcome.Outcome.{Outcome}
use Rattle.evaluation.specs.declared.outcome.Outcome.TheVariants as outcome
use Rattle.evaluation.specs.World.{World, Run, gives}
use Rattle.evaluation.specs.Objects.{object_fits, trap, message_place}
use Rattle.evaluation.specs.Calls.{Parts, most_live, returned, leave, called, block, arguments, run_method, invoke, dispatch_in, dispatch}
use Rattle.type_safety.specs.Fits.{FitsType, FitEach, FitsWorld, FitsScope, FitsThis, HasGrown}
use Rattle.type_safety.specs.Ends.{Wanted, Meets, Follows, EndsAs, EndsIn, AreSafe}
use Rattle.core_tree.proofs.TypeFacts.{found_passes, is_object_class}
use Rattle.type_safety.proofs.Assignable.{to_class}
use Rattle.type_safety.proofs.Lines.{is_subclass_trans}
use Rattle.type_safety.proofs.Values.{fits_grown, fits_on, default_fits, of_kind, object_cases, grown_refl, this_grown}
use Rattle.type_safety.proofs.Parts.{follows_refl, follows_trans, scope_on, gives_in, value_then_ends, normal_then_in}
use Rattle.type_safety.proofs.Programs as programs
use Rattle.type_safety.proofs.Methods as methods
use Rattle.type_safety.proofs.BuiltIns as built_ins
use Rattle.type_safety.proofs.Making.{trap_ends}
use Rattle.type_safety.proofs.Places.{read_cell_ends}
use Rattle.type_safety.proofs.Objects.{with_object_by, field_cell}
use Rattle.type_safety.proofs.Computing.{where_some}

-- ---- statements in order

pub block_in : (p : Program) (part : Parts) → AreSafe p part → (s : Scope) (inside : Bool) (ss : List Stmt) (w : World) → IsTrue (list_all (λ x. is_typed_stmt p s x inside) ss) → FitsScope p s w → EndsIn p s (Wanted.StatementEnd s.answer inside) w (block p part ss w)
block_in p part safe s inside [] w typed fits = gives_in p s (Wanted.StatementEnd s.answer inside) w outcome.Normal fits tt
block_in p part safe s inside (x ∷ xs) w typed fits =
    normal_then_in p s (Wanted.StatementEnd s.answer inside) (block p part xs) w (part.stmt x w)
    (safe.stmt s x inside w (first_so (is_typed_stmt p s x inside) (list_all (λ x. is_typed_stmt p s x inside) xs) typed) fits)
    (λ u fits_u grown. block_in p part safe s inside xs u (second_so (is_typed_stmt p s x inside) (list_all (λ x. is_typed_stmt p s x inside) xs) typed) fits_u)

-- ---- arguments

-- the values are of the types, one to one
abbrev pub FitAll : Program → Heap → List Value → List Ty → Type 0
FitAll p h [] [] = Unit {0}
FitAll p h [] (t ∷ ts) = ⊥
FitAll p h (v ∷ vs) [] = ⊥
FitAll p h (v ∷ vs) (t ∷ ts) = FitsType p h v t × FitAll p h vs ts

pub all_grown : (p : Program) (h later : Heap) (vs : List Value) (ts : List Ty) → HasGrown h later → FitAll p h vs ts → FitAll p later vs ts
all_grown p h later [] [] grown all = tt
all_grown p h later [] (t ∷ ts) grown all = absurd all
all_grown p h later (v ∷ vs) [] grown all = absurd all
all_grown p h later (v ∷ vs) (t ∷ ts) grown all = (fits_grown p h later v t grown all.0, all_grown p h later vs ts grown all.1)

one_more : (p : Program) (h : Heap) (vs : List Value) (ts : List Ty) (v : Value) (t : Ty) → FitAll p h vs ts → FitsType p h v t → FitAll p h (vs ++ v ∷ []) (ts ++ t ∷ [])
one_more p h [] [] v t all fits = (fits, tt)
one_more p h [] (r ∷ rs) v t all fits = absurd all
one_more p h (u ∷ us) [] v t all fits = absurd all
one_more p h (u ∷ us) (r ∷ rs) v t all fits = (all.0, one_more p h us rs v t all.1 fits)

-- the locals of a body: its arguments, and the defaults of its other locals
pub locals_fit : (p : Program) (h : Heap) (vs : List Value) (ts rest : List Ty) → FitAll p h vs ts → FitEach p h (vs ++ map default_of rest) (ts ++ rest)
locals_fit p h [] [] rest all at t is = rw (slice_get-map default_of rest at, is) (default_fits p h t)
locals_fit p h [] (r ∷ rs) rest all at t is = absurd all
locals_fit p h (u ∷ us) [] rest all at t is = absurd all
locals_fit p h (u ∷ us) (r ∷ rs) rest all zero t is = subst (FitsType p h u) (same_Some r t is) all.0
locals_fit p h (u ∷ us) (r ∷ rs) rest all (suc at) t is = locals_fit p h us rs rest all.1 at t is

one_not_zero : ◌≡◌ {A = ℕ} 1 0 → ⊥
one_not_zero is = omega arith

module _ (p : Program) (typed : IsWellTyped p) (part : Parts) (safe : AreSafe p part) where
  -- arguments after those that are there
  pub arguments_ends : (wanted : Wanted) (s : Scope) (es : List Expr) (params : List Ty) (got : List Value) (done : List Ty) (go : List Value → Run) (w : World) → IsTrue (all_fit p params (map (type_of p s) es)) → FitsScope p s w → FitAll p w.now got done →
      ((vs : List Value) (u : World) → Follows p w u → FitAll p u.now vs (done ++ params) → EndsAs p wanted u (go vs u)) → EndsAs p wanted w (arguments p part es got go w)
  arguments_ends wanted s [] [] got done go w all fit fits next = next got w (follows_refl p w fit.world) (subst (FitAll p w.now got) (sym (append-nil done)) fits)
  arguments_ends wanted s [] (t ∷ ts) got done go w all fit fits next = absurd (false≢true all)
  arguments_ends wanted s (e ∷ es) [] got done go w all fit fits next = absurd (false≢true all)
  arguments_ends wanted s (e ∷ es) (t ∷ ts) got done go w all fit fits next =
      found_passes (λ from. is_assignable p.classes from t) (type_of p s e) {Q = EndsAs p wanted w (arguments p part (e ∷ es) got go w)} (first_so (fits_part p t (type_of p s e)) (all_fit p ts (map (type_of p s) es)) all) (λ from is below.
      value_then_ends p wanted from (λ v. arguments p part es (got ++ v ∷ []) go) w (part.expr e w) (safe.expr s e from w is fit) (λ v u on of_type.
      arguments_ends wanted s es ts (got ++ v ∷ []) (done ++ t ∷ []) go u (second_so (fits_part p t (type_of p s e)) (all_fit p ts (map (type_of p s) es)) all) (scope_on p s w u fit on)
      (one_more p u.now got done v t (all_grown p w.now u.now got done on.grown fits) (fits_on p u.now v from t (programs.have_lines p typed) (programs.is_top p typed) of_type below))
      (λ vs x further fit_all. next vs x (follows_trans p w u x on further) (subst (FitAll p x.now vs) (append_assoc done (t ∷ []) ts) fit_all))))

  -- ---- calls

  -- a body with its own `this` and locals, where its end is what is asked for
  pub called_ends : (wanted : Wanted) (end : Outcome → Outcome) (s : Scope) (params rest : List Ty) (this : Option ℕ) (args : List Value) (body : Run) (w : World) → FitsWorld p w → s.locals ≡ params ++ rest → FitsThis p w.now s.this this → FitAll p w.now args params →
      ((u : World) → FitsScope p s u → HasGrown w.now u.now → EndsIn p s (Wanted.StatementEnd s.answer false) u (body u)) →
      ((h : Heap) (o : Outcome) → Meets p (Wanted.StatementEnd s.answer false) h o → Meets p wanted h (end o)) → EndsAs p wanted w (called p end this args rest body w)
  called_ends wanted end s params rest this args body w fits is_locals fits_this fit_args body_ends end_meets = cases (nat_lt w.live most_live) refl
    where
      inner : World
      inner = record w { this = this; locals = args ++ map default_of rest; live = w.live + 1 }

      cases : (room : Bool) → nat_lt w.live most_live ≡ room → EndsAs p wanted w (if room then leave end w.this w.locals (body inner) else trap p class.StackOverflowError w)
      cases true is =
          let less : w.live < most_live = ltb-true w.live most_live is in
          let start : FitsScope p s inner = record {
            world = record { heap = fits.heap; live = omega arith };
            this = fits_this;
            locals = subst (λ ts. FitEach p w.now (args ++ map default_of rest) ts) (sym is_locals) (locals_fit p w.now args params rest fit_args);
          } in
          let ends = body_ends inner start (grown_refl w.now) in
          let few : (body inner).world.live ≤ most_live = ends.world.world.live in
          record {
            world = record { world = record { heap = ends.world.world.heap; live = omega arith }; grown = ends.grown; this = refl; locals = refl };
            outcome = end_meets (body inner).world.now (body inner).outcome ends.outcome;
          }
      cases false is = trap_ends p typed wanted class.StackOverflowError w refl fits

  -- what a method's body ends with is what a call of it gives
  returned_meets : (t : Ty) (h : Heap) (o : Outcome) → Meets p (Wanted.StatementEnd t false) h o → Meets p (Wanted.ValueOf t) h (returned t o)
  returned_meets t h (outcome.Value v) meets = absurd meets
  returned_meets t h outcome.Normal meets = default_fits p h t
  returned_meets t h (outcome.Return None) meets = default_fits p h t
  returned_meets t h outcome.Break meets = absurd (false≢true meets)
  returned_meets t h outcome.Continue meets = absurd (false≢true meets)
  returned_meets t h _ meets = meets

  method_body : (m : Method) → IsTrue (is_method p m) → IsTrue (is_typed_body p (method_scope m) m.body)
  method_body m passes = search (first_so, second_so)

  pub run_method_ends : (m : Method) (this : Option ℕ) (args : List Value) (w : World) → IsTrue (is_method p m) → FitsWorld p w → FitsThis p w.now (method_scope m).this this → FitAll p w.now args m.params → EndsAs p (Wanted.ValueOf m.answer) w (run_method p part m this args w)
  run_method_ends m this args w passes fits fits_this fit_args =
      called_ends (Wanted.ValueOf m.answer) (returned m.answer) (method_scope m) m.params m.locals this args (block p part m.body) w fits refl fits_this fit_args
      (λ u fit grown. block_in p part safe (method_scope m) false m.body u (method_body m passes) fit) (returned_meets m.answer)

  pub invoke_ends : (n : ℕ) (m : Method) (this : Option ℕ) (args : List Value) (w : World) → slice_get p.methods n ≡ Some m → FitsWorld p w → FitsThis p w.now (method_scope m).this this → FitAll p w.now args m.params → EndsAs p (Wanted.ValueOf m.answer) w (invoke p part n this args w)
  invoke_ends n m this args w is fits fits_this fit_args =
      subst (λ found. EndsAs p (Wanted.ValueOf m.answer) w (option_map_or (λ method. run_method p part method this args) found (gives outcome.Stuck) w)) (sym is)
      (run_method_ends m this args w (methods.method_passes p typed n m is) fits fits_this fit_args)

  -- `this` of a method on an object, where the object is of its class
  on_object : (h : Heap) (m : Method) (o d : ℕ) → IsTrue m.on_object → kind_at h o ≡ Some (kind.Instance d) → IsTrue (is_subclass p.classes d m.owner) → FitsThis p h (method_scope m).this (Some o)
  on_object h m o d is is_kind below = rw is (of_kind p h o (ty.Class m.owner) (kind.Instance d) is_kind (to_class p.classes d m.owner below))

  class_of_instance : (h : Heap) (o d : ℕ) → kind_at h o ≡ Some (kind.Instance d) → class_at h o ≡ Some d
  class_of_instance h o d is = ap (option_and_then (λ k. elim k [ kind.Instance c ↦ Some c | kind.Array t ↦ None ])) is

  -- a method that the selector picks in the class of the object
  picked_ends : (selector o d n : ℕ) (t : Ty) (m : Method) (args : List Value) (w : World) → FitsWorld p w → kind_at w.now o ≡ Some (kind.Instance d) → chosen_number p d selector ≡ Some n → slice_get p.methods n ≡ Some m → m.answer ≡ t → FitAll p w.now args m.params →
      EndsAs p (Wanted.ValueOf t) w (dispatch_in p part selector o args (Some n) w)
  picked_ends selector o d n t m args w fits is_kind is_n is_m is_answer fit_args =
      let owner = methods.picked_owner p typed d selector n m is_n is_m in
      subst (λ r. EndsAs p (Wanted.ValueOf r) w (invoke p part n (Some o) args w)) is_answer (invoke_ends n m (Some o) args w is_m fits (on_object w.now m o d owner.0 is_kind owner.1) fit_args)

  -- a call of `getMessage` on a Throwable
  message_call_ends : (selector c o : ℕ) (args : List Value) (w : World) → FitsWorld p w → selector ≡ 0 → IsTrue (is_throwable p c) → FitAll p w.now args [] → IsTrue (object_fits p w.now o (ty.Class c)) → EndsAs p (Wanted.ValueOf ty.Text) w (option_map_or (λ d. dispatch_in p part selector o args (chosen_number p d selector) w) (class_at w.now o) (gives outcome.Stuck w))
  message_call_ends selector c o args w fits is_message throwable none below =
      object_cases p w.now o c {Q = EndsAs p (Wanted.ValueOf ty.Text) w (option_map_or (λ d. dispatch_in p part selector o args (chosen_number p d selector) w) (class_at w.now o) (gives outcome.Stuck w))} below
      (λ d is_kind under.
      subst (λ found. EndsAs p (Wanted.ValueOf ty.Text) w (option_map_or (λ d. dispatch_in p part selector o args (chosen_number p d selector) w) found (gives outcome.Stuck w))) (sym (class_of_instance w.now o d is_kind))
      (picks d is_kind (is_subclass_trans p.classes d c 1 (programs.have_lines p typed) under throwable) (chosen_number p d selector) refl))
      (λ f is_kind top. absurd (one_not_zero (programs.is_top p typed 1 (subst (λ k. IsTrue (is_throwable p k)) top throwable))))
    where
      picks : (d : ℕ) → kind_at w.now o ≡ Some (kind.Instance d) → IsTrue (is_throwable p d) → (found : Option ℕ) → chosen_number p d selector ≡ found → EndsAs p (Wanted.ValueOf ty.Text) w (dispatch_in p part selector o args found w)
      picks d is_kind thrown None is =
          rw is_message (read_cell_ends p typed o message_place ty.Text w fits (field_cell p w.now o d 0 ty.Text fits.heap is_kind (built_ins.message_field_below p typed d thrown)))
      picks d is_kind thrown (Some n) is =
          let m = methods.picked_there p typed d selector n is in
          let message = methods.message_method p typed d n m.0 thrown (ap (chosen_number p d) (sym is_message) ∙ is) m.1 in
          picked_ends selector o d n ty.Text m.0 args w fits is_kind is m.1 message.1 (subst (FitAll p w.now args) (sym message.0) none)

  -- a call of a method that the selector picks in the class of the object, after null is tested
  method_call_ends : (selector c o n : ℕ) (m : Method) (args : List Value) (w : World) → FitsWorld p w → chosen_number p c selector ≡ Some n → slice_get p.methods n ≡ Some m → FitAll p w.now args m.params → IsTrue (object_fits p w.now o (ty.Class c)) →
      EndsAs p (Wanted.ValueOf m.answer) w (option_map_or (λ d. dispatch_in p part selector o args (chosen_number p d selector) w) (class_at w.now o) (gives outcome.Stuck w))
  method_call_ends selector c o n m args w fits is_n is_m fit_args below =
      object_cases p w.now o c {Q = EndsAs p (Wanted.ValueOf m.answer) w (option_map_or (λ d. dispatch_in p part selector o args (chosen_number p d selector) w) (class_at w.now o) (gives outcome.Stuck w))} below
      (λ d is_kind under.
      let pick = methods.picked p typed d c selector n m under is_n is_m in
      subst (λ found. EndsAs p (Wanted.ValueOf m.answer) w (option_map_or (λ d. dispatch_in p part selector o args (chosen_number p d selector) w) found (gives outcome.Stuck w))) (sym (class_of_instance w.now o d is_kind))
      (subst (λ found. EndsAs p (Wanted.ValueOf m.answer) w (dispatch_in p part selector o args found w)) (sym pick.chosen)
      (picked_ends selector o d pick.number m.answer pick.method args w fits is_kind pick.chosen pick.there pick.answer (subst (FitAll p w.now args) (sym pick.params) fit_args))))
      (λ f is_kind top. absurd (methods.none_in_object p typed selector n m (ap (λ k. chosen_number p k selector) (sym top) ∙ is_n) is_m))

  -- the method that a call's type names
  call_types : (test : Method → Bool) (arguments : List PartType) (method : Option Method) (t : Ty) {Q : Type 0} → call_type p test arguments method ≡ Some t → ((m : Method) → method ≡ Some m → IsTrue (test m) → IsTrue (all_fit p m.params arguments) → m.answer ≡ t → Q) → Q
  call_types test arguments method t {Q = Q} is next =
      option_and_then_some (λ m. where_true (test m && all_fit p m.params arguments) m.answer) method t is (λ m is_m true.
      let w = where_some (test m && all_fit p m.params arguments) m.answer t true in
      next m is_m (first_so (test m) (all_fit p m.params arguments) w.0) (second_so (test m) (all_fit p m.params arguments) w.0) w.1)

  -- a call on an object, whose value has been evaluated
  pub chosen_ends : (s : Scope) (v : Value) (selector c : ℕ) (es : List Expr) (t : Ty) (w : World) → FitsScope p s w → FitsType p w.now v (ty.Class c) → chosen_type p selector (map (type_of p s) es) c ≡ Some t → EndsAs p (Wanted.ValueOf t) w (arguments p part es [] (dispatch p part selector v) w)
  chosen_ends s v selector c es t w fits of_type is = cases (selector == 0 && is_throwable p c) refl is
    where
      go : ℕ → List Value → ℕ → Run
      go selector args o u = option_map_or (λ d. dispatch_in p part selector o args (chosen_number p d selector) u) (class_at u.now o) (gives outcome.Stuck u)

      cases : (message : Bool) → (selector == 0 && is_throwable p c) ≡ message → (if message then where_true (all_fit p [] (map (type_of p s) es)) ty.Text else call_type p (λ m. m.on_object) (map (type_of p s) es) (chosen_method p c selector)) ≡ Some t → EndsAs p (Wanted.ValueOf t) w (arguments p part es [] (dispatch p part selector v) w)
      cases true is_message is =
          let both = where_some (all_fit p [] (map (type_of p s) es)) ty.Text t is in
          let zero_selector : selector ≡ 0 = eqb-true selector 0 (first_so (selector == 0) (is_throwable p c) is_message) in
          subst (λ r. EndsAs p (Wanted.ValueOf r) w (arguments p part es [] (dispatch p part selector v) w)) both.1
          (arguments_ends (Wanted.ValueOf ty.Text) s es [] [] [] (dispatch p part selector v) w both.0 fits tt (λ args u on fit_args.
          with_object_by p (EndsAs p (Wanted.ValueOf ty.Text) u) (ty.Class c) v (go selector args) u (fits_grown p w.now u.now v (ty.Class c) on.grown of_type) (is_object_class c)
          (trap_ends p typed (Wanted.ValueOf ty.Text) class.NullPointerException u refl on.world) (λ o below.
          message_call_ends selector c o args u on.world zero_selector (second_so (selector == 0) (is_throwable p c) is_message) fit_args below)))
      cases false is_message is =
          call_types (λ m. m.on_object) (map (type_of p s) es) (chosen_method p c selector) t {Q = EndsAs p (Wanted.ValueOf t) w (arguments p part es [] (dispatch p part selector v) w)} is (λ m is_m on_object all is_answer.
          option_and_then_some (λ n. slice_get p.methods n) (chosen_number p c selector) m is_m (λ n is_n there.
          subst (λ r. EndsAs p (Wanted.ValueOf r) w (arguments p part es [] (dispatch p part selector v) w)) is_answer
          (arguments_ends (Wanted.ValueOf m.answer) s es m.params [] [] (dispatch p part selector v) w all fits tt (λ args u on fit_args.
          with_object_by p (EndsAs p (Wanted.ValueOf m.answer) u) (ty.Class c) v (go selector args) u (fits_grown p w.now u.now v (ty.Class c) on.grown of_type) (is_object_class c)
          (trap_ends p typed (Wanted.ValueOf m.answer) class.NullPointerException u refl on.world) (λ o below.
          method_call_ends selector c o n m args u on.world is_n there fit_args below)))))

  -- a call of a static method
  pub static_ends : (s : Scope) (n : ℕ) (es : List Expr) (t : Ty) (w : World) → FitsScope p s w → call_type p (λ method. not method.on_object) (map (type_of p s) es) (slice_get p.methods n) ≡ Some t → EndsAs p (Wanted.ValueOf t) w (arguments p part es [] (invoke p part n None) w)
  static_ends s n es t w fits is =
      call_types (λ method. not method.on_object) (map (type_of p s) es) (slice_get p.methods n) t {Q = EndsAs p (Wanted.ValueOf t) w (arguments p part es [] (invoke p part n None) w)} is (λ m is_m no_object all is_answer.
      subst (λ r. EndsAs p (Wanted.ValueOf r) w (arguments p part es [] (invoke p part n None) w)) is_answer
      (arguments_ends (Wanted.ValueOf m.answer) s es m.params [] [] (invoke p part n None) w all fits tt (λ args u on fit_args.
      invoke_ends n m None args u is_m on.world (no_this u.now m no_object) fit_args)))
    where
      no_this : (h : Heap) (m : Method) → IsTrue (not m.on_object) → FitsThis p h (method_scope m).this None
      no_this h m none = rw (not-true m.on_object none) tt

  -- a call of a superclass's method
  pub super_ends : (s : Scope) (n c : ℕ) (es : List Expr) (t : Ty) (w : World) → FitsScope p s w → s.this ≡ Some c → call_type p (is_of_superclass p c) (map (type_of p s) es) (slice_get p.methods n) ≡ Some t → EndsAs p (Wanted.ValueOf t) w (arguments p part es [] (invoke p part n w.this) w)
  super_ends s n c es t w fits is_this is =
      call_types (is_of_superclass p c) (map (type_of p s) es) (slice_get p.methods n) t {Q = EndsAs p (Wanted.ValueOf t) w (arguments p part es [] (invoke p part n w.this) w)} is (λ m is_m of_superclass all is_answer.
      subst (λ r. EndsAs p (Wanted.ValueOf r) w (arguments p part es [] (invoke p part n w.this) w)) is_answer
      (arguments_ends (Wanted.ValueOf m.answer) s es m.params [] [] (invoke p part n w.this) w all fits tt (λ args u on fit_args.
      invoke_ends n m w.this args u is_m on.world
      (this_of_superclass u.now m w.this (first_so m.on_object (is_subclass p.classes c m.owner && not (m.owner == c)) of_superclass) (first_so (is_subclass p.classes c m.owner) (not (m.owner == c)) (second_so m.on_object (is_subclass p.classes c m.owner && not (m.owner == c)) of_superclass)) (this_grown p w.now u.now (Some c) w.this on.grown (subst (λ k. FitsThis p w.now k w.this) is_this fits.this))) fit_args)))
    where
      this_of_superclass : (h : Heap) (m : Method) (this : Option ℕ) → IsTrue m.on_object → IsTrue (is_subclass p.classes c m.owner) → FitsThis p h (Some c) this → FitsThis p h (method_scope m).this this
      this_of_superclass h m None is below fits_this = absurd fits_this
      this_of_superclass h m (Some o) is below fits_this = rw is (fits_on p h (value.Ref o) (ty.Class c) (ty.Class m.owner) (programs.have_lines p typed) (programs.is_top p typed) fits_this (to_class p.classes c m.owner below))
