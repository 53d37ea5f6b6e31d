-- Constructors end as it is asked.
use Rattle.std.proofs.Common.{◌≡◌, ◌∙◌, ℕ, zero, suc, ◌+◌, Bool, true, false, not, ◌&&◌, ◌==◌, IsTrue, List, [], ◌∷◌, map, Option, Some, None, option_map, is_some, slice_get, refl, subst, sym, ap, arith, if◌then◌else◌}
use Rattle.std.specs.Option.{option_map_or}
use Rattle.std.proofs.lemmas.Option.{none-some, same_Some, slice_get-map, option_and_then_some}
use Rattle.std.proofs.lemmas.Bool.{false≢true, eqb-true}
use Rattle.std.specs.Cmp.{first_so, second_so}
use Rattle.core_tree.specs.declared.ty.Ty.{Ty}
use Rattle.core_tree.specs.declared.ty.Ty.TheVariants as ty
use Rattle.core_tree.specs.declared.expr.Expr.{Expr}
use Rattle.core_tree.specs.declared.program.Class.{Class}
use Rattle.core_tree.specs.declared.program.Field.{Field}
use Rattle.core_tree.specs.declared.program.Maker.{Maker}
use Rattle.core_tree.specs.declared.program.Parent.{Parent}
use Rattle.core_tree.specs.declared.program.Parent.TheVariants as parent
use Rattle.core_tree.specs.declared.program.Program.{Program}
use Rattle.core_tree.specs.BuiltIn.{is_built_in}
use Rattle.core_tree.specs.Types.{line_within, is_subclass, is_assignable}
use Rattle.core_tree.specs.Typing.{Scope, fits as fits_part, all_fit, type_of, is_typed_body}
use Rattle.core_tree.specs.WellTyped.{IsWellTyped, is_field, is_maker, is_parent, superclass, maker_scope, initialiser_scope}
use Rattle.heap_arena.specs.declared.kind.Kind.TheVariants as kind
use Rattle.heap_arena.specs.Heap.{Heap, Value, kind_at}
use Rattle.evaluation.specs.declared.outcome.Outcome.{Outcome}
use Rattle.evaluation.specs.declared.outcome.Outcome.TheVariants as outcome
use Rattle.evaluation.specs.World.{World, Run, gives, ◌>>=◌, ◌>>◌}
use Rattle.evaluation.specs.Objects.{write_cell, message_place}
use Rattle.evaluation.specs.Calls.{Parts, finished, called, block, arguments, initialise, initialise_class, build_parent, build, construct}
use Rattle.type_safety.specs.Fits.{FitsType, FitsWorld, FitsScope, types_of_fields}
use Rattle.type_safety.specs.Ends.{Wanted, Meets, EndsAs, EndsIn, AreSafe}
use Rattle.core_tree.proofs.TypeFacts.{found_passes}
use Rattle.type_safety.proofs.Assignable.{to_class}
use Rattle.type_safety.proofs.Lines.{line_cases, superclass_there, is_subclass_refl, is_subclass_up, is_subclass_trans}
use Rattle.type_safety.proofs.Values.{fits_on, of_kind, kind_grown}
use Rattle.type_safety.proofs.Parts.{in_scope, scope_on, gives_ends, value_then_ends, normal_then_ends, normal_then_in, normal_is_statement}
use Rattle.type_safety.proofs.Programs as programs
use Rattle.type_safety.proofs.Methods as methods
use Rattle.type_safety.proofs.BuiltIns as built_ins
use Rattle.type_safety.proofs.Places.{write_cell_ends}
use Rattle.type_safety.proofs.Objects.{field_cell}
use Rattle.type_safety.proofs.Calls.{FitAll, block_in, arguments_ends, called_ends}

module _ (p : Program) (typed : IsWellTyped p) (part : Parts) (safe : AreSafe p part) where
  -- an expression whose value is written to a field of an object
  pub field_written : (s : Scope) (o d at : ℕ) (e : Expr) (t : Ty) (w : World) → FitsScope p s w → IsTrue (fits_part p t (type_of p s e)) → kind_at w.now o ≡ Some (kind.Instance d) → slice_get (types_of_fields p d) at ≡ Some t → EndsAs p Wanted.NormalEnd w ((part.expr e >>= (λ v. write_cell o at v)) w)
  field_written s o d at e t w fits passes is_kind is =
      found_passes (λ from. is_assignable p.classes from t) (type_of p s e) {Q = EndsAs p Wanted.NormalEnd w ((part.expr e >>= (λ v. write_cell o at v)) w)} passes (λ from is_from below.
      value_then_ends p Wanted.NormalEnd from (λ v. write_cell o at v) w (part.expr e w) (safe.expr s e from w is_from fits) (λ v u on of_type.
      let later = kind_grown w.now u.now o (kind.Instance d) on.grown is_kind in
      let fits_v = fits_on p u.now v from t (programs.have_lines p typed) (programs.is_top p typed) of_type below in
      write_cell_ends p o at v t (kind.Instance d) u on.world later (field_cell p u.now o d at t on.world.heap later is).there (λ r other. subst (FitsType p u.now v) (same_Some t r (sym is ∙ other)) fits_v) fits_v))

  -- ---- field initialisers

  -- the initialiser of a field that class c declares
  one_initialised : (o c d at : ℕ) (field : Field) (w : World) → FitsScope p (initialiser_scope c) w → IsTrue (is_field p c field) → kind_at w.now o ≡ Some (kind.Instance d) → slice_get (types_of_fields p d) at ≡ Some field.ty →
      EndsAs p Wanted.NormalEnd w (option_map_or (λ e. part.expr e >>= (λ v. write_cell o at v)) (if field.owner == c then field.start else None) (gives outcome.Normal) w)
  one_initialised o c d at field w fits passes is_kind is = cases (field.owner == c) refl
    where
      start_fits : IsTrue (option_map_or (λ e. fits_part p field.ty (type_of p (initialiser_scope field.owner) e)) field.start true)
      start_fits = search (first_so, second_so)

      started : (start : Option Expr) → IsTrue (option_map_or (λ e. fits_part p field.ty (type_of p (initialiser_scope c) e)) start true) → EndsAs p Wanted.NormalEnd w (option_map_or (λ e. part.expr e >>= (λ v. write_cell o at v)) start (gives outcome.Normal) w)
      started None passes = gives_ends p Wanted.NormalEnd w outcome.Normal fits.world tt
      started (Some e) passes = field_written (initialiser_scope c) o d at e field.ty w fits passes is_kind is

      cases : (mine : Bool) → (field.owner == c) ≡ mine → EndsAs p Wanted.NormalEnd w (option_map_or (λ e. part.expr e >>= (λ v. write_cell o at v)) (if mine then field.start else None) (gives outcome.Normal) w)
      cases true mine = started field.start (subst (λ k. IsTrue (option_map_or (λ e. fits_part p field.ty (type_of p (initialiser_scope k) e)) field.start true)) (eqb-true field.owner c mine) start_fits)
      cases false mine = gives_ends p Wanted.NormalEnd w outcome.Normal fits.world tt

  initialised : (o c d at : ℕ) (class : Class) (fields : List Field) (w : World) → slice_get p.classes c ≡ Some class → IsTrue (is_subclass p.classes d c) → ((i : ℕ) (field : Field) → slice_get fields i ≡ Some field → slice_get class.fields (at + i) ≡ Some field) → FitsScope p (initialiser_scope c) w → kind_at w.now o ≡ Some (kind.Instance d) →
      EndsAs p Wanted.NormalEnd w (initialise p part o c at fields w)
  initialised o c d at class [] w is_class below there fits is_kind = gives_ends p Wanted.NormalEnd w outcome.Normal fits.world tt
  initialised o c d at class (field ∷ fields) w is_class below there fits is_kind =
      let same : at + 0 ≡ at = omega arith in
      let here : slice_get class.fields at ≡ Some field = ap (slice_get class.fields) (sym same) ∙ there 0 field refl in
      let typed_here : slice_get (types_of_fields p d) at ≡ Some field.ty = programs.field_below p typed d c at field.ty below (ap (λ ts. slice_get ts at) (programs.types_at p typed c class is_class) ∙ slice_get-map (λ f. f.ty) class.fields at ∙ ap (option_map (λ f. f.ty)) here) in
      normal_then_ends p Wanted.NormalEnd (initialise p part o c (suc at) fields) w _ (one_initialised o c d at field w fits (programs.field_passes p typed c at class field is_class here) is_kind typed_here) (λ u on.
      initialised o c d (suc at) class fields u is_class below
      (λ i f is. let next : suc at + i ≡ at + suc i = omega arith in ap (slice_get class.fields) next ∙ there (suc i) f is)
      (scope_on p (initialiser_scope c) w u fits on) (kind_grown w.now u.now o (kind.Instance d) on.grown is_kind))

  class_initialised : (o c d : ℕ) (w : World) → IsTrue (is_subclass p.classes d c) → FitsScope p (initialiser_scope c) w → kind_at w.now o ≡ Some (kind.Instance d) → (found : Option Class) → slice_get p.classes c ≡ found → IsTrue (is_some found) → EndsAs p Wanted.NormalEnd w (option_map_or (λ class. initialise p part o c 0 class.fields) found (gives outcome.Stuck) w)
  class_initialised o c d w below fits is_kind None is there = absurd (false≢true there)
  class_initialised o c d w below fits is_kind (Some class) is there = initialised o c d 0 class class.fields w is below (λ i field at. let same : i ≡ 0 + i = omega arith in ap (slice_get class.fields) (sym same) ∙ at) fits is_kind

  -- ---- the superclass

  -- an object of a class is one of its superclass
  below_superclass : (d c b : ℕ) (class : Class) → slice_get p.classes c ≡ Some class → class.parent ≡ Some b → IsTrue (is_subclass p.classes d c) → IsTrue (is_subclass p.classes d b)
  below_superclass d c b class is_class is_parent below =
      let line = programs.have_lines p typed c class is_class in
      let above = superclass_there p.classes c b class line is_class is_parent in
      let itself = is_subclass_refl p.classes b (programs.have_lines p typed b above.0 above.1) in
      is_subclass_trans p.classes d c b (programs.have_lines p typed) below (is_subclass_up p.classes c b b class line is_class is_parent itself)

  -- what a constructor of a class does for an object, in a world that fits
  abbrev ConstructsAt : (ℕ → ℕ → List Value → Run) → ℕ → ℕ → ℕ → Type 0
  ConstructsAt construct o d b = (k : ℕ) (maker : Maker) (args : List Value) (u : World) → slice_get p.makers k ≡ Some maker → maker.owner ≡ b → kind_at u.now o ≡ Some (kind.Instance d) → FitsWorld p u → FitAll p u.now args maker.params → EndsAs p Wanted.NormalEnd u (construct k o args u)

  message_of_built_in : (d b : ℕ) → IsTrue (is_subclass p.classes d b) → IsTrue (is_built_in b) → IsTrue (not (b == 0)) → slice_get (types_of_fields p d) message_place ≡ Some ty.Text
  message_of_built_in d zero below is no_object = absurd (false≢true no_object)
  message_of_built_in d (suc b) below is no_object = programs.field_below p typed d (suc b) 0 ty.Text below (built_ins.message_at p typed b is)

  parent_ends : (construct : ℕ → ℕ → List Value → Run) (s : Scope) (o d b : ℕ) (above : Parent) (w : World) → IsTrue (is_parent p s b above) → FitsScope p s w → kind_at w.now o ≡ Some (kind.Instance d) → IsTrue (is_subclass p.classes d b) → ConstructsAt construct o d b → EndsAs p Wanted.NormalEnd w (build_parent p part construct o above w)
  parent_ends construct s o d b (parent.Message (Some e)) w passes fits is_kind below constructs =
      let rest = second_so (is_built_in b) (not (b == 0) && fits_part p ty.Text (type_of p s e)) passes in
      field_written s o d message_place e ty.Text w fits (second_so (not (b == 0)) (fits_part p ty.Text (type_of p s e)) rest) is_kind
      (message_of_built_in d b below (first_so (is_built_in b) (not (b == 0) && fits_part p ty.Text (type_of p s e)) passes) (first_so (not (b == 0)) (fits_part p ty.Text (type_of p s e)) rest))
  parent_ends construct s o d b (parent.Maker k es) w passes fits is_kind below constructs =
      found_passes (λ maker. maker.owner == b && all_fit p maker.params (map (type_of p s) es)) (slice_get p.makers k) {Q = EndsAs p Wanted.NormalEnd w (arguments p part es [] (construct k o) w)} passes (λ maker is_maker both.
      arguments_ends p typed part safe Wanted.NormalEnd s es maker.params [] [] (construct k o) w (second_so (maker.owner == b) (all_fit p maker.params (map (type_of p s) es)) both) fits tt (λ args u on fit_args.
      constructs k maker args u is_maker (eqb-true maker.owner b (first_so (maker.owner == b) (all_fit p maker.params (map (type_of p s) es)) both)) (kind_grown w.now u.now o (kind.Instance d) on.grown is_kind) on.world fit_args))
  parent_ends construct s o d b _ w passes fits is_kind below constructs = gives_ends p Wanted.NormalEnd w outcome.Normal fits.world tt

  -- ---- the whole

  maker_parent : (maker : Maker) → IsTrue (is_maker p maker) → IsTrue (option_map_or (λ b. is_parent p (maker_scope maker) b maker.parent) (superclass p maker.owner) false)
  maker_parent maker passes = search (first_so, second_so)

  maker_body : (maker : Maker) → IsTrue (is_maker p maker) → IsTrue (is_typed_body p (maker_scope maker) maker.body)
  maker_body maker passes = search (first_so, second_so)

  maker_class : (maker : Maker) → IsTrue (is_maker p maker) → IsTrue (is_some (slice_get p.classes maker.owner))
  maker_class maker passes = search (first_so, second_so)

  build_in : (construct : ℕ → ℕ → List Value → Run) (maker : Maker) (o d b : ℕ) (w : World) → IsTrue (is_maker p maker) → IsTrue (is_parent p (maker_scope maker) b maker.parent) → FitsScope p (maker_scope maker) w → kind_at w.now o ≡ Some (kind.Instance d) → IsTrue (is_subclass p.classes d maker.owner) → IsTrue (is_subclass p.classes d b) → ConstructsAt construct o d b →
      EndsIn p (maker_scope maker) (Wanted.StatementEnd ty.Void false) w (build p part construct o maker w)
  build_in construct maker o d b w passes is_above fits is_kind below below_b constructs =
      let s = maker_scope maker in
      let wanted = Wanted.StatementEnd ty.Void false in
      normal_then_in p s wanted (initialise_class p part o maker.owner >> block p part maker.body) w (build_parent p part construct o maker.parent w)
      (normal_is_statement p s ty.Void false w _ (in_scope p s Wanted.NormalEnd w _ fits (parent_ends construct s o d b maker.parent w is_above fits is_kind below_b constructs))) (λ u fits_u grown.
      let later = kind_grown w.now u.now o (kind.Instance d) grown is_kind in
      normal_then_in p s wanted (block p part maker.body) u (initialise_class p part o maker.owner u)
      (normal_is_statement p s ty.Void false u _ (in_scope p s Wanted.NormalEnd u _ fits_u
      (class_initialised o maker.owner d u below (record { world = fits_u.world; this = fits_u.this; locals = λ at t is. absurd (none-some t is) }) later (slice_get p.classes maker.owner) refl (maker_class maker passes)))) (λ x fits_x further.
      block_in p part safe s false maker.body x (maker_body maker passes) fits_x))

  -- what a constructor's body ends with is what a run of it gives
  finished_meets : (h : Heap) (o : Outcome) → Meets p (Wanted.StatementEnd ty.Void false) h o → Meets p Wanted.NormalEnd h (finished o)
  finished_meets h (outcome.Value v) meets = absurd meets
  finished_meets h outcome.Normal meets = tt
  finished_meets h (outcome.Return v) meets = tt
  finished_meets h outcome.Break meets = absurd (false≢true meets)
  finished_meets h outcome.Continue meets = absurd (false≢true meets)
  finished_meets h _ meets = meets

  pub construct_ends : (levels k : ℕ) (maker : Maker) (o d : ℕ) (args : List Value) (line : List ℕ) (w : World) → slice_get p.makers k ≡ Some maker → line_within levels p.classes maker.owner ≡ Some line → kind_at w.now o ≡ Some (kind.Instance d) → IsTrue (is_subclass p.classes d maker.owner) → FitsWorld p w → FitAll p w.now args maker.params →
      EndsAs p Wanted.NormalEnd w (construct p part levels k o args w)
  unfolding line_within
  construct_ends zero k maker o d args line w is is_line is_kind below fits fit_args = absurd (none-some line is_line)
  construct_ends (suc levels) k maker o d args line w is is_line is_kind below fits fit_args =
      subst (λ found. EndsAs p Wanted.NormalEnd w (option_map_or (λ maker. called p finished (Some o) args maker.locals (build p part (construct p part levels) o maker)) found (gives outcome.Stuck) w)) (sym is)
      (called_ends p typed part safe Wanted.NormalEnd finished (maker_scope maker) maker.params maker.locals (Some o) args (build p part (construct p part levels) o maker) w fits refl (of_kind p w.now o (ty.Class maker.owner) (kind.Instance d) is_kind (to_class p.classes d maker.owner below)) fit_args (λ u fits_u grown.
      found_passes (λ b. is_parent p (maker_scope maker) b maker.parent) (superclass p maker.owner) {Q = EndsIn p (maker_scope maker) (Wanted.StatementEnd ty.Void false) u (build p part (construct p part levels) o maker u)} (maker_parent maker passes) (λ b is_b above.
      option_and_then_some (λ class. class.parent) (slice_get p.classes maker.owner) b is_b (λ class is_class is_parent.
      build_in (construct p part levels) maker o d b u passes above fits_u (kind_grown w.now u.now o (kind.Instance d) grown is_kind) below (below_superclass d maker.owner b class is_class is_parent below) (λ j other others v is_other is_owner kind_v fits_v fit_v.
      line_cases levels p.classes maker.owner line {Q = EndsAs p Wanted.NormalEnd v (construct p part levels j o others v)} is_line
      (λ same is_same no_parent at_top. absurd (none-some b (sym no_parent ∙ ap (λ k. k.parent) (same_Some _ _ (sym is_same ∙ is_class)) ∙ is_parent)))
      (λ same e over is_same has_parent is_over at_line.
      let parent_is : e ≡ b = same_Some _ _ (sym has_parent ∙ ap (λ k. k.parent) (same_Some _ _ (sym is_same ∙ is_class)) ∙ is_parent) in
      construct_ends levels j other o d others over v is_other (ap (line_within levels p.classes) (is_owner ∙ sym parent_is) ∙ is_over) kind_v
      (subst (λ c. IsTrue (is_subclass p.classes d c)) (sym is_owner) (below_superclass d maker.owner b class is_class is_parent below)) fits_v fit_v))))) finished_meets)
    where
      passes : IsTrue (is_maker p maker)
      passes = methods.maker_passes p typed k maker is
