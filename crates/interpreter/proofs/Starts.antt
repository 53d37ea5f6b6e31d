-- What constructors and field initialisers do, one after the other; and that a thrown exception passes by what wants a
-- value.
use Rattle.std.proofs.Common.{◌≡◌, ◌+◌, ℕ, zero, suc, Bool, true, false, nat_le, List, [], ◌∷◌, drop, length, Option, Some, None, option_map, refl, sym, ap, ◌∙◌, slice_get}
use Rattle.std.specs.Option.{option_map_or}
use Rattle.core_tree.specs.declared.built_in.BuiltIn.{BuiltIn}
use Rattle.core_tree.specs.declared.operator.UpOp.{UpOp}
use Rattle.core_tree.specs.declared.expr.Expr.{Expr}
use Rattle.core_tree.specs.declared.stmt.Stmt.{Stmt}
use Rattle.core_tree.specs.declared.program.Class.{Class}
use Rattle.core_tree.specs.declared.program.Field.{Field}
use Rattle.core_tree.specs.declared.program.Program.{Program}
use Rattle.core_tree.specs.BuiltIn.{number_of}
use Rattle.heap_arena.specs.declared.kind.Kind.TheVariants as kind
use Rattle.heap_arena.specs.Heap.{Value, cell_count, most_cells}
use Rattle.evaluation.specs.declared.outcome.Outcome.TheVariants as outcome
use Rattle.evaluation.specs.World.{World, Run, gives, value_then, normal_then, ◌>>=◌, ◌>>◌}
use Rattle.evaluation.specs.declared.computed.Computed.{Computed}
use Rattle.evaluation.specs.declared.computed.Computed.TheVariants as result
use Rattle.evaluation.specs.declared.place.Place.{Place}
use Rattle.evaluation.specs.Values.{update_value}
use Rattle.evaluation.specs.Objects.{computed, make, trap, write_cell, write_place}
use Rattle.evaluation.specs.Calls.{Parts, block, construct, initialise}
use Rattle.interpreter.specs.declared.start.Start.{Start}
use Rattle.interpreter.specs.Functions.{run_maker, updated}
use Rattle.interpreter.specs.Starts.{FieldStart, initialised_then, initialiser_in, next_start, start_of, started}

pub construct_step : (p : Program) (part : Parts) (levels rest k o : ℕ) (args : List Value) (w : World)
    → levels ≡ suc rest
    → construct p part levels k o args w
    ≡ option_map_or (λ maker. run_maker p part rest maker o args) (slice_get p.makers k) (gives outcome.Stuck) w
construct_step p part levels rest k o args w is = rw is refl

tail_of : {A : Type 0} (x y : A) (xs ys : List A) → ◌≡◌ {A = List A} (x ∷ xs) (y ∷ ys) → xs ≡ ys
tail_of x y xs ys is = cc

tail_drop : {A : Type 0} (all : List A) (at : ℕ) (x : A) (xs : List A) → x ∷ xs ≡ drop at all → xs ≡ drop (suc at) all
tail_drop [] zero x xs e = cc
tail_drop [] (suc at) x xs e = cc
tail_drop (y ∷ ys) zero x xs e = tail_of x y xs ys e
tail_drop (y ∷ ys) (suc at) x xs e = tail_drop ys at x xs e

-- ---- field initialisers

-- one initialiser, or none, and those after it
one_start : (p : Program) (part : Parts) (o c at : ℕ) (all fields : List Field) (w : World) (e : Option Expr)
    → fields ≡ drop (suc at) all
    → initialise p part o c (suc at) fields w
    ≡ option_map_or (λ (s : FieldStart). started p part o c s.at s.value all) (next_start c (suc at) fields)
    (gives outcome.Normal) w
    → (option_map_or (λ e. part.expr e >>= (λ v. write_cell o at v)) e (gives outcome.Normal) >> initialise p part o c (suc at) fields) w
    ≡ option_map_or (λ (s : FieldStart). started p part o c s.at s.value all) (option_map_or (λ e. Some (record { at = at; value = e })) e (next_start c (suc at) fields)) (gives outcome.Normal) w
one_start p part o c at all fields w None rest follows = follows
one_start p part o c at all fields w (Some e) rest follows = ap (λ fs. ((part.expr e >>= (λ v. write_cell o at v)) >> initialise p part o c (suc at) fs) w) rest

-- the initialisers are the first of them and those after it
starts : (p : Program) (part : Parts) (o c at : ℕ) (all fields : List Field) (w : World) → fields ≡ drop at all
    → initialise p part o c at fields w
    ≡ option_map_or (λ (s : FieldStart). started p part o c s.at s.value all) (next_start c at fields)
    (gives outcome.Normal) w
starts p part o c at all [] w is = refl
starts p part o c at all (field ∷ fields) w is =
    one_start p part o c at all fields w (initialiser_in c field) (tail_drop all at field fields is) (starts p part o c (suc at) all fields w (tail_drop all at field fields is))

-- what the search for the next one found
pub found_start : (c from : ℕ) (slice all : List Field) (r : Option Start) (s : Start) → slice ≡ all
    → option_map start_of r ≡ next_start c from (drop from slice) → r ≡ Some s
    → next_start c from (drop from all) ≡ Some (start_of s)
found_start c from slice all r s same ens is = ap (λ fs. next_start c from (drop from fs)) (sym same) ∙ sym ens ∙ ap (option_map start_of) is

pub found_none : (c from : ℕ) (slice all : List Field) (r : Option Start) → slice ≡ all
    → option_map start_of r ≡ next_start c from (drop from slice) → r ≡ None → next_start c from (drop from all) ≡ None
found_none c from slice all r same ens is = ap (λ fs. next_start c from (drop from fs)) (sym same) ∙ sym ens ∙ ap (option_map start_of) is

pub starts_with : (p : Program) (part : Parts) (o c at : ℕ) (all : List Field) (s : FieldStart) (w : World)
    → next_start c at (drop at all) ≡ Some s
    → initialise p part o c at (drop at all) w ≡ started p part o c s.at s.value all w
starts_with p part o c at all s w is = starts p part o c at all (drop at all) w refl ∙ ap (λ n. option_map_or (λ (s : FieldStart). started p part o c s.at s.value all) n (gives outcome.Normal) w) is

pub starts_none : (p : Program) (part : Parts) (o c at : ℕ) (all : List Field) (w : World)
    → next_start c at (drop at all) ≡ None → initialise p part o c at (drop at all) w ≡ gives outcome.Normal w
starts_none p part o c at all w is = starts p part o c at all (drop at all) w refl ∙ ap (λ n. option_map_or (λ (s : FieldStart). started p part o c s.at s.value all) n (gives outcome.Normal) w) is

pub then_some : (p : Program) (part : Parts) (o c : ℕ) (all : List Field) (body rest : List Stmt) (s : FieldStart)
    (w : World)
    → next_start c 0 (drop 0 all) ≡ Some s → rest ≡ body
    → initialised_then p part o c all body w ≡ normal_then (block p part rest) (started p part o c s.at s.value all w)
then_some p part o c all body rest s w is same = ap (normal_then (block p part body)) (starts_with p part o c 0 all s w is) ∙ ap (λ ss. normal_then (block p part ss) (started p part o c s.at s.value all w)) (sym same)

pub then_none : (p : Program) (part : Parts) (o c : ℕ) (all : List Field) (body rest : List Stmt) (w : World)
    → next_start c 0 (drop 0 all) ≡ None → rest ≡ body → initialised_then p part o c all body w ≡ block p part rest w
then_none p part o c all body rest w is same = ap (normal_then (block p part body)) (starts_none p part o c 0 all w is) ∙ ap (λ ss. block p part ss w) (sym same)

-- ---- exceptions

-- an exception that is thrown isn't a value
pub trapped : (p : Program) (c : BuiltIn) (go : Value → Run) (w : World) → value_then go (trap p c w) ≡ trap p c w
trapped p c go w = cases (slice_get p.classes (number_of c))
  where
    made : (n : ℕ) (b : Bool) → nat_le (cell_count w.now + (1 + n)) most_cells ≡ b
        → value_then go (make p (kind.Instance (number_of c)) n (λ o. gives (outcome.Throw o)) w)
        ≡ make p (kind.Instance (number_of c)) n (λ o. gives (outcome.Throw o)) w
    made n true is = rw is refl
    made n false is = rw is refl

    cases : (class : Option Class)
        → value_then go (option_map_or (λ class. make p (kind.Instance (number_of c)) (length class.fields) (λ o. gives (outcome.Throw o))) class (gives outcome.Stuck) w) ≡ option_map_or (λ class. make p (kind.Instance (number_of c)) (length class.fields) (λ o. gives (outcome.Throw o))) class (gives outcome.Stuck) w
    cases None = refl
    cases (Some class) = made (length class.fields) _ refl

-- an operator that throws
pub trap_updates : (p : Program) (op : UpOp) (old : Value) (place : Place) (v : Value) (came : Computed) (c : BuiltIn)
    (w : World)
    → came ≡ update_value op old v → came ≡ result.Traps c → updated p op old place v w ≡ trap p c w
trap_updates p op old place v came c w is traps = ap (λ x. value_then (λ new. write_place p place new) (computed p x w)) (sym is ∙ traps) ∙ trapped p c (λ new. write_place p place new) w
