-- What reads, writes and prints do, by cases on what is there.
use Rattle.std.proofs.Common.{◌≡◌, ◌&&◌, ◌<◌, ◌≤◌, ℕ, Bool, List, ◌∷◌, length, Option, Some, None, refl, sym, ap, ◌∙◌, get_or, option_map, slice_set}
use Rattle.std.specs.Option.{option_map_or}
use Rattle.std.proofs.lemmas.Bool.{lt-ltb, le-ltb}
use Rattle.std.specs.List.{between}
use Rattle.std.proofs.lemmas.Slice.{first_rest}
use Rattle.heap_arena.specs.Heap.{Value}
use Rattle.evaluation.specs.declared.outcome.Outcome.TheVariants as outcome
use Rattle.evaluation.specs.declared.place.Place.{Place}
use Rattle.evaluation.specs.declared.place.Place.TheVariants as location
use Rattle.evaluation.specs.World.{World, gives}
use Rattle.evaluation.specs.Objects.{found, read_place, write_local}
use Rattle.evaluation.specs.Execute.{printed, prints}
use Rattle.interpreter.specs.Functions.{place_value}

-- what Some holds
pub inj : {A : Type 0} (a b : A) → Some a ≡ Some b → a ≡ b
inj a b e = cc

pub reads : (place : Place) (w : World) → read_place place w ≡ found (place_value w.locals w.now place) w
reads (location.Local at) w = refl
reads (location.Cell o at) w = refl

pub wrote_local : (at : ℕ) (v : Value) (w : World) → at < length w.locals
    → write_local at v w ≡ gives outcome.Normal (record w { locals = slice_set w.locals at v })
wrote_local at v w lt = rw (lt-ltb at (length w.locals) lt) refl

pub wrote_no_local : (at : ℕ) (v : Value) (w : World) → length w.locals ≤ at
    → write_local at v w ≡ gives outcome.Stuck w
wrote_no_local at v w le = rw (le-ltb at (length w.locals) le) refl

pub printed_bytes : (line : Bool) (shown : Option (List ℕ)) (bytes : List ℕ) (w : World)
    → Some bytes ≡ option_map (printed line) shown
    → option_map_or (λ t. prints (printed line t)) shown (gives outcome.Stuck) w ≡ prints bytes w
printed_bytes line None bytes w e = cc
printed_bytes line (Some t) bytes w e = ap (λ b. prints b w) (sym (inj bytes (printed line t) e))

pub first_and_rest : {A : Type 0} (xs : List A) (x : A) → 1 ≤ length xs → x ≡ get_or xs 0 x
    → xs ≡ x ∷ between 1 (length xs) xs
first_and_rest xs x le is = first_rest xs x le ∙ ap (λ h. h ∷ between 1 (length xs) xs) (sym is)
