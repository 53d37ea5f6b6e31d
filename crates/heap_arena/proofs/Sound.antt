-- What holds at every moment is kept by each call.
use Rattle.std.proofs.Common.{◌≡◌, ℕ, zero, ◌+◌, ◌≤◌, ◌∙◌, List, [], ◌∷◌, length, map, Option, Some, None, Result, Ok, Err, OnOk, OnErr, MatchOption, ◌++◌, slice_get, arith, refl, subst}
use Rattle.std.specs.Option.{option_map, option_map_or}
use Rattle.std.proofs.lemmas.List.{length-map, length-replicate}
use Rattle.std.proofs.lemmas.List.Elements.{All-head, All-tail, All-cons}
use Rattle.core_tree.specs.declared.ty.Ty.{Ty}
use Rattle.heap_arena.specs.declared.kind.Kind.{Kind}
use Rattle.heap_arena.specs.declared.kind.Kind.TheVariants.{Instance, Array}
use Rattle.heap_arena.specs.Heap.{Heap, Value, cell_count, most_cells, default_of, defaults, FitsKind, made, written, RefersWithin}
use Rattle.heap_arena.specs.Marks.{IsSound, IsClosed, HasFewCells, Begins}
use Rattle.heap_arena.proofs.Cells.{cells_of_made, cells_of_written}
use Rattle.heap_arena.proofs.Closed.{closed_made, closed_written}
use Rattle.heap_arena.proofs.Nested.{begins_made, begins_written, nested_step, nested_marked, nested_undone}

-- a new object has as many values as its kind asks for
pub length_of_defaults : (types : List (List Ty)) (kind : Kind) (n : ℕ) → FitsKind types kind n → length (defaults types kind n) ≡ n
length_of_defaults types (Instance c) n fits = cases (slice_get types c) fits
  where
    cases : (found : Option (List Ty)) → option_map length found ≡ Some n → length (option_map_or (map default_of) found []) ≡ n
    cases None is = cc
    cases (Some ts) is = let same : length ts ≡ n = cc in length-map ts default_of ∙ same
length_of_defaults types (Array t) n fits = length-replicate n (default_of t)

-- another heap, which the heap of now begins, takes its place
sound_step : (h next : Heap) (marks : List Heap) → Begins h next → IsClosed next → HasFewCells next → IsSound h marks → IsSound next marks
sound_step h next marks begins closed few sound = record {
  nested = nested_step h next marks begins sound.nested;
  closed = All-cons IsClosed next marks closed (All-tail IsClosed h marks sound.closed);
  few_cells = All-cons HasFewCells next marks few (All-tail HasFewCells h marks sound.few_cells);
}

pub sound_written : (h : Heap) (marks : List Heap) (p at : ℕ) (v : Value) → RefersWithin (length h) v → IsSound h marks → IsSound (written h p at v) marks
sound_written h marks p at v within sound =
    let few : cell_count h ≤ most_cells = All-head HasFewCells h marks sound.few_cells in
    sound_step h (written h p at v) marks (begins_written h p at v) (closed_written h p at v within (All-head IsClosed h marks sound.closed))
    (omega (arith, few, cells_of_written h p at v)) sound

pub sound_made : (h : Heap) (marks : List Heap) (types : List (List Ty)) (kind : Kind) (n : ℕ) → FitsKind types kind n → cell_count h + (1 + n) ≤ most_cells → IsSound h marks → IsSound (made types h kind n) marks
sound_made h marks types kind n fits few sound =
    sound_step h (made types h kind n) marks (begins_made h (record { kind = kind; cells = defaults types kind n }))
    (closed_made h types kind n (All-head IsClosed h marks sound.closed))
    (omega (arith, few, length_of_defaults types kind n fits, cells_of_made h (record { kind = kind; cells = defaults types kind n }))) sound

pub sound_marked : (h : Heap) (marks : List Heap) → IsSound h marks → IsSound h (h ∷ marks)
sound_marked h marks sound = record {
  nested = nested_marked h marks sound.nested;
  closed = All-cons IsClosed h (h ∷ marks) (All-head IsClosed h marks sound.closed) sound.closed;
  few_cells = All-cons HasFewCells h (h ∷ marks) (All-head HasFewCells h marks sound.few_cells) sound.few_cells;
}

pub sound_undone : (h m : Heap) (marks : List Heap) → IsSound h (m ∷ marks) → IsSound m marks
sound_undone h m marks sound = record {
  nested = nested_undone h m marks sound.nested;
  closed = All-tail IsClosed h (m ∷ marks) sound.closed;
  few_cells = All-tail HasFewCells h (m ∷ marks) sound.few_cells;
}

pub sound_kept : (h m : Heap) (marks : List Heap) → IsSound h (m ∷ marks) → IsSound h marks
sound_kept h m marks sound =
    sound_step m h marks (sound.nested zero m h refl refl) (All-head IsClosed h (m ∷ marks) sound.closed)
    (All-head HasFewCells h (m ∷ marks) sound.few_cells) (sound_undone h m marks sound)

-- the store's calls, as their steps leave it: a step that was refused changed nothing
pub sound_after_make : {A E : Type 0} (pushed : Result A E) (h next : Heap) (marks : List Heap) (types : List (List Ty)) (kind : Kind) (n : ℕ) (values : List Value) → FitsKind types kind n → cell_count h + (1 + n) ≤ most_cells → values ≡ defaults types kind n → OnOk pushed (next ≡ h ++ record { kind = kind; cells = values } ∷ []) → OnErr pushed (next ≡ h) → IsSound h marks → IsSound next marks
sound_after_make (Ok a) h next marks types kind n values fits few are ok err sound =
    rw (ok, are) (sound_made h marks types kind n fits few sound)
sound_after_make (Err e) h next marks types kind n values fits few are ok err sound = rw err sound

pub sound_after_mark : {A E : Type 0} (pushed : Result A E) (h copy : Heap) (marks next : List Heap) → copy ≡ h → OnOk pushed (next ≡ copy ∷ marks) → OnErr pushed (next ≡ marks) → IsSound h marks → IsSound h next
sound_after_mark (Ok a) h copy marks next is ok err sound = rw (ok, is) (sound_marked h marks sound)
sound_after_mark (Err e) h copy marks next is ok err sound = rw err sound

pub sound_after_undo : (h m : Heap) (marks next : List Heap) → marks ≡ m ∷ next → IsSound h marks → IsSound m next
sound_after_undo h m marks next are sound = sound_undone h m next (subst (λ ms. IsSound h ms) are sound)

pub sound_after_keep : (popped : Option Heap) (h : Heap) (marks next : List Heap) → MatchOption popped ((marks ≡ []) × (next ≡ [])) (λ m. marks ≡ m ∷ next) → IsSound h marks → IsSound h next
sound_after_keep None h marks next are sound = rw are.1 (subst (λ ms. IsSound h ms) are.0 sound)
sound_after_keep (Some m) h marks next are sound = sound_kept h m next (subst (λ ms. IsSound h ms) are sound)
