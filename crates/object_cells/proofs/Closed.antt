-- A value that a cell holds refers to an object that is there.
use Rattle.std.proofs.Common.{◌≡◌, ℕ, List, length, All, Option, Some, None, slice_get, refl, subst}
use Rattle.std.specs.Prelude.{option_and_then}
use Rattle.std.proofs.lemmas.List.Elements.{All-head, All-get_or}
use Rattle.std.proofs.lemmas.Option.{none-some, slice_get_within, get_or_from_slice_get}
use Rattle.heap_arena.specs.declared.object.Object.{Object}
use Rattle.heap_arena.specs.Heap.{Heap, Value, cell_at, RefersWithin}
use Rattle.heap_arena.specs.Marks.{IsSound, IsClosed}

-- what holds of each item holds of one that is looked up
holds_of : {X : Type 0} (P : X → Type 0) (xs : List X) (k : ℕ) (x : X) → slice_get xs k ≡ Some x → All P xs → P x
holds_of P xs k x is all = subst P (get_or_from_slice_get xs k x x is) (All-get_or P xs k x (slice_get_within xs k x is) all)

within_closed : (h : Heap) (o at : ℕ) (v : Value) → IsClosed h → cell_at h o at ≡ Some v → RefersWithin (length h) v
within_closed h o at v closed is = cases (slice_get h o) refl is
  where
    cases : (found : Option (Object ℕ)) → slice_get h o ≡ found → option_and_then (λ object. slice_get object.cells at) found ≡ Some v → RefersWithin (length h) v
    cases None is_object e = absurd (none-some _ e)
    cases (Some object) is_object e =
        holds_of (RefersWithin (length h)) object.cells at v e
        (holds_of (λ object. All (RefersWithin (length h)) object.cells) h o object is_object closed)

pub within : (h : Heap) (marks : List Heap) (o at : ℕ) (v : Value) → IsSound h marks → cell_at h o at ≡ Some v → RefersWithin (length h) v
within h marks o at v sound = within_closed h o at v (All-head IsClosed h marks sound.closed)
