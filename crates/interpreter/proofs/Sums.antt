-- An object has no more cells than its heap may have.
use Rattle.std.proofs.Common.{◌≡◌, ◌<◌, ◌≤◌, ◌^◌, ℕ, false, List, length, Option, Some, None, refl, subst, arith, option_map, slice_get, is_some}
use Rattle.std.specs.Prelude.{option_and_then}
use Rattle.std.proofs.lemmas.Option.{none-some, slice_get_past, slice_get_within, get_or_from_slice_get}
use Rattle.std.proofs.lemmas.List.Sums.{get_or-le-sum_by}
use Rattle.std.proofs.lemmas.List.Elements.{All-head}
use Rattle.core_tree.specs.declared.ty.Ty.{Ty}
use Rattle.heap_arena.specs.declared.kind.Kind.{Kind}
use Rattle.heap_arena.specs.declared.object.Object.{Object}
use Rattle.heap_arena.specs.Heap.{Heap, cell_count, most_cells, object_cells}
use Rattle.heap_arena.specs.Marks.{IsSound, HasFewCells}
use Rattle.evaluation.specs.Objects.{elements_count, has_cell}
use Rattle.interpreter.proofs.Leaves.{inj}

object_within : (h : Heap) (o : ℕ) (object : Object ℕ) → slice_get h o ≡ Some object
    → object_cells object ≤ cell_count h
object_within h o object is = subst (λ x. object_cells x ≤ cell_count h) (get_or_from_slice_get h o object object is) (get_or-le-sum_by object_cells h o object (slice_get_within h o object is))

few : (h : Heap) (marks : List Heap) → IsSound h marks → cell_count h ≤ most_cells
few h marks sound = All-head HasFewCells h marks sound.few_cells

counted : (kinds : Kind → Option Ty) (found : Option (Object ℕ)) (n : ℕ)
    → option_and_then (λ t. option_map (λ object. length object.cells) found) (option_and_then kinds (option_map (λ object. object.kind) found)) ≡ Some n
    → (object : Object ℕ) × (found ≡ Some object) × (length object.cells ≡ n)
counted kinds None n e = absurd (none-some _ e)
counted kinds (Some object) n e = inner (kinds object.kind) e
  where
    inner : (t : Option Ty) → option_and_then (λ t. Some (length object.cells)) t ≡ Some n
        → (found : Object ℕ) × (Some object ≡ Some found) × (length found.cells ≡ n)
    inner None e = absurd (none-some _ e)
    inner (Some t) e = (object, refl, inj (length object.cells) n e)

pub count_fits : (h : Heap) (marks : List Heap) (o n : ℕ) → IsSound h marks → elements_count h o ≡ Some n → n < 2 ^ 31
count_fits h marks o n sound is =
    let p = counted _ (slice_get h o) n is in
    let le = object_within h o p.0 p.1 in
    let most = few h marks sound in
    omega (arith, le, most, p.2)

pub no_cell : (h : Heap) (marks : List Heap) (o at : ℕ) → IsSound h marks → most_cells ≤ at → has_cell h o at ≡ false
no_cell h marks o at sound far = cases (slice_get h o) refl
  where
    cases : (found : Option (Object ℕ)) → slice_get h o ≡ found
        → is_some (option_and_then (λ object. slice_get object.cells at) found) ≡ false
    cases None is = refl
    cases (Some object) is =
        let le = object_within h o object is in
        let most = few h marks sound in
        rw (slice_get_past object.cells at (omega (arith, le, most, far))) refl
