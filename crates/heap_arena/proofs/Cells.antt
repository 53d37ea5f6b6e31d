-- How many cells a heap and its objects have, and what a call does to the number.
use Rattle.std.proofs.Common.{◌≡◌, ℕ, ◌+◌, ◌≤◌, ◌<◌, [], ◌∷◌, ◌++◌, length, Option, Some, None, slice_get, get_or, arith, refl, ap}
use Rattle.std.specs.Prelude.{slice_set}
use Rattle.std.specs.Option.{option_map_or}
use Rattle.std.proofs.lemmas.List.{length-set}
use Rattle.std.proofs.lemmas.List.Sums.{sum_by-append, sum_by-cons, sum_by-set, get_or-le-sum_by}
use Rattle.std.proofs.lemmas.Option.{slice_get_within, get_or_from_slice_get}
use Rattle.heap_arena.specs.declared.object.Object.{Object}
use Rattle.heap_arena.specs.Heap.{Heap, Value, object_cells, cell_count, with_cell, written}

-- each object has a cell
pub length_le_cells : (h : Heap) → length h ≤ cell_count h
length_le_cells [] = omega arith
length_le_cells (o ∷ os) = omega (arith, length_le_cells os, sum_by-cons object_cells o os)

-- an object has fewer fields or elements than the heap has cells
pub size_of_object : (h : Heap) (p : ℕ) (d : Object ℕ) → p < length h → length (get_or h p d).cells < cell_count h
size_of_object h p d lt = omega (arith, get_or-le-sum_by object_cells h p d lt)

-- a new object adds its cells
pub cells_of_made : (h : Heap) (o : Object ℕ) → cell_count (h ++ o ∷ []) ≡ cell_count h + (1 + length o.cells)
cells_of_made h o = omega (arith, sum_by-append object_cells h (o ∷ []), sum_by-cons object_cells o [])

-- writing leaves the number of cells
pub cells_of_written : (h : Heap) (p at : ℕ) (v : Value) → cell_count (written h p at v) ≡ cell_count h
cells_of_written h p at v = cases (slice_get h p) refl
  where
    cases : (found : Option (Object ℕ)) → slice_get h p ≡ found → cell_count (option_map_or (λ object. slice_set h p (with_cell object at v)) found h) ≡ cell_count h
    cases None is = refl
    cases (Some o) is =
        omega (arith, sum_by-set object_cells h p (with_cell o at v) o (slice_get_within h p o is), ap object_cells (get_or_from_slice_get h p o o is), length-set o.cells at v)
