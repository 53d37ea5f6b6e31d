-- What holds of a heap and of the heaps that are marked, the newest mark first.
use Rattle.std.specs.Prelude.{◌≡◌, ℕ, suc, ◌≤◌, List, [], ◌∷◌, length, map, take, All, Some, slice_get}
use Rattle.heap_arena.specs.declared.kind.Kind.{Kind}
use Rattle.heap_arena.specs.declared.object.Object.{Object}
use Rattle.heap_arena.specs.Heap.{Heap, RefersWithin, cell_count, most_cells}

-- the heap that was marked last
abbrev pub last_mark : List Heap → Heap
last_mark [] = []
last_mark (m ∷ older) = m

-- the kind of an object and its number of cells, which never change
pub record Shape : Type 0 where
  pub kind : Kind
  pub cells : ℕ

abbrev pub shape_of : Object ℕ → Shape
shape_of object = record { kind = object.kind; cells = length object.cells }

-- the second heap begins with the objects of the first, with the same kinds and numbers of cells
abbrev pub Begins : Heap → Heap → Type 0
Begins m h = map shape_of m ≡ take (length m) (map shape_of h)

-- each mark begins the next newer one, and the newest begins the heap of now
abbrev pub AreNested : Heap → List Heap → Type 0
AreNested now marks =
    (k : ℕ) (m h : Heap) → slice_get (now ∷ marks) (suc k) ≡ Some m → slice_get (now ∷ marks) k ≡ Some h → Begins m h

-- each reference in the heap is to an object of the heap
abbrev pub IsClosed : Heap → Type 0
IsClosed h = All (λ object. All (RefersWithin (length h)) object.cells) h

abbrev pub HasFewCells : Heap → Type 0
HasFewCells h = cell_count h ≤ most_cells

-- what holds at every moment of the heap of now and the marks
pub record IsSound (now : Heap) (marks : List Heap) : Type 0 where
  -- an object keeps its kind and its number of cells from each mark to the next newer one, and to now
  pub nested : AreNested now marks
  -- in each of these heaps references are to objects of that heap
  pub closed : All IsClosed (now ∷ marks)
  -- each of these heaps has at most 16,777,216 cells
  pub few_cells : All HasFewCells (now ∷ marks)
