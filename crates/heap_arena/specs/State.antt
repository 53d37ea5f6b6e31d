-- What a store means at one moment, and what its calls make of it.
use Rattle.std.specs.Prelude.{◌≡◌, ℕ, ◌<◌, List, [], ◌∷◌, drop, length}
use Rattle.core_tree.specs.declared.ty.Ty.{Ty}
use Rattle.core_tree.specs.declared.program.Program.{Program}
use Rattle.heap_arena.specs.declared.kind.Kind.{Kind}
use Rattle.heap_arena.specs.Heap.{Heap, Value, field_types_of, made, written}
use Rattle.heap_arena.specs.Marks.{last_mark}

-- what a store means at one moment: the heap of now, the heaps that are marked, the newest first, and the types of the
-- fields of each class
pub record StoreState : Type 0 where
  pub now : Heap
  pub marks : List Heap
  pub field_types : List (List Ty)

-- no object and no mark, for the classes of a program
abbrev pub new_state : Program → StoreState
new_state p = record { now = []; marks = []; field_types = field_types_of p }

-- with a new object of this kind, with that many cells
abbrev pub after_make : StoreState → Kind → ℕ → StoreState
after_make s kind n = record s { now = made s.field_types s.now kind n }

-- with another value at a place of the object at a position
abbrev pub after_write : StoreState → ℕ → ℕ → Value → StoreState
after_write s p at v = record s { now = written s.now p at v }

-- with the heap of now marked
abbrev pub after_mark : StoreState → StoreState
after_mark s = record s { marks = s.now ∷ s.marks }

-- with the newest mark as the heap of now, and that mark taken off
abbrev pub after_undo : StoreState → StoreState
after_undo s = record s { now = last_mark s.marks; marks = drop 1 s.marks }

-- with the newest mark taken off
abbrev pub after_keep : StoreState → StoreState
after_keep s = record s { marks = drop 1 s.marks }

-- nothing but the heap of now may be another one
abbrev pub ChangesHeap : StoreState → StoreState → Type 0
ChangesHeap before after = after ≡ record before { now = after.now }

-- an object that is there before and after has the same position in both
abbrev pub KeepsPositions : {R : Type 0} → (R → ℕ) → (R → ℕ) → StoreState → StoreState → Type 0
KeepsPositions {R} before after s next =
    (o : R) → before o < length s.now → before o < length next.now → after o ≡ before o
