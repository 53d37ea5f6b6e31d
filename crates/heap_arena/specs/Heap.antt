-- What a heap is, and how it changes.
use Rattle.std.specs.Prelude.{◌≡◌, ℕ, pos, ◌+◌, ◌<◌, false, List, [], ◌∷◌, ◌++◌, length, map, replicate, sum_by, Option, Some, None, option_map, option_and_then, slice_get, slice_set}
use Rattle.std.specs.Option.{option_map_or}
use Rattle.core_tree.specs.declared.ty.Ty.{Ty, out-Ty}
use Rattle.core_tree.specs.declared.ty.Ty.TheOpen.{Ty-F}
use Rattle.core_tree.specs.declared.program.Program.{Program}
use Rattle.heap_arena.specs.declared.kind.Kind.{Kind}
use Rattle.heap_arena.specs.declared.kind.Kind.TheVariants.{Instance, Array}
use Rattle.heap_arena.specs.declared.cell.Cell.{Cell}
use Rattle.heap_arena.specs.declared.object.Object.{Object}
use Rattle.heap_arena.specs.declared.cell.Cell.TheVariants as value

-- a value: a number, a boolean, null, the object at a position, or a text
abbrev pub Value : Type 0
Value = Cell ℕ

-- a heap: its objects by position, each a kind with its fields or elements in order
abbrev pub Heap : Type 0
Heap = List (Object ℕ)

-- ---- cells

-- an object takes one cell, and one for each field or element
abbrev pub object_cells : Object ℕ → ℕ
object_cells object = 1 + length object.cells

abbrev pub cell_count : Heap → ℕ
cell_count h = sum_by object_cells h

-- the most cells of a heap
abbrev pub most_cells : ℕ
most_cells = 16777216

-- ---- making objects

-- the value with which a variable of a type begins (JLS 4.12.5)
abbrev pub default_of : Ty → Value
default_of t = elim (out-Ty t) [ Ty-F.Int ↦ value.Int (pos 0) | Ty-F.Bool ↦ value.Bool false | _ ↦ value.Null ]

-- the values with which an object begins, given the field types of each class, its kind and its number of cells
abbrev pub defaults : List (List Ty) → Kind → ℕ → List Value
defaults field_types (Instance c) n = option_map_or (map default_of) (slice_get field_types c) []
defaults field_types (Array t) n = replicate n (default_of t)

-- the class is there and has that many fields; an array may have any number of elements
abbrev pub FitsKind : List (List Ty) → Kind → ℕ → Type 0
FitsKind field_types (Instance c) n = option_map length (slice_get field_types c) ≡ Some n
FitsKind field_types (Array t) n = Unit {0}

-- the heap with a new object after the others
abbrev pub made : List (List Ty) → Heap → Kind → ℕ → Heap
made field_types h kind n = h ++ record { kind = kind; cells = defaults field_types kind n } ∷ []

-- ---- reading and writing

-- the value at a place of the object at a position
abbrev pub cell_at : Heap → ℕ → ℕ → Option Value
cell_at h p at = option_and_then (λ object. slice_get object.cells at) (slice_get h p)

-- the object with another value at a place
abbrev pub with_cell : Object ℕ → ℕ → Value → Object ℕ
with_cell object at v = record object { cells = slice_set object.cells at v }

-- the heap with another value at a place of the object at a position
abbrev pub written : Heap → ℕ → ℕ → Value → Heap
written h p at v = option_map_or (λ object. slice_set h p (with_cell object at v)) (slice_get h p) h

-- ---- kinds

-- the kind of the object at a position
abbrev pub kind_at : Heap → ℕ → Option Kind
kind_at h p = option_map (λ object. object.kind) (slice_get h p)

-- the class of the instance at a position
abbrev pub class_at : Heap → ℕ → Option ℕ
class_at h p = option_and_then (λ kind. elim kind [ Instance c ↦ Some c | Array t ↦ None ]) (kind_at h p)

-- ---- references

-- an object that a value refers to is among the first n
abbrev pub RefersWithin : ℕ → Value → Type 0
RefersWithin n v = (p : ℕ) → v ≡ value.Ref p → p < n

-- a value of a program, where objects have these positions
abbrev pub shown : {R : Type 0} → (R → ℕ) → Cell R → Value
shown position_of (value.Int n) = value.Int n
shown position_of (value.Bool b) = value.Bool b
shown position_of value.Null = value.Null
shown position_of (value.Ref o) = value.Ref (position_of o)
shown position_of (value.Text text) = value.Text text

-- the types of the fields of each class of a program
abbrev pub field_types_of : Program → List (List Ty)
field_types_of p = map (λ class. map (λ field. field.ty) class.fields) p.classes
