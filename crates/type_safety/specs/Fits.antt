-- Which values a variable of a type may hold, and when the objects of a heap and a world fit their types.
use Rattle.std.specs.Prelude.{◌≡◌, ℕ, ◌≤◌, Bool, ◌||◌, IsTrue, List, [], length, Option, Some, None, option_map, slice_get}
use Rattle.std.specs.Option.{option_map_or}
use Rattle.core_tree.specs.Text.{code_units}
use Rattle.core_tree.specs.declared.ty.Ty.{Ty}
use Rattle.core_tree.specs.declared.ty.Ty.TheVariants as ty
use Rattle.core_tree.specs.declared.program.Program.{Program}
use Rattle.core_tree.specs.Types.{is_int, is_boolean, is_string, is_null, is_void, is_object, is_value_type}
use Rattle.core_tree.specs.Typing.{Scope}
use Rattle.heap_arena.specs.declared.cell.Cell.TheVariants as value
use Rattle.heap_arena.specs.declared.kind.Kind.{Kind}
use Rattle.heap_arena.specs.declared.kind.Kind.TheVariants as kind
use Rattle.heap_arena.specs.declared.object.Object.{Object}
use Rattle.heap_arena.specs.Heap.{Heap, Value, field_types_of}
use Rattle.heap_arena.specs.Marks.{Shape, shape_of}
use Rattle.evaluation.specs.World.{World}
use Rattle.evaluation.specs.Values.{most_units}
use Rattle.evaluation.specs.Objects.{object_fits}
use Rattle.evaluation.specs.Calls.{most_live}

-- ---- values

-- a type of which null is a value; a call of a method without a result has the value null too
abbrev pub has_null : Ty → Bool
has_null t = is_null t || (is_string t || (is_object t || is_void t))

-- the value is of this type: an object that is there and whose class or elements fit, a text that isn't too long
abbrev pub FitsType : Program → Heap → Value → Ty → Type 0
FitsType p h (value.Int n) t = IsTrue (is_int t)
FitsType p h (value.Bool b) t = IsTrue (is_boolean t)
FitsType p h value.Null t = IsTrue (has_null t)
FitsType p h (value.Ref o) t = IsTrue (object_fits p h o t)
FitsType p h (value.Text text) t = IsTrue (is_string t) × (code_units text ≤ most_units)

-- there is a value, and it is of this type
abbrev pub IsOfType : Program → Heap → Option Value → Ty → Type 0
IsOfType p h None t = ⊥
IsOfType p h (Some v) t = FitsType p h v t

-- for each type there is a value at its place, and it is of that type
abbrev pub FitEach : Program → Heap → List Value → List Ty → Type 0
FitEach p h values types = (at : ℕ) (t : Ty) → slice_get types at ≡ Some t → IsOfType p h (slice_get values at) t

-- ---- objects

-- the types of the fields of a class
abbrev pub types_of_fields : Program → ℕ → List Ty
types_of_fields p c = option_map_or (λ types. types) (slice_get (field_types_of p) c) []

-- an instance has a value for each field of its class, and an array has elements of its type
abbrev pub FitsKind : Program → Heap → List Value → Kind → Type 0
FitsKind p h cells (kind.Instance c) = FitEach p h cells (types_of_fields p c)
FitsKind p h cells (kind.Array t) = IsTrue (is_value_type (length p.classes) t) × ((at : ℕ) (v : Value) → slice_get cells at ≡ Some v → FitsType p h v t)

-- each object of the heap has values of its types
abbrev pub FitsHeap : Program → Heap → Type 0
FitsHeap p h = (o : ℕ) (object : Object ℕ) → slice_get h o ≡ Some object → FitsKind p h object.cells object.kind

-- the kind and the number of cells of an object
abbrev pub shape_at : Heap → ℕ → Option Shape
shape_at h o = option_map shape_of (slice_get h o)

-- objects that were there are there, with the same kinds and numbers of cells
abbrev pub HasGrown : Heap → Heap → Type 0
HasGrown h later = (o : ℕ) (shape : Shape) → shape_at h o ≡ Some shape → shape_at later o ≡ Some shape

-- ---- worlds

-- where there is a `this`, it is an object of the class of the body
abbrev pub FitsThis : Program → Heap → Option ℕ → Option ℕ → Type 0
FitsThis p h None this = Unit {0}
FitsThis p h (Some c) None = ⊥
FitsThis p h (Some c) (Some o) = IsTrue (object_fits p h o (ty.Class c))

-- a world whose objects fit, with no more live calls than there may be
pub record FitsWorld (p : Program) (w : World) : Type 0 where
  pub heap : FitsHeap p w.now
  pub live : w.live ≤ most_live

-- a world in which a body with this scope can go on
pub record FitsScope (p : Program) (s : Scope) (w : World) : Type 0 where
  pub world : FitsWorld p w
  pub this : FitsThis p w.now s.this w.this
  pub locals : FitEach p w.now w.locals s.locals
