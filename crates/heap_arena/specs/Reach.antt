-- Which objects references lead to.
use Rattle.std.specs.Prelude.{◌≡◌, ℕ, ◌≤◌, ◌⊎◌, List, [], ◌∷◌, ◌++◌, length, Option, Some, Contains}
use Rattle.std.specs.Option.{option_map_or}
use Rattle.std.specs.List.{flat_map}
use Rattle.heap_arena.specs.declared.call.Call.{Call}
use Rattle.heap_arena.specs.declared.cell.Cell.TheVariants as value
use Rattle.heap_arena.specs.Heap.{Heap, Value, cell_at}

-- a field or element of object x holds a reference to object y
abbrev pub RefersTo : Heap → ℕ → ℕ → Type 0
RefersTo h x y = (at : ℕ) × (cell_at h x at ≡ Some (value.Ref y))

-- a path of references leads from x over the objects of the list, the last of which is y; the empty path leads to x
abbrev pub IsPath : Heap → ℕ → List ℕ → ℕ → Type 0
IsPath h x [] y = x ≡ y
IsPath h x (z ∷ zs) y = RefersTo h x z × IsPath h z zs y

-- a path of references joins y to one of the roots
abbrev pub IsReached : Heap → (ℕ → Type 0) → ℕ → Type 0
IsReached h IsRoot y = (root : ℕ) × (IsRoot root × ((path : List ℕ) × IsPath h root path y))

-- the object that a value refers to
abbrev pub object_of : Value → List ℕ
object_of (value.Ref p) = p ∷ []
object_of _ = []

-- `this` and the objects among the arguments
abbrev pub call_roots : Call ℕ → List ℕ
call_roots call = option_map_or (λ o. o ∷ []) call.this [] ++ flat_map object_of call.args

-- the scope of a call at entry: what is reached from `this` and the arguments
abbrev pub InScopeBefore : Heap → Call ℕ → ℕ → Type 0
InScopeBefore before call = IsReached before (Contains (call_roots call))

-- the roots afterwards: the scope at entry and the result
abbrev pub IsRootAfter : Heap → Call ℕ → Option Value → ℕ → Type 0
IsRootAfter before call result x = InScopeBefore before call x ⊎ Contains (option_map_or object_of result []) x

-- the scope afterwards: the scope at entry, and the new objects that are reached from it and from the result
abbrev pub InScopeAfter : Heap → Heap → Call ℕ → Option Value → ℕ → Type 0
InScopeAfter before after call result y =
    InScopeBefore before call y ⊎ ((length before ≤ y) × IsReached after (IsRootAfter before call result) y)
