-- Worked heaps, computed against the definitions.
use Rattle.std.proofs.Common.{◌≡◌, ℕ, zero, suc, pos, List, [], ◌∷◌, Option, Some, None, refl, false, sym, subst}
use Rattle.std.specs.Prelude.{slice_get}
use denote.Hole.Carrier.{out, shown, hidden}
use Rattle.core_tree.specs.declared.ty.Ty.{out-Ty}
use Rattle.core_tree.specs.declared.ty.Ty.TheBlock.{shown-the_row-Ty-0}
use Rattle.core_tree.specs.declared.ty.Ty.TheVariants as ty
use Rattle.heap_arena.specs.declared.object.Object.{Object}
use Rattle.heap_arena.specs.declared.kind.Kind.TheVariants.{Instance, Array}
use Rattle.heap_arena.specs.declared.cell.Cell.TheVariants as value
use Rattle.heap_arena.specs.declared.call.Call.{Call}
use Rattle.heap_arena.specs.Heap.{Heap, Value, cell_at, cell_count, defaults, made, written}
use Rattle.heap_arena.specs.Reach.{RefersTo, IsPath, IsReached, call_roots, InScopeBefore}

-- an instance with these fields
abbrev node : List Value → Object ℕ
node cells = record { kind = Instance 18; cells = cells }

-- object 0 refers to object 1, and object 1 to itself; object 2 refers to object 0
abbrev three : Heap
three = node (value.Int (pos 5) ∷ value.Ref 1 ∷ []) ∷ node (value.Ref 1 ∷ []) ∷ node (value.Null ∷ value.Ref 0 ∷ []) ∷ []

-- three objects and five fields
cells_of_three : cell_count three ≡ 8
cells_of_three = refl

-- fields of types int, boolean, String and class begin as 0, false, null and null
defaults_of_fields : defaults ((ty.Int ∷ ty.Bool ∷ ty.Text ∷ ty.Class 3 ∷ []) ∷ []) (Instance 0) 4 ≡ value.Int (pos 0) ∷ value.Bool false ∷ value.Null ∷ value.Null ∷ []
unfolding out-Ty out shown-the_row-Ty-0 shown hidden
defaults_of_fields = refl

defaults_of_elements : defaults [] (Array ty.Int) 2 ≡ value.Int (pos 0) ∷ value.Int (pos 0) ∷ []
unfolding out-Ty out shown-the_row-Ty-0 shown hidden
defaults_of_elements = refl

-- a write changes the one place
written_place : cell_at (written three 2 0 (value.Int (pos 7))) 2 0 ≡ Some (value.Int (pos 7))
written_place = refl

other_place : cell_at (written three 2 0 (value.Int (pos 7))) 2 1 ≡ Some (value.Ref 0)
other_place = refl

other_object : cell_at (written three 2 0 (value.Int (pos 7))) 0 0 ≡ Some (value.Int (pos 5))
other_object = refl

-- a call on object 2 with object 1 as an argument
abbrev call : Call ℕ
call = record { method = 4; this = Some 2; args = value.Int (pos 3) ∷ value.Ref 1 ∷ value.Null ∷ [] }

roots : call_roots call ≡ 2 ∷ 1 ∷ []
roots = refl

-- object 1 is reached from object 2, over object 0
reached : IsReached three (λ root. root ≡ 2) 1
reached = (2, (refl, (0 ∷ 1 ∷ [], ((1, refl), ((1, refl), refl)))))

-- only object 1 is reached from object 1
only_itself : (path : List ℕ) (y : ℕ) → IsPath three 1 path y → y ≡ 1
only_itself [] y is = sym is
only_itself (z ∷ zs) y ((zero, edge), rest) = let same : z ≡ 1 = cc in only_itself zs y (subst (λ x. IsPath three x zs y) same rest)
only_itself (z ∷ zs) y ((suc at, edge), rest) = cc
