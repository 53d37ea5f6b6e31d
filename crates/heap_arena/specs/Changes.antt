-- The change that the laws on marks make to a store.
use Rattle.std.specs.Prelude.{ℕ, ℤ, pos}
use Rattle.core_tree.specs.declared.ty.Ty.TheVariants as ty
use Rattle.heap_arena.specs.declared.kind.Kind.TheVariants.{Array}
use Rattle.heap_arena.specs.declared.cell.Cell.TheVariants as value
use Rattle.heap_arena.specs.State.{StoreState, after_make, after_write}

-- a number is written at a place of the object at a position, and an array of that many ints is made
abbrev pub changed : StoreState → ℕ → ℕ → ℤ → ℕ → StoreState
changed s p at n size = after_make (after_write s p at (value.Int n)) (Array ty.Int) size

-- the changes with 1 and 3, one after the other
abbrev pub nested_change : StoreState → ℕ → ℕ → ℕ → StoreState
nested_change s p at size = changed (changed s p at (pos 1) size) p at (pos 3) size
