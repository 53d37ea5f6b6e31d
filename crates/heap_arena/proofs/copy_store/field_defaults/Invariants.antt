use Rattle.std.proofs.Common.{◌≡◌, map, take}
use Rattle.heap_arena.specs.Heap.{default_of}
use Rattle.heap_arena.proofs.copy_store.field_defaults.Given as goal

abbrev pub invariant-loop-ty : goal.invariant-loop-ty
invariant-loop-ty l = l.cells.items ≡ map default_of (take l.ty-index l.types)
