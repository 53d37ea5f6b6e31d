use Rattle.std.proofs.Common.{◌≡◌, replicate}
use Rattle.heap_arena.specs.Heap.{default_of}
use Rattle.heap_arena.proofs.copy_store.element_defaults.Given as goal

abbrev pub invariant-loop : goal.invariant-loop
invariant-loop l = l.cells.items ≡ replicate l.counter (default_of l.ty)
