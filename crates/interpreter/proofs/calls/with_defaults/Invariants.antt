use Rattle.std.proofs.Common.{◌≡◌, ◌++◌, map, take}
use Rattle.heap_arena.specs.Heap.{default_of}
use Rattle.interpreter.proofs.calls.with_defaults.Given as goal

abbrev pub invariant-loop-ty : goal.invariant-loop-ty
invariant-loop-ty l = l.locals ≡ l.fn.got ++ map default_of (take l.ty-index l.fn.types)
