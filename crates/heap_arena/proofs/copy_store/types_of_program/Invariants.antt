use Rattle.std.proofs.Common.{◌≡◌, map, take}
use Rattle.heap_arena.proofs.copy_store.types_of_program.Given as goal

abbrev pub invariant-loop-class : goal.invariant-loop-class
invariant-loop-class l = l.types ≡ map (λ class. map (λ field. field.ty) class.fields) (take l.class-index l.class-items)
