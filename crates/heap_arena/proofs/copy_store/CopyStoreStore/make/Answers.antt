use Rattle.std.proofs.Common.{arith}
use Rattle.heap_arena.proofs.Sound.{sound_after_make}
use Rattle.heap_arena.proofs.copy_store.CopyStoreStore.make.Goals as goal

pub invariant_of-self : goal.invariant_of-self
invariant_of-self c = record { sound = sound_after_make c.push.result _ _ _ _ _ _ _ c.requires.kind (omega (arith, c.if-cells.false, c.cells.ensures)) c.in_ok-values.ensures c.push.ensures.ok c.push.ensures.err c.args.self.now.sound }
