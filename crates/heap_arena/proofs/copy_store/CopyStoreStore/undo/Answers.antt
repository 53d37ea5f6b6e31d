use Rattle.heap_arena.proofs.Sound.{sound_after_undo}
use Rattle.heap_arena.proofs.copy_store.CopyStoreStore.undo.Goals as goal

pub invariant_of-self : goal.invariant_of-self
invariant_of-self c = record { sound = sound_after_undo _ _ _ _ c.in-Some.ensures c.args.self.now.sound }
