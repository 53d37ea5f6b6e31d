use Rattle.heap_arena.proofs.Sound.{sound_after_keep}
use Rattle.heap_arena.proofs.copy_store.CopyStoreStore.keep.Goals as goal

pub invariant_of-self : goal.invariant_of-self
invariant_of-self c = record { sound = sound_after_keep c.pop.result _ _ _ c.pop.ensures c.args.self.now.sound }
