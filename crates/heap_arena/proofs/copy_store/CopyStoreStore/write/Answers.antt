use Rattle.heap_arena.proofs.Sound.{sound_written}
use Rattle.heap_arena.proofs.copy_store.CopyStoreStore.write.Goals as goal

pub invariant_of-self : goal.invariant_of-self
invariant_of-self c = record { sound = rw c.write.ensures (sound_written _ _ _ _ _ c.requires.value c.args.self.now.sound) }
