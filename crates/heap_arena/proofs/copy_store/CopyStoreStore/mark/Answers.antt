use Rattle.heap_arena.proofs.Sound.{sound_after_mark}
use Rattle.heap_arena.proofs.copy_store.CopyStoreStore.mark.Goals as goal

pub invariant_of-self-2 : goal.invariant_of-self-2
invariant_of-self-2 c = record { sound = sound_after_mark c.push.result _ _ _ _ c.in_ok-copy.ensures c.push.ensures.ok c.push.ensures.err c.args.self.now.sound }
