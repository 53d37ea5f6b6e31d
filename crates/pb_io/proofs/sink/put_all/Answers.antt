use Rattle.std.proofs.Common.{arith}
use Rattle.std.proofs.lemmas.Grind.{common_steps}
use Rattle.pb_io.proofs.Counts.{Counts-ok}
use Rattle.pb_io.proofs.Putting.{PutsFront-write}
use Rattle.pb_io.proofs.sink.put_all.Goals as goal

pub loop-rest-preserved : goal.loop-rest-preserved
loop-rest-preserved g c =
    PutsFront-write _ (g.O.Sink.state c.loop-rest.sink) _ _ c.loop-rest.rest.now _ c.in_ok-taken.taken
    c.loop-rest.invariant
    c.in_ok-taken.ensures.ok
    (grind (arith, common_steps))
    c.write.ensures.flushed
    c.write.ensures.flushes
    (Counts-ok _ _ _ _ c.in_ok-taken.ensures.faults)
    (Counts-ok _ _ _ _ c.in_ok-taken.ensures.wants)
