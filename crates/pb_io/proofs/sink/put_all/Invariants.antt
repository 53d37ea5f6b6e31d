use Rattle.std.proofs.Common.{length}
use Rattle.pb_io.proofs.Putting.{PutsFront}
use Rattle.pb_io.proofs.sink.put_all.Given as goal

-- a prefix of the bytes is written, and the rest is still to be written
abbrev pub invariant-loop-rest : goal.invariant-loop-rest
invariant-loop-rest g l = PutsFront (g.O.Sink.state l.fn.sink) (g.O.Sink.state l.sink) l.bytes l.rest

-- the bytes still to be written: each write that doesn't fail takes one or more
abbrev pub decreases-loop-rest : goal.decreases-loop-rest
decreases-loop-rest g l = length l.rest
