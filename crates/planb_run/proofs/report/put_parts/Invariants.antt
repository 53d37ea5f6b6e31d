use Rattle.std.proofs.Common.{take, Ok}
use Rattle.pb_io.specs.Sink.{Puts}
use Rattle.planb_run.proofs.Parts.{joined}
use Rattle.planb_run.proofs.report.put_parts.Given as goal

-- the parts so far are put
abbrev pub invariant-loop-part : goal.invariant-loop-part
invariant-loop-part g l = Puts (g.O.Sink.state l.fn.sink) (g.O.Sink.state l.sink) (joined (take l.part-index l.parts)) {T = Unit {0}} (Ok (tt {0}))
