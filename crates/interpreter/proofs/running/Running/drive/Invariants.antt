use Rattle.interpreter.specs.Setting.{point}
use Rattle.interpreter.specs.Points.{Leads, work}
use Rattle.interpreter.proofs.running.Running.drive.Given as goal

abbrev pub invariant-loop-y : goal.invariant-loop-y
invariant-loop-y g l = Leads (point g.S.Store.state l.initial.self) l.initial.x (g.O.Sink.state l.initial.sink) (point g.S.Store.state l.self) l.x (g.O.Sink.state l.sink)

abbrev pub decreases-loop-y : goal.decreases-loop-y
decreases-loop-y g l = work (point g.S.Store.state l.self) l.x
