use Rattle.std.proofs.Common.{[], map, sym, ◌∙◌}
use Rattle.interpreter.specs.Machine.{text_of}
use Rattle.planb_run.proofs.Executing.{and_flushed, with_store}
use Rattle.planb_run.proofs.execute.execute.Goals as goal

pub returns : goal.returns
returns g c =
    rw c.steps_taken-steps.ensures
    (with_store c.run.new.self.store _ _ c.run.ensures (λ store ends.
    and_flushed c.args.program.now (map text_of c.args.arguments.now) c.args.budget (g.O.Sink.state c.args.out.now)
    (g.O.Sink.state c.run.new.sink) _ c.run.new.self.steps_taken _
    (c.spent_runs_leave_none.ensures c.args.program.now (map text_of c.args.arguments.now) c.args.budget [])
    (sym c.sink_refused.ensures ∙ c.if-sink_refused.false) (g.O.Sink.state c.flushed.new.out)
    c.flushed.result c.run.result ends (rw c.stop_of-stop.ensures at c.flushed.ensures)))
