use Rattle.std.proofs.Common.{false}
use Rattle.std.proofs.lemmas.Result.{IfOk-weaker}
use Rattle.interpreter.specs.Setting.{point, world}
use Rattle.interpreter.proofs.Starts.{trap_updates}
use Rattle.interpreter.proofs.Moves.{as_node}
use Rattle.interpreter.proofs.running.Running.update.Goals as goal

pub returns-in-Traps-clause-ok : goal.returns-in-Traps-clause-ok
returns-in-Traps-clause-ok g c =
    IfOk-weaker c.trap.result _ _ (λ y mv. as_node false _ _ _ _ y (λ k f J. trap_updates c.args.self.now.program.now c.args.op c.args.old c.args.place c.args.v _ c.in-Traps.class (world (point g.S.Store.state c.args.self.now) f J) c.in_ok-v.ensures.value c.in-Traps.is) mv) c.trap.ensures.ok
