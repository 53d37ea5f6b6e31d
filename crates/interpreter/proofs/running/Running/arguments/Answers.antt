use Rattle.std.proofs.Common.{false, ap}
use Rattle.evaluation.specs.Calls.{arguments}
use Rattle.evaluation.specs.Execute.{meaning}
use Rattle.interpreter.specs.Frames.{called_with}
use Rattle.interpreter.specs.Setting.{point, world}
use Rattle.interpreter.proofs.Leaves.{first_and_rest}
use Rattle.interpreter.proofs.Moves.{pushes}
use Rattle.interpreter.proofs.running.Running.arguments.Goals as goal

pub returns-in_ok-push-in-len1-up-clause-ok : goal.returns-in_ok-push-in-len1-up-clause-ok
returns-in_ok-push-in-len1-up-clause-ok g c =
    let p = c.args.self.now.program.now in
    let e = first_and_rest c.args.given.now c.first-item.result c.in-len1-up.len_at_least c.first-item.is in
    pushes false _ _ _ _ _ tt c.in_ok-push-in-len1-up.ensures.ok (λ k f J. ap (λ es. arguments p (meaning p k) es c.args.got (called_with p (meaning p k) c.args.callee) (world (point g.S.Store.state c.args.self.now) f J)) e)
