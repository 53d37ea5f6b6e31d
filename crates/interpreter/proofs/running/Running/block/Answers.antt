use Rattle.std.proofs.Common.{false, ap}
use Rattle.evaluation.specs.Calls.{block}
use Rattle.evaluation.specs.Execute.{meaning}
use Rattle.interpreter.specs.Setting.{point, world}
use Rattle.interpreter.proofs.Leaves.{first_and_rest}
use Rattle.interpreter.proofs.Moves.{pushes}
use Rattle.interpreter.proofs.running.Running.block.Goals as goal

pub returns-in_ok-push-in-len1-up-clause-ok : goal.returns-in_ok-push-in-len1-up-clause-ok
returns-in_ok-push-in-len1-up-clause-ok g c =
    let p = c.args.self.now.program.now in
    let e = first_and_rest c.args.statements.now c.first-item.result c.in-len1-up.len_at_least c.first-item.is in
    pushes false _ _ _ _ _ tt c.in_ok-push-in-len1-up.ensures.ok (λ k f J. ap (λ ss. block p (meaning p k) ss (world (point g.S.Store.state c.args.self.now) f J)) e)
