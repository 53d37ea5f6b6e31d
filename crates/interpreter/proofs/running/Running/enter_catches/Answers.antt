use Rattle.std.proofs.Common.{false, refl}
use Rattle.interpreter.specs.declared.frame.PlainFrame.TheVariants as plain
use Rattle.interpreter.specs.declared.frame.Frame.TheVariants as frame
use Rattle.interpreter.proofs.Moves.{pushes}
use Rattle.interpreter.proofs.running.Running.enter_catches.Goals as goal

pub returns-clause-ok : goal.returns-clause-ok
returns-clause-ok g c = pushes false _ _ _ (frame.Plain (plain.Catching c.args.catches)) _ tt c.in_ok-push.ensures.ok (λ k f J. rw c.get.ensures refl)
