use Rattle.std.proofs.Common.{false, refl}
use Rattle.interpreter.specs.declared.frame.LoopFrame.TheVariants as loop
use Rattle.interpreter.specs.declared.frame.Frame.TheVariants as frame
use Rattle.interpreter.proofs.Moves.{pushes}
use Rattle.interpreter.proofs.running.Running.body.Goals as goal

pub returns-in-While-clause-ok : goal.returns-in-While-clause-ok
returns-in-While-clause-ok g c = pushes false _ _ _ (frame.Loop (loop.Body c.args.parts)) _ tt c.in_ok-push.ensures.ok (λ k f J. rw (c.in-While.is, c.get.ensures) refl)

pub returns-in-For-clause-ok : goal.returns-in-For-clause-ok
returns-in-For-clause-ok g c = pushes false _ _ _ (frame.Loop (loop.Body c.args.parts)) _ tt c.in_ok-push.ensures.ok (λ k f J. rw (c.in-For.is, c.get-in-For.ensures) refl)
