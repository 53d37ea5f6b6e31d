use Rattle.std.proofs.Common.{arith, false, refl}
use Rattle.interpreter.specs.declared.frame.Frame.TheVariants as frame
use Rattle.interpreter.specs.declared.frame.ValueFrame.TheVariants as value
use Rattle.interpreter.proofs.Moves.{fields_then, pushes}
use Rattle.interpreter.proofs.running.Running.start_field.Goals as goal

pub returns-clause-ok : goal.returns-clause-ok
returns-clause-ok g c =
    fields_then _ _ _ c.args.o c.args.class c.args.start.at c.args.start.next c.args.start.value.now c.args.fields _ (omega (arith, c.args.start.follows)) c.in_ok-push.ensures.ok
    (pushes false _ _ _ (frame.Value (value.WriteCell c.args.o c.args.start.at)) _ tt c.in_ok-push-2.ensures.ok (λ k f J. refl))
