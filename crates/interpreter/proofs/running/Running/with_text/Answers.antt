use Rattle.std.proofs.Common.{refl}
use Rattle.std.proofs.lemmas.Result.{IfOk-weaker}
use Rattle.interpreter.specs.declared.frame.NormalFrame.TheVariants as normal
use Rattle.evaluation.specs.World.{value_then}
use Rattle.interpreter.specs.declared.frame.ValueFrame.TheVariants as on
use Rattle.interpreter.specs.Frames.{used}
use Rattle.interpreter.specs.Functions.{messaged}
use Rattle.std.proofs.Common.{Some}
use Rattle.interpreter.specs.declared.frame.Frame.TheVariants as frame
use Rattle.interpreter.specs.Setting.{point}
use Rattle.interpreter.proofs.Moves.{pushed_then}
use Rattle.interpreter.proofs.running.Running.with_text.Goals as goal

pub returns-clause-ok : goal.returns-clause-ok
returns-clause-ok g c =
    IfOk-weaker c.value_of.result _ _ (λ y mv. pushed_then (λ part. messaged part c.args.o (Some c.args.e.now)) (λ part w. value_then (used c.args.self.now.program.now part (on.WriteCell c.args.o 0)) (part.expr c.args.e.now w)) (point g.S.Store.state c.args.self.now) (point g.S.Store.state c.push.new.self) (point g.S.Store.state c.value_of.new.self) (frame.Normal (normal.New c.args.o)) y refl c.in_ok-push.ensures.ok (λ k f J. refl) mv) c.value_of.ensures.ok
