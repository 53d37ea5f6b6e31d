use Rattle.std.proofs.Common.{refl, ap, sym}
use Rattle.std.proofs.lemmas.Result.{IfOk-weaker}
use Rattle.interpreter.specs.declared.frame.NormalFrame.TheVariants as normal
use Rattle.evaluation.specs.Calls.{block}
use Rattle.interpreter.specs.Frames.{loop_of}
use Rattle.interpreter.specs.Setting.{point, world}
use Rattle.interpreter.specs.Functions.{first_then}
use Rattle.evaluation.specs.World.{normal_then}
use Rattle.evaluation.specs.Execute.{meaning, turn}
use Rattle.interpreter.specs.declared.frame.Frame.TheVariants as frame
use Rattle.interpreter.proofs.Moves.{pushed_then}
use Rattle.interpreter.proofs.running.Running.first_then.Goals as goal

pub returns-clause-ok : goal.returns-clause-ok
returns-clause-ok g c =
    IfOk-weaker c.block.result _ _ (λ y mv. pushed_then (λ part. first_then c.args.self.now.program.now part c.args.first.now c.args.parts) (λ part. block c.args.self.now.program.now part c.as_slice.result.now) (point g.S.Store.state c.args.self.now) (point g.S.Store.state c.push.new.self) (point g.S.Store.state c.block.new.self) (frame.Normal (normal.FirstTurn c.args.parts)) y refl c.in_ok-push.ensures.ok (λ k f J. ap (λ ss. normal_then (turn c.args.self.now.program.now (meaning c.args.self.now.program.now k) (loop_of c.args.parts)) (block c.args.self.now.program.now (meaning c.args.self.now.program.now k) ss (world (point g.S.Store.state c.args.self.now) f J))) (sym c.as_slice.ensures)) mv) c.block.ensures.ok
