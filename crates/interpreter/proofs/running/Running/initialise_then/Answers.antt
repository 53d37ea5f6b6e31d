use Rattle.std.proofs.Common.{refl, false}
use Rattle.std.proofs.lemmas.Result.{IfOk-weaker}
use Rattle.evaluation.specs.Execute.{meaning}
use Rattle.interpreter.specs.Setting.{point, world}
use Rattle.interpreter.specs.Starts.{initialised_then, start_of, started}
use Rattle.interpreter.specs.declared.frame.NormalFrame.TheVariants as normal
use Rattle.interpreter.specs.declared.frame.Frame.TheVariants as frame
use Rattle.interpreter.proofs.Starts.{found_none, found_start, then_none, then_some}
use Rattle.interpreter.proofs.Moves.{as_node, pushed_then}
use Rattle.interpreter.proofs.running.Running.initialise_then.Goals as goal

pub returns-in_ok-push-in-Some-clause-ok : goal.returns-in_ok-push-in-Some-clause-ok
returns-in_ok-push-in-Some-clause-ok g c =
    let s = c.in-Some.start in
    let is = found_start c.args.class 0 _ c.args.fields.now _ s c.as_slice.ensures c.next_start.ensures c.in-Some.is in
    IfOk-weaker c.start_field.result _ _ (λ y mv. pushed_then (λ part. initialised_then c.args.self.now.program.now part c.args.o c.args.class c.args.fields.now c.args.body.now) (λ part. started c.args.self.now.program.now part c.args.o c.args.class s.at s.value.now c.args.fields.now) (point g.S.Store.state c.args.self.now) (point g.S.Store.state c.push.new.self) (point g.S.Store.state c.start_field.new.self) (frame.Normal (normal.Rest c.as_slice-in-Some.result)) y refl c.in_ok-push-in-Some.ensures.ok (λ k f J. then_some c.args.self.now.program.now (meaning c.args.self.now.program.now k) c.args.o c.args.class c.args.fields.now c.args.body.now c.as_slice-in-Some.result.now (start_of s) (world (point g.S.Store.state c.args.self.now) f J) is c.as_slice-in-Some.ensures) mv) c.start_field.ensures.ok

pub returns-in-None-clause-ok : goal.returns-in-None-clause-ok
returns-in-None-clause-ok g c =
    let is = found_none c.args.class 0 _ c.args.fields.now _ c.as_slice.ensures c.next_start.ensures c.in-None.is in
    IfOk-weaker c.block.result _ _ (λ y mv. as_node false _ _ _ _ y (λ k f J. then_none c.args.self.now.program.now (meaning c.args.self.now.program.now k) c.args.o c.args.class c.args.fields.now c.args.body.now c.as_slice-in-None.result.now (world (point g.S.Store.state c.args.self.now) f J) is c.as_slice-in-None.ensures) mv) c.block.ensures.ok
