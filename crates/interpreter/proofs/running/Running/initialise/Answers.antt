use Rattle.std.proofs.Common.{false}
use Rattle.std.proofs.lemmas.Result.{IfOk-weaker}
use Rattle.evaluation.specs.Execute.{meaning}
use Rattle.interpreter.specs.Setting.{point, world}
use Rattle.interpreter.proofs.Starts.{found_none, found_start, starts_none, starts_with}
use Rattle.interpreter.proofs.Moves.{as_node}
use Rattle.interpreter.proofs.running.Running.initialise.Goals as goal

pub returns-in-Some-clause-ok : goal.returns-in-Some-clause-ok
returns-in-Some-clause-ok g c =
    let is = found_start c.args.class c.args.from _ c.args.fields.now _ _ c.as_slice.ensures c.next_start.ensures c.in-Some.is in
    IfOk-weaker c.start_field.result _ _ (λ y mv. as_node false _ _ _ _ y (λ k f J. starts_with c.args.self.now.program.now (meaning c.args.self.now.program.now k) c.args.o c.args.class c.args.from c.args.fields.now _ (world (point g.S.Store.state c.args.self.now) f J) is) mv) c.start_field.ensures.ok

pub returns-in-None-clause-ok : goal.returns-in-None-clause-ok
returns-in-None-clause-ok g c =
    let is = found_none c.args.class c.args.from _ c.args.fields.now _ c.as_slice.ensures c.next_start.ensures c.in-None.is in
    IfOk-weaker c.end.result _ _ (λ y mv. as_node false _ _ _ _ y (λ k f J. starts_none c.args.self.now.program.now (meaning c.args.self.now.program.now k) c.args.o c.args.class c.args.from c.args.fields.now (world (point g.S.Store.state c.args.self.now) f J) is) mv) c.end.ensures.ok
