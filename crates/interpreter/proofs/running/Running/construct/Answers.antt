use Rattle.std.proofs.Common.{◌-◌, refl, sym, arith, ◌∙◌, false}
use Rattle.std.proofs.lemmas.Result.{IfOk-weaker}
use Rattle.evaluation.specs.Execute.{meaning}
use Rattle.interpreter.specs.Setting.{point, world}
use Rattle.interpreter.proofs.Starts.{construct_step}
use Rattle.interpreter.proofs.Moves.{as_node}
use Rattle.interpreter.proofs.running.Running.construct.Goals as goal

pub returns-in-Some-clause-ok : goal.returns-in-Some-clause-ok
returns-in-Some-clause-ok g c =
    IfOk-weaker c.run_maker.result _ _ (λ y mv. as_node false _ _ _ _ y (λ k f J. construct_step c.args.self.now.program.now (meaning c.args.self.now.program.now k) c.args.levels (c.args.levels - 1) c.args.k c.args.o c.args.got (world (point g.S.Store.state c.args.self.now) f J) (omega (arith, c.if-levels-eq0.false)) ∙ rw (sym c.in-Some.ensures.value) refl) mv) c.run_maker.ensures.ok

pub returns-in-None-clause-ok : goal.returns-in-None-clause-ok
returns-in-None-clause-ok g c =
    IfOk-weaker c.end-in-None.result _ _ (λ y mv. as_node false _ _ _ _ y (λ k f J. construct_step c.args.self.now.program.now (meaning c.args.self.now.program.now k) c.args.levels (c.args.levels - 1) c.args.k c.args.o c.args.got (world (point g.S.Store.state c.args.self.now) f J) (omega (arith, c.if-levels-eq0.false)) ∙ rw (sym c.in-None.ensures.value) refl) mv) c.end-in-None.ensures.ok
