use Rattle.std.proofs.Common.{false, refl, sym, ap, ◌∙◌}
use Rattle.evaluation.specs.Objects.{found}
use Rattle.interpreter.specs.Setting.{point, world}
use Rattle.interpreter.proofs.Leaves.{reads}
use Rattle.interpreter.proofs.Moves.{stays}
use Rattle.interpreter.proofs.running.Running.read_place.Goals as goal

pub returns-in-Some-clause-ok : goal.returns-in-Some-clause-ok
returns-in-Some-clause-ok g c =
    stays false _ _ _ _ tt refl refl refl refl (λ k f J. reads c.args.place (world (point g.S.Store.state c.args.self.now) f J) ∙ ap (λ v. found v (world (point g.S.Store.state c.args.self.now) f J)) (sym c.in_ok-v.ensures ∙ c.in-Some.is))

pub returns-in-None-clause-ok : goal.returns-in-None-clause-ok
returns-in-None-clause-ok g c =
    stays false _ _ _ _ tt refl refl refl refl (λ k f J. reads c.args.place (world (point g.S.Store.state c.args.self.now) f J) ∙ ap (λ v. found v (world (point g.S.Store.state c.args.self.now) f J)) (sym c.in_ok-v.ensures ∙ c.in-None.is))
