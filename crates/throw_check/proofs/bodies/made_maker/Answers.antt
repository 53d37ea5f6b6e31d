use Rattle.std.proofs.Common.{[], ◌∷◌}
use Rattle.throw_check.specs.Files.{parent_points}
use Rattle.throw_check.proofs.LeftLemmas.{handles_whole}
use Rattle.throw_check.proofs.bodies.made_maker.Goals as goal

pub returns : goal.returns
returns c =
    let symbols = c.args.symbols.now in
    handles_whole symbols ([] ∷ []) (parent_points symbols c.args.class 0 c.args.at) c.in_ok-handlers.handlers c.check_parent.result c.in_ok-handlers.ensures c.check_parent.ensures
