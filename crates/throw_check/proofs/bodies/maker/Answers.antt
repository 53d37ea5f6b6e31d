use Rattle.std.proofs.Common.{[], ◌∷◌}
use Rattle.throw_check.specs.Files.{declared_classes, maker_points}
use Rattle.throw_check.proofs.LeftLemmas.{handles_whole}
use Rattle.throw_check.proofs.bodies.maker.Goals as goal

pub returns : goal.returns
returns c =
    let symbols = c.args.symbols.now in
    let tree = c.args.tree.now in
    handles_whole symbols (declared_classes symbols tree.throws ∷ []) (maker_points symbols c.args.class tree) c.in_ok-handlers.handlers c.begun.result
    (rw c.as_slice.ensures at c.in_ok-handlers.ensures)
    (rw (c.in_ok-scope.ensures, c.beginning_of-at.ensures.at, c.beginning_of-at.ensures.given, c.beginning_of-at.ensures.rest, c.as_slice-2.ensures) at c.begun.ensures)
