use Rattle.std.proofs.Common.{[], ◌∷◌}
use Rattle.throw_check.specs.Files.{declared_classes, method_points}
use Rattle.throw_check.proofs.LeftLemmas.{handles_whole}
use Rattle.throw_check.proofs.bodies.method.Goals as goal

pub returns : goal.returns
returns c =
    let symbols = c.args.symbols.now in
    let tree = c.args.tree.now in
    handles_whole symbols (declared_classes symbols tree.throws ∷ []) (method_points symbols c.args.class tree) c.in_ok-handlers.handlers c.body.result
    (rw c.as_slice.ensures at c.in_ok-handlers.ensures) (rw (c.in_ok-scope.ensures, c.as_slice-2.ensures) at c.body.ensures.handled)
