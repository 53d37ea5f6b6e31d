use Rattle.std.proofs.Common.{◌≡◌, length, map}
use Rattle.interpreter.specs.Machine.{text_of}
use Rattle.interpreter.proofs.Filling.{filled}
use Rattle.interpreter.proofs.arguments.put_arguments.Given as goal

abbrev pub invariant-loop-arg : goal.invariant-loop-arg
invariant-loop-arg g l =
    (l.at ≡ l.arg-index)
    × (l.count ≡ length l.args)
    × (g.S.Store.state l.store ≡ record (g.S.Store.state l.fn.store) { now = filled (map text_of l.args) l.arg-index })
