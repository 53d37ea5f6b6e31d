use Rattle.std.proofs.Common.{◌≡◌, ◌++◌, drop}
use Rattle.throw_check.specs.Files.{declared_classes}
use Rattle.throw_check.proofs.declared.declared.Given as goal

abbrev pub invariant-loop-name : goal.invariant-loop-name
invariant-loop-name l = declared_classes l.symbols l.throws ≡ l.classes ++ declared_classes l.symbols (drop l.name-index l.throws)
