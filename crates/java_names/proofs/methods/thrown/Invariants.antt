use Rattle.std.proofs.Common.{◌≡◌, ◌++◌, drop}
use Rattle.java_names.specs.Symbols.{thrown}
use Rattle.java_names.proofs.methods.thrown.Given as goal

abbrev pub invariant-loop-name : goal.invariant-loop-name
invariant-loop-name l = thrown l.names l.throws ≡ l.classes ++ thrown l.names (drop l.name-index l.throws)
