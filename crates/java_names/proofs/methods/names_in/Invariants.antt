use Rattle.std.proofs.Common.{◌≡◌, ◌++◌, drop}
use Rattle.java_names.specs.Symbols.{method_names}
use Rattle.java_names.proofs.methods.names_in.Given as goal

abbrev pub invariant-loop-method : goal.invariant-loop-method
invariant-loop-method l = method_names l.rows ≡ l.keys ++ method_names (drop l.method-index l.rows)
