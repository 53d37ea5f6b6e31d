use Rattle.std.proofs.Common.{◌≡◌, ◌++◌, drop}
use Rattle.java_names.specs.Symbols.{selectors_in}
use Rattle.java_names.proofs.methods.selectors_in.Given as goal

abbrev pub invariant-loop-method : goal.invariant-loop-method
invariant-loop-method l = selectors_in l.rows ≡ l.keys ++ selectors_in (drop l.method-index l.rows)
