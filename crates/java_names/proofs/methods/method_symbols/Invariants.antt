use Rattle.std.proofs.Common.{◌≡◌, ◌++◌, drop}
use Rattle.java_names.specs.Symbols.{method_symbols}
use Rattle.java_names.proofs.methods.method_symbols.Given as goal

abbrev pub invariant-loop-method : goal.invariant-loop-method
invariant-loop-method l = method_symbols l.names l.selectors l.owner l.fn.number l.rows ≡ l.symbols ++ method_symbols l.names l.selectors l.owner l.next (drop l.method-index l.rows)
