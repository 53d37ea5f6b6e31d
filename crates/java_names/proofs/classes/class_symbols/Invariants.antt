use Rattle.std.proofs.Common.{◌≡◌, ◌++◌, drop}
use Rattle.java_names.specs.Symbols.{class_symbols}
use Rattle.java_names.proofs.classes.class_symbols.Given as goal

abbrev pub invariant-loop-row : goal.invariant-loop-row
invariant-loop-row l = class_symbols l.names l.selectors 0 l.fn.first l.rows ≡ l.symbols ++ class_symbols l.names l.selectors l.class l.numbers (drop l.row-index l.rows)
