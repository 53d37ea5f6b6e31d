use Rattle.std.proofs.Common.{◌≡◌, ◌++◌, drop}
use Rattle.java_names.specs.Symbols.{names_of}
use Rattle.java_names.proofs.classes.names_of.Given as goal

abbrev pub invariant-loop-row : goal.invariant-loop-row
invariant-loop-row l = names_of l.rows ≡ l.names ++ names_of (drop l.row-index l.rows)
