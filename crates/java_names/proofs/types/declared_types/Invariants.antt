use Rattle.std.proofs.Common.{◌≡◌, ◌++◌, drop}
use Rattle.java_names.specs.Types.{declared_types}
use Rattle.java_names.proofs.types.declared_types.Given as goal

abbrev pub invariant-loop-tree : goal.invariant-loop-tree
invariant-loop-tree l = declared_types l.names l.trees ≡ l.types ++ declared_types l.names (drop l.tree-index l.trees)
