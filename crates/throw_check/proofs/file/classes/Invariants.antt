use Rattle.std.proofs.Common.{◌≡◌, drop}
use Rattle.core_tree.specs.BuiltIn.{first_class}
use Rattle.throw_check.specs.Files.{faults_from}
use Rattle.throw_check.proofs.file.classes.Given as goal

abbrev pub invariant-loop-tree : goal.invariant-loop-tree
invariant-loop-tree l = faults_from l.symbols first_class l.list ≡ faults_from l.symbols l.number (drop l.tree-index l.list)
