use Rattle.std.proofs.Common.{◌≡◌, ◌+◌, ◌++◌, drop}
use Rattle.core_tree.specs.BuiltIn.{first_class}
use Rattle.java_members.specs.Files.{own_fields}
use Rattle.java_members.proofs.own_fields.add_file_fields.Given as goal

abbrev pub invariant-loop-tree : goal.invariant-loop-tree
invariant-loop-tree l = record {
  place : l.class ≡ first_class + l.tree-index;
  fields : l.initial.all ++ own_fields l.env first_class l.classes ≡ l.all ++ own_fields l.env l.class (drop l.tree-index l.classes);
}
