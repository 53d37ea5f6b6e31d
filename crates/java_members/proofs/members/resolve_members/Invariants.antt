use Rattle.std.proofs.Common.{◌≡◌, ◌+◌, [], drop}
use Rattle.java_members.specs.Gathered.{with_classes}
use Rattle.core_tree.specs.BuiltIn.{first_class}
use Rattle.java_members.specs.Files.{member_faults, of_members}
use Rattle.java_members.proofs.members.resolve_members.Given as goal

abbrev pub invariant-loop-tree : goal.invariant-loop-tree
invariant-loop-tree l = record {
  place : l.class ≡ first_class + l.tree-index;
  bodies : with_classes l.env first_class l.classes (record { methods = []; makers = [] }) ≡ with_classes l.env l.class (drop l.tree-index l.classes) l.bodies;
  clear : of_members (member_faults l.env) first_class l.classes ≡ of_members (member_faults l.env) l.class (drop l.tree-index l.classes);
}
