use Rattle.std.proofs.Common.{◌≡◌, drop}
use Rattle.java_members.specs.Answers.{read_in}
use Rattle.java_members.specs.Constants.{read_classes, with_constants}
use Rattle.core_tree.specs.BuiltIn.{first_class}
use Rattle.java_members.proofs.constants.read_constants.Given as goal

abbrev pub invariant-loop-tree : goal.invariant-loop-tree
invariant-loop-tree l = record {
  same : l.env ≡ with_constants l.initial.env l.env.constants;
  read : read_classes l.initial.env first_class l.classes (read_in l.initial.env) ≡ read_classes l.initial.env l.class (drop l.tree-index l.classes) (read_in l.env);
}
