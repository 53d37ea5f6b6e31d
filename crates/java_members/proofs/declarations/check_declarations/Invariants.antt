use Rattle.std.proofs.Common.{◌≡◌, drop}
use Rattle.java_members.specs.Declarations.{declaration_faults}
use Rattle.core_tree.specs.BuiltIn.{first_class}
use Rattle.java_members.specs.Files.{of_members}
use Rattle.java_members.proofs.declarations.check_declarations.Given as goal

abbrev pub invariant-loop-tree : goal.invariant-loop-tree
invariant-loop-tree l = of_members (declaration_faults l.env) first_class l.classes ≡ of_members (declaration_faults l.env) l.class (drop l.tree-index l.classes)
