use Rattle.std.proofs.Common.{◌≡◌, [], ◌∷◌, ◌++◌, drop}
use Rattle.java_members.specs.Bodies.{made_maker}
use Rattle.core_tree.specs.BuiltIn.{first_class}
use Rattle.java_members.specs.Files.{made_faults, of_made}
use Rattle.java_members.proofs.members.add_made_makers.Given as goal

abbrev pub invariant-loop-tree : goal.invariant-loop-tree
invariant-loop-tree l = record {
  makers : l.initial.makers ++ of_made (λ c k. made_maker l.env c ∷ []) first_class l.classes ≡ l.makers ++ of_made (λ c k. made_maker l.env c ∷ []) l.class (drop l.tree-index l.classes);
  clear : of_made (made_faults l.env) first_class l.classes ≡ of_made (made_faults l.env) l.class (drop l.tree-index l.classes);
}
