use Rattle.std.proofs.Common.{◌≡◌, ◌+◌, drop, flat_map, option_map, position}
use Rattle.class_table.specs.Members.{method_row}
use Rattle.class_table.specs.Rules.{is_main}
use Rattle.java_members.specs.Files.{method_tree, method_trees}
use Rattle.java_members.proofs.main_method.main_number.Given as goal

abbrev pub invariant-loop-class : goal.invariant-loop-class
invariant-loop-class l =
    position (λ m. is_main (method_row m)) (method_trees l.tree)
    ≡ option_map (λ k. l.first + k) (position (λ m. is_main (method_row m)) (flat_map (λ k. flat_map method_tree k.members) (drop l.class-index l.class-items)))
