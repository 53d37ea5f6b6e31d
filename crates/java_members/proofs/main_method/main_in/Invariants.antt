use Rattle.std.proofs.Common.{◌≡◌, ◌+◌, drop, flat_map, option_map, position}
use Rattle.class_table.specs.Members.{method_row}
use Rattle.class_table.specs.Rules.{is_main}
use Rattle.java_members.specs.Files.{method_tree}
use Rattle.java_members.proofs.main_method.main_in.Given as goal

abbrev pub invariant-loop-member : goal.invariant-loop-member
invariant-loop-member l =
    option_map (λ k. l.first + k) (position (λ m. is_main (method_row m)) (flat_map method_tree l.members))
    ≡ option_map (λ k. l.number + k) (position (λ m. is_main (method_row m)) (flat_map method_tree (drop l.member-index l.members)))
