use Rattle.std.proofs.Common.{◌≡◌, ◌+◌, drop, flat_map, length}
use Rattle.java_members.specs.Files.{method_tree}
use Rattle.java_members.proofs.main_method.behind.Given as goal

abbrev pub invariant-loop-member : goal.invariant-loop-member
invariant-loop-member l = l.first + length (flat_map method_tree l.members) ≡ l.next + length (flat_map method_tree (drop l.member-index l.members))
