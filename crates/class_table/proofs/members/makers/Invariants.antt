use Rattle.std.proofs.Common.{◌≡◌, ◌++◌, drop}
use Rattle.class_table.specs.Members.{makers_in}
use Rattle.class_table.proofs.members.makers.Given as goal

abbrev pub invariant-loop-member : goal.invariant-loop-member
invariant-loop-member l = makers_in l.members ≡ l.rows ++ makers_in (drop l.member-index l.members)
