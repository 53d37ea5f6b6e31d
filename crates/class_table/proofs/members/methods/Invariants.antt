use Rattle.std.proofs.Common.{◌≡◌, ◌++◌, drop}
use Rattle.class_table.specs.Members.{methods_in}
use Rattle.class_table.proofs.members.methods.Given as goal

abbrev pub invariant-loop-member : goal.invariant-loop-member
invariant-loop-member l = methods_in l.members ≡ l.rows ++ methods_in (drop l.member-index l.members)
