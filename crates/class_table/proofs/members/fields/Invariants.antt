use Rattle.std.proofs.Common.{◌≡◌, ◌++◌, drop}
use Rattle.class_table.specs.Members.{fields_in}
use Rattle.class_table.proofs.members.fields.Given as goal

abbrev pub invariant-loop-member : goal.invariant-loop-member
invariant-loop-member l = fields_in l.owner l.members ≡ l.rows ++ fields_in l.owner (drop l.member-index l.members)
