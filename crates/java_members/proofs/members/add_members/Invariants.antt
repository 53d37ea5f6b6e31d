use Rattle.std.proofs.Common.{◌≡◌, drop, flat_map}
use Rattle.java_members.specs.Gathered.{with_members}
use Rattle.java_members.specs.Files.{member_faults}
use Rattle.java_members.proofs.members.add_members.Given as goal

abbrev pub invariant-loop-member : goal.invariant-loop-member
invariant-loop-member l = record {
  bodies : with_members l.env l.class l.members l.initial.bodies ≡ with_members l.env l.class (drop l.member-index l.members) l.bodies;
  clear : flat_map (member_faults l.env l.class) l.members ≡ flat_map (member_faults l.env l.class) (drop l.member-index l.members);
}
