use Rattle.std.proofs.Common.{◌≡◌, ◌++◌, drop, flat_map}
use Rattle.java_members.specs.Files.{own_field}
use Rattle.java_members.proofs.own_fields.fields_in.Given as goal

abbrev pub invariant-loop-member : goal.invariant-loop-member
invariant-loop-member l = flat_map (own_field l.env l.class) l.members ≡ l.fields ++ flat_map (own_field l.env l.class) (drop l.member-index l.members)
