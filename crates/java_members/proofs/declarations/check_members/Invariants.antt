use Rattle.std.proofs.Common.{◌≡◌, drop, flat_map}
use Rattle.java_members.specs.Declarations.{declaration_faults}
use Rattle.java_members.proofs.declarations.check_members.Given as goal

abbrev pub invariant-loop-member : goal.invariant-loop-member
invariant-loop-member l = flat_map (declaration_faults l.env l.class) l.members ≡ flat_map (declaration_faults l.env l.class) (drop l.member-index l.members)
