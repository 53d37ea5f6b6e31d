use Rattle.std.proofs.Common.{◌≡◌, drop}
use Rattle.java_members.specs.Answers.{read_in}
use Rattle.java_members.specs.Constants.{read_members, with_constants}
use Rattle.java_members.proofs.constants.read_members.Given as goal

abbrev pub invariant-loop-member : goal.invariant-loop-member
invariant-loop-member l = record {
  same : l.env ≡ with_constants l.initial.env l.env.constants;
  read : read_members l.initial.env l.class l.members (read_in l.initial.env) ≡ read_members l.initial.env l.class (drop l.member-index l.members) (read_in l.env);
}
