use Rattle.std.proofs.Common.{rules}
use Rattle.java_names.specs.Refusals.{Refuses}
use Rattle.java_members.specs.Answers.{read_in}
use Rattle.java_members.specs.Constants.{read_members}
use Rattle.java_members.proofs.ReadingLemmas.{same_after, members_end, member_read, member_refused}
use Rattle.java_members.proofs.constants.read_members.Goals as goal

pub returns-in_err-read_member-clause-fault : goal.returns-in_err-read_member-clause-fault
returns-in_err-read_member-clause-fault c =
    let among : Refuses (read_members c.args.env.now c.args.class c.args.members.now (read_in c.args.env.now)).faults c.in_err-read_member.field-0.0 =
    member_refused c.args.env.now c.loop-member.env c.loop-member.invariant.same c.args.class c.args.members.now _ _ c.loop-member.invariant.read _ c.loop-member-test.true c.member-item.is _ c.in_err-read_member.ensures.fault in
    search rules

pub loop-member-preserved : goal.loop-member-preserved
loop-member-preserved c = record {
  same = same_after c.args.env.now c.loop-member.env c.loop-member.invariant.same c.read_member.new.env c.in_ok-read_member.ensures.same;
  read = member_read c.args.env.now c.loop-member.env c.loop-member.invariant.same c.args.class c.args.members.now _ _ c.loop-member.invariant.read _ c.loop-member-test.true c.member-item.is c.read_member.new.env c.in_ok-read_member.ensures.read;
}

pub returns-clause-read : goal.returns-clause-read
returns-clause-read c =
    members_end c.args.env.now c.loop-member.env c.loop-member.invariant.same c.args.class c.args.members.now _ _ c.loop-member.invariant.read c.loop-member-test.false
