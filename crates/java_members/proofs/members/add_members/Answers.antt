use Rattle.std.proofs.Common.{◌∙◌, sym, flat_map, rules}
use Rattle.java_names.specs.Refusals.{Refuses}
use Rattle.java_members.specs.Answers.{faults_in}
use Rattle.java_members.specs.Files.{member_faults}
use Rattle.java_statements.proofs.ListLemmas.{refuses_item}
use Rattle.java_members.proofs.GatherLemmas.{member_next, members_end, next_item}
use Rattle.java_members.proofs.members.add_members.Goals as goal

pub returns-in_err-add_member-clause-fault : goal.returns-in_err-add_member-clause-fault
returns-in_err-add_member-clause-fault c =
    let among : Refuses (flat_map (faults_in c.args.env.now c.args.class) c.args.members.now) c.in_err-add_member.field-0.0 =
    refuses_item (faults_in c.args.env.now c.args.class) c.args.members.now _ _ _ c.loop-member-test.true c.member-item.is c.in_err-add_member.ensures.fault in
    search rules

pub loop-member-preserved : goal.loop-member-preserved
loop-member-preserved c = record {
  bodies = c.loop-member.invariant.bodies
      ∙ member_next c.args.env.now c.args.class c.args.members.now _ c.loop-member.bodies c.member-item.result c.add_member.new.bodies c.loop-member-test.true c.member-item.is c.in_ok-add_member.ensures.bodies;
  clear = next_item (member_faults c.args.env.now c.args.class) _ c.args.members.now _ c.member-item.result c.loop-member.invariant.clear c.loop-member-test.true c.member-item.is c.in_ok-add_member.ensures.clear;
}

pub returns-clause-bodies : goal.returns-clause-bodies
returns-clause-bodies c =
    sym (c.loop-member.invariant.bodies ∙ members_end c.args.env.now c.args.class c.args.members.now _ c.loop-member.bodies c.loop-member-test.false)
