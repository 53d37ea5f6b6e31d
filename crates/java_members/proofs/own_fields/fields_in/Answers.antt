use Rattle.std.proofs.Common.{flat_map, rules}
use Rattle.java_names.specs.Refusals.{Refuses}
use Rattle.java_members.specs.Files.{member_faults}
use Rattle.java_statements.proofs.ListLemmas.{refuses_item}
use Rattle.java_members.proofs.own_fields.fields_in.Goals as goal

pub returns-in_err-add_member-clause-fault : goal.returns-in_err-add_member-clause-fault
returns-in_err-add_member-clause-fault c =
    let among : Refuses (flat_map (member_faults c.args.env.now c.args.class) c.args.members.now) c.in_err-add_member.field-0.0 =
    refuses_item (member_faults c.args.env.now c.args.class) c.args.members.now _ _ _ c.loop-member-test.true c.member-item.is c.in_err-add_member.ensures.fault in
    search rules
