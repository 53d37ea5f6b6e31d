use Rattle.std.proofs.Common.{flat_map, rules}
use Rattle.java_names.specs.Refusals.{Refuses}
use Rattle.java_members.specs.Declarations.{declaration_faults}
use Rattle.java_statements.proofs.ListLemmas.{refuses_item}
use Rattle.java_members.proofs.declarations.check_members.Goals as goal

pub returns-in_err-check_member : goal.returns-in_err-check_member
returns-in_err-check_member c =
    let among : Refuses (flat_map (declaration_faults c.args.env.now c.args.class) c.args.members.now) c.in_err-check_member.field-0.0 =
    refuses_item (declaration_faults c.args.env.now c.args.class) c.args.members.now _ _ _ c.loop-member-test.true c.member-item.is c.in_err-check_member.ensures in
    search rules
