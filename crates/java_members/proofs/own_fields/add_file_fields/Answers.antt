use Rattle.std.proofs.Common.{rules}
use Rattle.core_tree.specs.BuiltIn.{first_class}
use Rattle.java_names.specs.Refusals.{Refuses}
use Rattle.java_members.specs.Files.{member_faults, of_members}
use Rattle.java_members.proofs.GatherLemmas.{refuses_numbered}
use Rattle.java_members.proofs.own_fields.add_file_fields.Goals as goal

pub returns-in_err-fields-clause-fault : goal.returns-in_err-fields-clause-fault
returns-in_err-fields-clause-fault c =
    let among : Refuses (of_members (member_faults c.args.env.now) first_class c.args.classes.now) c.in_err-fields.field-0.0 =
    refuses_numbered (member_faults c.args.env.now) first_class c.loop-tree.class c.args.classes.now _ _ _ c.loop-tree.invariant.place c.loop-tree-test.true c.tree-item.is (rw (← c.as_slice.ensures) c.in_err-fields.ensures.fault) in
    search rules
