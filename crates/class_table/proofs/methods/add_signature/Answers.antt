use Rattle.std.proofs.Common.{rules, ◌≡◌, refl, true, false, not}
use Rattle.std.specs.List.{list_any}
use Rattle.class_table.specs.Index.{signature_of, same_signature}
use Rattle.class_table.proofs.Faults.{not_false}
use Rattle.class_table.proofs.methods.add_signature.Goals as goal

pub returns-else-branch-clause-fault : goal.returns-else-branch-clause-fault
returns-else-branch-clause-fault c =
    let old : not (list_any (same_signature (signature_of c.args.method.now)) c.args.keys.now) ≡ false = search rules in
    let there : list_any (same_signature (signature_of c.args.method.now)) c.args.keys.now ≡ true = not_false _ old in
    rw c.fault.ensures (record { rule_is = refl; holds = (there, refl) })
