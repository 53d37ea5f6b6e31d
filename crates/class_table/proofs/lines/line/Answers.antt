use Rattle.std.proofs.Common.{rules, ◌≡◌, ◌<◌, length, Some}
use Rattle.class_table.specs.Ancestors.{up}
use Rattle.class_table.proofs.Faults.{not_absent}
use Rattle.class_table.proofs.AncestorLemmas.{on_cycle, cycle_within}
use Rattle.class_table.proofs.lines.line.Goals as goal

pub unreachable-requires : goal.unreachable-requires
unreachable-requires c =
    let at : up c.args.parents.now (length c.args.parents.now) c.args.class ≡ Some c.in-Cycle.on_it = search rules in
    let within : c.in-Cycle.on_it < length c.args.declared.now = cycle_within _ c.args.parents.now c.args.class _ c.requires.parents c.requires.known c.requires.within at in
    not_absent c.args.declared.now c.in-Cycle.on_it within (search rules)

pub returns-in-Some-clause-fault : goal.returns-in-Some-clause-fault
returns-in-Some-clause-fault c =
    let at : up c.args.parents.now (length c.args.parents.now) c.args.class ≡ Some c.in-Cycle.on_it = search rules in
    rw c.fault.ensures (on_cycle _ c.args.parents.now c.args.class c.in-Cycle.on_it c.in-Some.found.now c.requires.parents c.requires.known c.requires.within at (search rules))
