use Rattle.std.proofs.Common.{◌≡◌, [], OnOk, IfOk, sym, subst, rules}
use Rattle.core_tree.specs.declared.program.Program.{Program}
use Rattle.java_names.specs.Refusals.{Refuses}
use Rattle.java_members.specs.Files.{faults_of}
use Rattle.java_members.proofs.ResolveLemmas.{body_is, constants_refused, declared_refused, program_fault, program_is}
use Rattle.java_members.proofs.file.resolve_file.Goals as goal

pub returns-in_err-check_declarations-clause-fault : goal.returns-in_err-check_declarations-clause-fault
returns-in_err-check_declarations-clause-fault c =
    let broken : Refuses (faults_of c.args.table.now c.args.tree.now) c.in_err-check_declarations.field-0.0 =
    declared_refused c.args.table.now c.args.tree.now _ c.requires _ (rw (← c.as_slice.ensures) c.in_err-check_declarations.ensures) in
    search rules

pub returns-in_err-read_constants-clause-fault : goal.returns-in_err-read_constants-clause-fault
returns-in_err-read_constants-clause-fault c =
    let broken : Refuses (faults_of c.args.table.now c.args.tree.now) c.in_err-read_constants.field-0.0 =
    constants_refused c.args.table.now c.args.tree.now _ c.requires (rw (← c.as_slice.ensures) c.in_ok-check_declarations.ensures) _ (rw (← c.as_slice-2.ensures) c.in_err-read_constants.ensures.fault) in
    search rules

pub returns-clause-program : goal.returns-clause-program
returns-clause-program c =
    subst (λ (x : Program). IfOk c.program.result (λ p. p ≡ x))
    (program_is c.args.table.now c.args.tree.now _ c.requires (rw (← c.as_slice.ensures) c.in_ok-check_declarations.ensures)
    c.read_constants.new.env c.in_ok-read_constants.ensures.same (rw (← c.as_slice-2.ensures) c.in_ok-read_constants.ensures.read))
    c.program.ensures.program

pub returns-clause-clear : goal.returns-clause-clear
returns-clause-clear c =
    subst (λ fs. OnOk c.program.result (fs ≡ []))
    (sym (body_is c.args.table.now c.args.tree.now _ c.requires (rw (← c.as_slice.ensures) c.in_ok-check_declarations.ensures)
    c.read_constants.new.env c.in_ok-read_constants.ensures.same (rw (← c.as_slice-2.ensures) c.in_ok-read_constants.ensures.read)))
    c.program.ensures.clear

pub returns-clause-fault : goal.returns-clause-fault
returns-clause-fault c =
    program_fault c.args.table.now c.args.tree.now _ c.requires (rw (← c.as_slice.ensures) c.in_ok-check_declarations.ensures)
    c.read_constants.new.env c.in_ok-read_constants.ensures.same (rw (← c.as_slice-2.ensures) c.in_ok-read_constants.ensures.read)
    c.program.result c.program.ensures.fault
