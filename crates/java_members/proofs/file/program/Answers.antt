use Rattle.std.proofs.Common.{◌++◌, rules}
use Rattle.java_names.specs.Refusals.{Refuses}
use Rattle.java_members.specs.Answers.{faults_in}
use Rattle.core_tree.specs.BuiltIn.{first_class}
use Rattle.java_members.specs.Files.{made_faults, of_made, of_members}
use Rattle.java_members.proofs.FileLemmas.{refuses_nothing}
use Rattle.java_members.proofs.file.program.Goals as goal

pub returns-in_err-classes-clause-fault : goal.returns-in_err-classes-clause-fault
returns-in_err-classes-clause-fault c =
    let among : Refuses (of_members (faults_in c.args.env.now) first_class c.args.tree.now.classes ++ of_made (made_faults c.args.env.now) first_class c.args.tree.now.classes) c.in_err-classes.field-0.0 =
    refuses_nothing _ _ _ (rw (← c.as_slice.ensures) c.in_ok-bodies.ensures.clear) c.in_err-classes.ensures.fault in
    search rules
