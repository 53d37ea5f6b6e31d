use Rattle.std.proofs.Common.{rules}
use Rattle.java_names.specs.Refusals.{Refuses}
use Rattle.java_members.specs.Declarations.{declaration_faults}
use Rattle.core_tree.specs.BuiltIn.{first_class}
use Rattle.java_members.specs.Files.{of_members}
use Rattle.java_members.proofs.LoopLemmas.{refuses_class}
use Rattle.java_members.proofs.declarations.check_declarations.Goals as goal

pub returns-in_err-check_members : goal.returns-in_err-check_members
returns-in_err-check_members c =
    let among : Refuses (of_members (declaration_faults c.args.env.now) first_class c.args.classes.now) c.in_err-check_members.field-0.0 =
    refuses_class (declaration_faults c.args.env.now) _ _ c.args.classes.now _ _ _ c.loop-tree.invariant c.loop-tree-test.true c.tree-item.is (rw (← c.as_slice.ensures) c.in_err-check_members.ensures) in
    search rules
