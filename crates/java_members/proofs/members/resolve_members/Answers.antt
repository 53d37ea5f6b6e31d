use Rattle.std.proofs.Common.{◌∙◌, sym, ap, arith, rules}
use Rattle.java_names.specs.Refusals.{Refuses}
use Rattle.java_members.specs.declared.members.Bodies.{Bodies}
use Rattle.java_members.specs.Answers.{faults_in}
use Rattle.core_tree.specs.BuiltIn.{first_class}
use Rattle.java_members.specs.Files.{member_faults, of_members}
use Rattle.java_members.proofs.GatherLemmas.{class_next, classes_end, next_class, refuses_numbered}
use Rattle.java_members.proofs.members.resolve_members.Goals as goal

pub returns-in_err-add_members-clause-fault : goal.returns-in_err-add_members-clause-fault
returns-in_err-add_members-clause-fault c =
    let among : Refuses (of_members (faults_in c.args.env.now) first_class c.args.classes.now) c.in_err-add_members.field-0.0 =
    refuses_numbered (faults_in c.args.env.now) first_class c.loop-tree.class c.args.classes.now _ _ _ c.loop-tree.invariant.place c.loop-tree-test.true c.tree-item.is (rw (← c.as_slice.ensures) c.in_err-add_members.ensures.fault) in
    search rules

pub loop-tree-preserved : goal.loop-tree-preserved
loop-tree-preserved c = record {
  place = omega (arith, c.in_ok-class.ensures, c.loop-tree.invariant.place);
  bodies = rw c.in_ok-class.ensures (c.loop-tree.invariant.bodies
      ∙ class_next c.args.env.now c.loop-tree.class c.args.classes.now _ c.loop-tree.bodies c.tree-item.result c.add_members.new.bodies c.loop-tree-test.true c.tree-item.is
      (rw (← c.as_slice.ensures) c.in_ok-add_members.ensures.bodies));
  clear = rw c.in_ok-class.ensures
      (next_class (member_faults c.args.env.now) _ c.loop-tree.class c.args.classes.now _ c.tree-item.result c.loop-tree.invariant.clear c.loop-tree-test.true c.tree-item.is
      (rw (← c.as_slice.ensures) c.in_ok-add_members.ensures.clear));
}

pub returns-clause-methods : goal.returns-clause-methods
returns-clause-methods c =
    ap (λ (b : Bodies). b.methods) (sym (c.loop-tree.invariant.bodies ∙ classes_end c.args.env.now c.loop-tree.class c.args.classes.now _ c.loop-tree.bodies c.loop-tree-test.false))

pub returns-clause-makers : goal.returns-clause-makers
returns-clause-makers c =
    ap (λ (b : Bodies). b.makers) (sym (c.loop-tree.invariant.bodies ∙ classes_end c.args.env.now c.loop-tree.class c.args.classes.now _ c.loop-tree.bodies c.loop-tree-test.false))
