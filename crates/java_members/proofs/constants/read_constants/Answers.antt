use Rattle.std.proofs.Common.{rules}
use Rattle.java_names.specs.Refusals.{Refuses}
use Rattle.java_members.specs.Answers.{read_in}
use Rattle.java_members.specs.Constants.{read_classes}
use Rattle.core_tree.specs.BuiltIn.{first_class}
use Rattle.java_members.proofs.ReadingLemmas.{same_after, classes_end, class_read, class_refused}
use Rattle.java_members.proofs.constants.read_constants.Goals as goal

pub returns-in_err-read_members-clause-fault : goal.returns-in_err-read_members-clause-fault
returns-in_err-read_members-clause-fault c =
    let among : Refuses (read_classes c.args.env.now first_class c.args.classes.now (read_in c.args.env.now)).faults c.in_err-read_members.field-0.0 =
    class_refused c.args.env.now c.loop-tree.env c.loop-tree.invariant.same c.loop-tree.class c.args.classes.now _ _ c.loop-tree.invariant.read c.tree-item.result c.loop-tree-test.true c.tree-item.is _
    (rw (← c.as_slice.ensures) c.in_err-read_members.ensures.fault) in
    search rules

pub loop-tree-preserved : goal.loop-tree-preserved
loop-tree-preserved c = record {
  same = same_after c.args.env.now c.loop-tree.env c.loop-tree.invariant.same c.read_members.new.env c.in_ok-read_members.ensures.same;
  read = rw c.in_ok-class.ensures
      (class_read c.args.env.now c.loop-tree.env c.loop-tree.invariant.same c.loop-tree.class c.args.classes.now _ _ c.loop-tree.invariant.read c.tree-item.result c.loop-tree-test.true c.tree-item.is c.read_members.new.env
      (rw (← c.as_slice.ensures) c.in_ok-read_members.ensures.read));
}

pub returns-clause-read : goal.returns-clause-read
returns-clause-read c =
    classes_end c.args.env.now c.loop-tree.env c.loop-tree.invariant.same c.loop-tree.class c.args.classes.now _ _ c.loop-tree.invariant.read c.loop-tree-test.false
