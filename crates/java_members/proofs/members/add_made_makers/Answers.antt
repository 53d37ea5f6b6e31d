use Rattle.std.proofs.Common.{[], ◌∷◌, sym, rules}
use Rattle.java_names.specs.Refusals.{Refuses}
use Rattle.java_members.specs.Bodies.{made_maker}
use Rattle.core_tree.specs.BuiltIn.{first_class}
use Rattle.java_members.specs.Files.{made_faults, of_made}
use Rattle.java_members.proofs.LoopLemmas.{refuses_made}
use Rattle.java_members.proofs.GatherLemmas.{next_made}
use Rattle.java_members.proofs.members.add_made_makers.Goals as goal

pub returns-in_err-add_made_maker-clause-fault : goal.returns-in_err-add_made_maker-clause-fault
returns-in_err-add_made_maker-clause-fault c =
    let among : Refuses (of_made (made_faults c.args.env.now) first_class c.args.classes.now) c.in_err-add_made_maker.field-0.0 =
    refuses_made (made_faults c.args.env.now) _ _ c.args.classes.now _ _ _ c.loop-tree.invariant.clear c.loop-tree-test.true c.tree-item.is c.in_err-add_made_maker.ensures.fault in
    search rules

pub loop-tree-preserved : goal.loop-tree-preserved
loop-tree-preserved c = record {
  makers = rw c.in_ok-class.ensures
      (next_made (λ n k. made_maker c.args.env.now n ∷ []) _ c.loop-tree.makers c.add_made_maker.new.makers c.loop-tree.class c.args.classes.now _ c.tree-item.result c.loop-tree.invariant.makers c.loop-tree-test.true c.tree-item.is
      c.in_ok-add_made_maker.ensures.makers);
  clear = rw c.in_ok-class.ensures
      (next_made (made_faults c.args.env.now) _ [] [] c.loop-tree.class c.args.classes.now _ c.tree-item.result c.loop-tree.invariant.clear c.loop-tree-test.true c.tree-item.is
      (sym c.in_ok-add_made_maker.ensures.fault));
}
