use Rattle.class_table.proofs.Faults.{if_err, on_ok}
use Rattle.class_table.proofs.OverridingLemmas.{nearest_clear, nearest_fault}
use Rattle.class_table.proofs.overriding.check_overriding.Goals as goal

pub returns-clause-fault : goal.returns-clause-fault
returns-clause-fault c = if_err c.check_nearest.result _ _ c.check_nearest.ensures.fault (nearest_fault c.args.index.now.names c.args.index.now.declared c.args.declared.now)

pub returns-clause-clear : goal.returns-clause-clear
returns-clause-clear c = on_ok c.check_nearest.result _ _ c.check_nearest.ensures.clear (nearest_clear c.args.index.now.names c.args.index.now.declared c.args.declared.now c.requires.same c.requires.ends)
