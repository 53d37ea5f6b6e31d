use Rattle.class_table.proofs.Faults.{clear_either}
use Rattle.class_table.proofs.declare.declaration.Goals as goal

pub returns-clause-clear : goal.returns-clause-clear
returns-clause-clear c = rw (← c.as_slice.ensures) (clear_either _ _ c.in_ok-parent.ensures.clear c.in_ok-check_members.ensures.clear)
