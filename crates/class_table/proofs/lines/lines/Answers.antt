use Rattle.std.proofs.Common.{rules}
use Rattle.class_table.proofs.AncestorLemmas.{ends_clear, all_end}
use Rattle.class_table.proofs.lines.lines.Goals as goal

pub returns-clause-clear : goal.returns-clause-clear
returns-clause-clear c = ends_clear _ (all_end _ _ c.loop.index (search rules) c.loop-test.false c.loop.invariant.ends)
