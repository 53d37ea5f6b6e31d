use Rattle.object_cells.proofs.Closed.{within}
use Rattle.object_cells.proofs.cells.cell.Goals as goal

pub with_position-requires : goal.with_position-requires
with_position-requires g c = within _ _ _ _ _ (g.met.S.Store.sound c.args.store.now) c.in_ok-v.ensures.value
