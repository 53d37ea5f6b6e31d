use Rattle.std.proofs.Common.{false, refl, arith}
use Rattle.heap_arena.specs.declared.cell.Cell.TheVariants as value
use Rattle.interpreter.specs.Setting.{point, world}
use Rattle.interpreter.proofs.Leaves.{wrote_local, wrote_no_local}
use Rattle.interpreter.proofs.Moves.{stays}
use Rattle.interpreter.proofs.running.Running.handle.Goals as goal

pub returns-then-slot-len-clause-ok : goal.returns-then-slot-len-clause-ok
returns-then-slot-len-clause-ok g c = stays false _ _ _ _ tt refl refl refl refl (λ k f J. rw (wrote_local c.args.clause.now.slot (value.Ref c.args.o) (world (point g.S.Store.state c.args.self.now) f J) (omega (arith, c.if-slot-len.true, c.len.ensures)), c.set.ensures, c.get.ensures) refl)

pub returns-else-slot-len-clause-ok : goal.returns-else-slot-len-clause-ok
returns-else-slot-len-clause-ok g c = stays false _ _ _ _ tt refl refl refl refl (λ k f J. rw (wrote_no_local c.args.clause.now.slot (value.Ref c.args.o) (world (point g.S.Store.state c.args.self.now) f J) (omega (arith, c.if-slot-len.false, c.len.ensures))) refl)
