use Rattle.std.proofs.Common.{false, refl, arith}
use Rattle.interpreter.specs.Setting.{point, world}
use Rattle.interpreter.proofs.Leaves.{wrote_local, wrote_no_local}
use Rattle.interpreter.proofs.Moves.{stays}
use Rattle.interpreter.proofs.running.Running.write_local.Goals as goal

pub returns-then-at-len-clause-ok : goal.returns-then-at-len-clause-ok
returns-then-at-len-clause-ok g c = stays false _ _ _ _ tt refl refl refl refl (λ k f J. rw (wrote_local c.args.at c.args.v (world (point g.S.Store.state c.args.self.now) f J) (omega (arith, c.if-at-len.true, c.len.ensures)), c.set.ensures) refl)

pub returns-else-at-len-clause-ok : goal.returns-else-at-len-clause-ok
returns-else-at-len-clause-ok g c = stays false _ _ _ _ tt refl refl refl refl (λ k f J. wrote_no_local c.args.at c.args.v (world (point g.S.Store.state c.args.self.now) f J) (omega (arith, c.if-at-len.false, c.len.ensures)))
