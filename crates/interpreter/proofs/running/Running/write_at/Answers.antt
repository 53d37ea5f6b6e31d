use Rattle.std.proofs.Common.{refl, arith, false}
use Rattle.std.proofs.lemmas.Result.{IfOk-weaker}
use Rattle.interpreter.proofs.Sums.{no_cell}
use Rattle.interpreter.proofs.Moves.{as_node}
use Rattle.interpreter.proofs.running.Running.write_at.Goals as goal

pub returns-in-Err-clause-ok : goal.returns-in-Err-clause-ok
returns-in-Err-clause-ok g c =
    IfOk-weaker c.end.result _ _ (λ y mv. as_node false _ _ _ _ y (λ k f J. rw (no_cell _ _ c.args.o c.args.at (g.met.S.Store.sound c.args.self.now.store) (omega (arith, c.in-Err.ensures))) refl) mv) c.end.ensures.ok
