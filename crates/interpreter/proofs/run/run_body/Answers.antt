use Rattle.std.proofs.Common.{refl}
use Rattle.interpreter.proofs.Whole.{run_ends}
use Rattle.interpreter.proofs.run.run_body.Goals as goal

pub returns : goal.returns
returns g c = λ args main is begun unmarked.
    rw c.is_refused-sink_refused.ensures
    (run_ends _ _ args main c.args.beginning _ _ _ _ _ is begun refl refl refl refl refl unmarked refl refl c.drive-ended.ensures c.stop-stop.ensures)
