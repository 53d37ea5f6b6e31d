use Rattle.std.proofs.lemmas.Result.{err_from_is_err_and}
use Rattle.planb_run.proofs.Parts.{part-put, part-stopped}
use Rattle.planb_run.proofs.report.put_parts.Goals as goal

pub returns-in_err-put_all : goal.returns-in_err-put_all
returns-in_err-put_all g c =
    let error = err_from_is_err_and c.from_residual.result c.from_residual.ensures.1 in
    rw (error.1, error.2)
    (part-stopped _ (g.O.Sink.state c.loop-part.sink) _ c.args.parts.now c.loop-part.part-index _ (tt {0}) c.in_err-put_all.field-0.0
    c.loop-part-test.true c.loop-part.invariant c.in_err-put_all.ensures)

pub loop-part-preserved : goal.loop-part-preserved
loop-part-preserved g c =
    part-put _ (g.O.Sink.state c.loop-part.sink) _ c.args.parts.now c.loop-part.part-index _ (tt {0})
    c.loop-part-test.true c.loop-part.invariant c.in_ok-put_all.ensures
