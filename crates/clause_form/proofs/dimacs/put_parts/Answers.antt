use Rattle.std.proofs.Common.{List, ℕ, Bor}
use Rattle.std.proofs.lemmas.Result.{err_from_is_err_and}
use Rattle.clause_form.proofs.Putting.{text-put, text-stopped}
use Rattle.clause_form.proofs.dimacs.put_parts.Goals as goal

pub returns-in_err-put_all : goal.returns-in_err-put_all
returns-in_err-put_all g c =
    let error = err_from_is_err_and c.from_residual.result c.from_residual.ensures.1 in
    rw (error.1, error.2)
    (text-stopped (λ (part : Bor (List ℕ)). part.now) c.args.parts.now c.loop-part.part-index _ c.loop-part-test.true _ (g.O.Sink.state c.loop-part.sink) _ (tt {0}) c.in_err-put_all.field-0.0
    c.loop-part.invariant c.in_err-put_all.ensures)

pub loop-part-preserved : goal.loop-part-preserved
loop-part-preserved g c =
    text-put (λ (part : Bor (List ℕ)). part.now) c.args.parts.now c.loop-part.part-index _ c.loop-part-test.true _ (g.O.Sink.state c.loop-part.sink) _ (tt {0})
    c.loop-part.invariant c.in_ok-put_all.ensures
