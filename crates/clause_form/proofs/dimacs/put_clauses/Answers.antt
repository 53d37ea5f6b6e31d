use Rattle.std.proofs.Common.{◌∙◌, subst, Err}
use Rattle.std.proofs.lemmas.Result.{err_from_is_err_and}
use Rattle.pb_io.specs.Sink.{Puts}
use Rattle.clause_form.proofs.Putting.{text-stopped}
use Rattle.clause_form.specs.Dimacs.{clause_line}
use Rattle.clause_form.proofs.dimacs.put_clauses.Goals as goal

pub returns-in_err-put_clause : goal.returns-in_err-put_clause
returns-in_err-put_clause g c =
    let error = err_from_is_err_and c.from_residual.result c.from_residual.ensures.1 in
    let before = g.O.Sink.state c.loop-clause.sink in
    let after = g.O.Sink.state c.put_clause.new.sink in
    rw (error.1, error.2)
    (text-stopped clause_line c.args.clauses.now c.loop-clause.clause-index c.clause-item.result c.loop-clause-test.true _ before _ (tt {0}) c.in_err-put_clause.field-0.0
    c.loop-clause.invariant (subst (λ literals. Puts before after (clause_line literals) {T = Unit {0}} (Err c.in_err-put_clause.field-0.0)) (c.literals.ensures.value ∙ c.clause-item.is) c.in_err-put_clause.ensures))
