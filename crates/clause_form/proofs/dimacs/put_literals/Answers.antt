use Rattle.std.proofs.Common.{get_or, w32, rules}
use Rattle.std.specs.Prelude.{pos, FitsSigned}
use Rattle.std.proofs.lemmas.Int.{to_z-of_z}
use Rattle.std.proofs.lemmas.Result.{err_from_is_err_and}
use Rattle.clause_form.proofs.Putting.{text-stopped}
use Rattle.clause_form.specs.Dimacs.{literal_text}
use Rattle.clause_form.proofs.dimacs.put_literals.Goals as goal

pub returns-in_err-put_literal : goal.returns-in_err-put_literal
returns-in_err-put_literal g c =
    let error = err_from_is_err_and c.from_residual.result c.from_residual.ensures.1 in
    let literal = get_or c.args.literals.now c.loop-literal.literal-index (pos 0) in
    let fits : FitsSigned w32 literal = search rules in
    rw (error.1, error.2)
    (text-stopped literal_text c.args.literals.now c.loop-literal.literal-index (pos 0) c.loop-literal-test.true _ (g.O.Sink.state c.loop-literal.sink) _ (tt {0}) c.in_err-put_literal.field-0.0
    c.loop-literal.invariant (simp (to_z-of_z w32 literal fits) at c.in_err-put_literal.ensures))
