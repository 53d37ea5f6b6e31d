use Rattle.std.proofs.Common.{flat_map}
use Rattle.std.specs.Prelude.{codes}
use Rattle.std.proofs.lemmas.Result.{err_from_is_err_and}
use Rattle.pb_io.proofs.Puts.{Puts-stop}
use Rattle.clause_form.specs.Dimacs.{literal_text}
use Rattle.clause_form.proofs.dimacs.put_clause.Goals as goal

pub returns-in_err-put_literals : goal.returns-in_err-put_literals
returns-in_err-put_literals g c =
    let error = err_from_is_err_and c.from_residual.result c.from_residual.ensures.1 in
    rw (error.1, error.2) (Puts-stop _ _ (flat_map literal_text c.args.literals.now) (codes "0\n") c.in_err-put_literals.field-0.0 c.in_err-put_literals.ensures)
