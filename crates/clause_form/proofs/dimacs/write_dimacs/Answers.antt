use Rattle.std.proofs.Common.{flat_map, length}
use Rattle.std.proofs.lemmas.Result.{err_from_is_err_and}
use Rattle.pb_io.proofs.Puts.{Puts-stop, Puts-append}
use Rattle.clause_form.specs.Dimacs.{header, clause_line}
use Rattle.clause_form.proofs.dimacs.write_dimacs.Goals as goal

pub returns-in_err-put_header : goal.returns-in_err-put_header
returns-in_err-put_header g c =
    let error = err_from_is_err_and c.from_residual.result c.from_residual.ensures.1 in
    let each = c.as_slice-each.result.now in
    rw (error.1, error.2, ← c.as_slice-each.ensures.value)
    (Puts-stop _ _ (header c.args.clauses.now.variables (length each)) (flat_map clause_line each) c.in_err-put_header.field-0.0 c.in_err-put_header.ensures)

pub returns : goal.returns
returns g c =
    let each = c.as_slice-each.result.now in
    rw (← c.as_slice-each.ensures.value)
    (Puts-append _ (g.O.Sink.state c.put_header.new.sink) _ (header c.args.clauses.now.variables (length each)) (flat_map clause_line each) c.in_ok-put_header.field-0 c.put_clauses.result
    c.in_ok-put_header.ensures c.put_clauses.ensures)
