use Rattle.std.proofs.Common.{codes, ◌++◌}
use Rattle.std.specs.Prelude.{encode_utf8_all}
use Rattle.std.proofs.lemmas.Result.{err_from_is_err_and}
use Rattle.pb_io.proofs.Puts.{Puts-append, Puts-stop}
use Rattle.planb_run.specs.Report.{escaped}
use Rattle.planb_run.proofs.Characters.{second_stopped}
use Rattle.planb_run.proofs.uncaught.put_text.Goals as goal

pub returns-in_err-put_all : goal.returns-in_err-put_all
returns-in_err-put_all g c =
    let error = err_from_is_err_and c.from_residual.result c.from_residual.ensures.1 in
    rw (error.1, error.2) (Puts-stop _ _ (codes ": ") _ c.in_err-put_all.field-0.0 c.in_err-put_all.ensures)

pub returns-in_err-put_escaped : goal.returns-in_err-put_escaped
returns-in_err-put_escaped g c =
    let error = err_from_is_err_and c.from_residual-in_err-put_escaped.result c.from_residual-in_err-put_escaped.ensures.1 in
    rw (error.1, error.2)
    (second_stopped _ (g.O.Sink.state c.put_all.new.sink) _ (codes ": ") (encode_utf8_all (escaped c.args.characters.now)) (codes "\n") (tt {0}) c.in_err-put_escaped.field-0.0
    c.in_ok-put_all.ensures c.in_err-put_escaped.ensures)

pub returns : goal.returns
returns g c =
    let text = encode_utf8_all (escaped c.args.characters.now) in
    Puts-append _ (g.O.Sink.state c.put_all.new.sink) _ (codes ": ") (text ++ codes "\n") (tt {0}) c.put_all-2.result c.in_ok-put_all.ensures
    (Puts-append _ (g.O.Sink.state c.put_escaped.new.sink) _ text (codes "\n") (tt {0}) c.put_all-2.result c.in_ok-put_escaped.ensures c.put_all-2.ensures)
