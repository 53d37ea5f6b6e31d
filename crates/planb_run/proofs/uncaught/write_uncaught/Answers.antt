use Rattle.std.proofs.Common.{codes, option_map, ◌++◌}
use Rattle.std.specs.Prelude.{encode_utf8_all}
use Rattle.std.proofs.lemmas.Result.{err_from_is_err_and}
use Rattle.pb_io.proofs.Puts.{Puts-append, Puts-stop}
use Rattle.planb_run.specs.Report.{class_name, message_text}
use Rattle.planb_run.proofs.Characters.{second_stopped}
use Rattle.planb_run.proofs.uncaught.write_uncaught.Goals as goal

pub returns-in_err-put_all : goal.returns-in_err-put_all
returns-in_err-put_all g c =
    let error = err_from_is_err_and c.from_residual.result c.from_residual.ensures.1 in
    rw (error.1, error.2) (Puts-stop _ _ (codes "uncaught ") _ c.in_err-put_all.field-0.0 c.in_err-put_all.ensures)

pub returns-in_err-put_characters : goal.returns-in_err-put_characters
returns-in_err-put_characters g c =
    let error = err_from_is_err_and c.from_residual-in_err-put_characters.result c.from_residual-in_err-put_characters.ensures.1 in
    rw (error.1, error.2)
    (second_stopped _ (g.O.Sink.state c.put_all.new.sink) _ (codes "uncaught ") _ (message_text c.args.message.now) (tt {0}) c.in_err-put_characters.field-0.0
    c.in_ok-put_all.ensures (rw c.name_of.ensures at c.in_err-put_characters.ensures))

pub returns : goal.returns
returns g c =
    let name = encode_utf8_all (class_name (option_map (λ p. p.now) c.args.program) c.args.class) in
    let text = message_text c.args.message.now in
    Puts-append _ (g.O.Sink.state c.put_all.new.sink) _ (codes "uncaught ") (name ++ text) (tt {0}) c.put_message.result c.in_ok-put_all.ensures
    (Puts-append _ (g.O.Sink.state c.put_characters.new.sink) _ name text (tt {0}) c.put_message.result
    (rw c.name_of.ensures at c.in_ok-put_characters.ensures) c.put_message.ensures)
