use Rattle.std.specs.Prelude.{encode_utf8_all}
use Rattle.std.proofs.lemmas.Result.{err_from_is_err_and}
use Rattle.planb_run.specs.Report.{escaped}
use Rattle.planb_run.proofs.Characters.{text-put, text-stopped, one_escaped, escaped-append}
use Rattle.planb_run.proofs.uncaught.put_escaped.Goals as goal

pub returns-in_err-put_escape : goal.returns-in_err-put_escape
returns-in_err-put_escape g c =
    let error = err_from_is_err_and c.from_residual.result c.from_residual.ensures.1 in
    rw (error.1, error.2)
    (text-stopped (λ cs. encode_utf8_all (escaped cs)) escaped-append _ (g.O.Sink.state c.loop-character.sink) _ c.args.characters.now c.loop-character.character-index c.character-item.result (tt {0})
    c.in_err-put_escape.field-0.0 c.loop-character-test.true c.character-item.is c.loop-character.invariant (rw (one_escaped c.character-item.result) c.in_err-put_escape.ensures))

pub loop-character-preserved : goal.loop-character-preserved
loop-character-preserved g c =
    text-put (λ cs. encode_utf8_all (escaped cs)) escaped-append _ (g.O.Sink.state c.loop-character.sink) _ c.args.characters.now c.loop-character.character-index c.character-item.result (tt {0})
    c.loop-character-test.true c.character-item.is c.loop-character.invariant (rw (one_escaped c.character-item.result) c.in_ok-put_escape.ensures)
