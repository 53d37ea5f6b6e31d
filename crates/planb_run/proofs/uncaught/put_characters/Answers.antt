use Rattle.std.specs.Prelude.{encode_utf8_all}
use Rattle.std.proofs.lemmas.Result.{err_from_is_err_and}
use Rattle.std.proofs.lemmas.Str.{encodes-append}
use Rattle.planb_run.proofs.Characters.{text-put, text-stopped}
use Rattle.planb_run.proofs.uncaught.put_characters.Goals as goal

pub returns-in_err-put_character : goal.returns-in_err-put_character
returns-in_err-put_character g c =
    let error = err_from_is_err_and c.from_residual.result c.from_residual.ensures.1 in
    rw (error.1, error.2)
    (text-stopped encode_utf8_all encodes-append _ (g.O.Sink.state c.loop-character.sink) _ c.args.characters.now c.loop-character.character-index c.character-item.result (tt {0})
    c.in_err-put_character.field-0.0 c.loop-character-test.true c.character-item.is c.loop-character.invariant c.in_err-put_character.ensures)

pub loop-character-preserved : goal.loop-character-preserved
loop-character-preserved g c =
    text-put encode_utf8_all encodes-append _ (g.O.Sink.state c.loop-character.sink) _ c.args.characters.now c.loop-character.character-index c.character-item.result (tt {0})
    c.loop-character-test.true c.character-item.is c.loop-character.invariant c.in_ok-put_character.ensures
