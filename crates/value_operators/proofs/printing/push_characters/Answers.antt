use Rattle.std.proofs.Common.{◌≡◌, ◌∙◌, ◌++◌, string_bytes, rules}
use Rattle.std.specs.Prelude.{encode_utf8}
use Rattle.value_operators.proofs.Encoding.{encoded_further}
use Rattle.value_operators.proofs.printing.push_characters.Goals as goal

pub loop-character-preserved : goal.loop-character-preserved
loop-character-preserved c =
    let pushed : string_bytes c.push.new.self ≡ string_bytes c.loop-character.text ++ encode_utf8 c.character-item.result = search rules in
    pushed ∙ encoded_further _ _ _ _ _ c.loop-character-test.true c.character-item.is c.loop-character.invariant
