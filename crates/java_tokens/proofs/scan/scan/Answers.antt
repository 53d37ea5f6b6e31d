use Rattle.std.proofs.Common.{◌≡◌, true, get_or, sym, ap, ◌∙◌}
use Rattle.std.proofs.lemmas.Grind.{get_or_default_zero}
use Rattle.java_tokens.specs.Characters.{is_white}
use Rattle.java_tokens.proofs.Scans.{scanned-white}
use Rattle.java_tokens.proofs.scan.scan.Goals as goal

pub returns-then-is_white : goal.returns-then-is_white
returns-then-is_white c =
    let xs = c.args.characters.now in
    let first = sym (get_or_default_zero xs 0 c.index-characters-0.result c.requires) ∙ sym c.index-characters-0.is in
    let white : is_white (get_or xs 0 0) ≡ true = ap is_white first ∙ sym c.is_white.ensures ∙ c.if-is_white.true in
    scanned-white xs c.requires white
