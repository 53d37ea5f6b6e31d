use Rattle.std.proofs.Common.{◌≡◌, ℕ, ◌+◌, ◌<◌, true, List, length, get_or, is_ok, sym, ap, ◌∙◌, subst, arith}
use Rattle.std.proofs.ResultArms.{chosen}
use Rattle.std.proofs.lemmas.Grind.{get_or_default_zero}
use Rattle.java_tokens.specs.declared.lexeme.Lexeme.TheVariants.{Token, Malformed}
use Rattle.java_tokens.specs.declared.lexeme.Flaw.TheVariants as flaw
use Rattle.java_tokens.specs.declared.token.TokenKind.TheVariants as kind
use Rattle.java_tokens.specs.Characters.{is_line_end}
use Rattle.java_tokens.specs.Reading.{IsScanned}
use Rattle.java_tokens.proofs.StringSteps.{read-plain, read-escape, scanned-string, scanned-escape, scanned-line_end, lexeme_at}
use Rattle.java_tokens.proofs.string.scan_string.Goals as goal

-- the character at a place
here : (xs : List ℕ) (at c : ℕ) → at < length xs → c ≡ get_or xs at c → get_or xs at 0 ≡ c
here xs at c below is = sym (get_or_default_zero xs at c below) ∙ sym is

pub returns-then-character-eq34 : goal.returns-then-character-eq34
returns-then-character-eq34 c =
    let xs = c.args.characters.now in
    let at = c.loop-at.at in
    let quote : get_or xs at 0 ≡ 34 = here xs at _ (omega arith) c.index-characters-at.is ∙ c.if-character-eq34.true in
    subst (λ cs. IsScanned xs (Token (kind.Text cs)) (at + 1)) (sym c.new.ensures)
    (scanned-string xs c.loop-at.text.items at c.loop-at.invariant (omega arith) quote)

pub returns-then-is_line_end : goal.returns-then-is_line_end
returns-then-is_line_end c =
    let xs = c.args.characters.now in
    let at = c.loop-at.at in
    let ends : is_line_end (get_or xs at 0) ≡ true = ap is_line_end (here xs at _ (omega arith) c.index-characters-at.is) ∙ sym c.is_line_end.ensures ∙ c.if-is_line_end.true in
    lexeme_at xs (Malformed flaw.OpenString) _ at _ c.malformed.ensures.lexeme c.malformed.ensures.len
    (scanned-line_end xs c.loop-at.text.items at c.loop-at.invariant (omega arith) ends)

pub loop-at-preserved-then-character-ne92 : goal.loop-at-preserved-then-character-ne92
loop-at-preserved-then-character-ne92 c =
    let xs = c.args.characters.now in
    let at = c.loop-at.at in
    let pushed = chosen _ _ _ _ c.push.ensures.items (ap is_ok c.in_ok-push.was) in
    read-plain xs c.loop-at.text.items at c.loop-at.invariant _ c.index-characters-at.result (omega arith)
    (here xs at _ (omega arith) c.index-characters-at.is) (λ is. omega arith) (λ is. omega arith) (sym c.is_line_end.ensures ∙ c.if-is_line_end.false) pushed

pub returns-in-None : goal.returns-in-None
returns-in-None c =
    let xs = c.args.characters.now in
    let at = c.loop-at.at in
    let backslash : get_or xs at 0 ≡ 92 = here xs at _ (omega arith) c.index-characters-at.is ∙ omega arith in
    lexeme_at xs (Malformed flaw.Escape) _ (at + 2) _ c.malformed-in-None.ensures.lexeme c.malformed-in-None.ensures.len
    (scanned-escape xs c.loop-at.text.items at c.loop-at.invariant c.index-characters-at-in-loop-at.result (omega arith) backslash
    (here xs (at + 1) _ (omega arith) c.index-characters-at-in-loop-at.is) (sym c.in-None.ensures))

pub loop-at-preserved : goal.loop-at-preserved
loop-at-preserved c =
    let xs = c.args.characters.now in
    let at = c.loop-at.at in
    let backslash : get_or xs at 0 ≡ 92 = here xs at _ (omega arith) c.index-characters-at.is ∙ omega arith in
    let pushed = chosen _ _ _ _ c.push-in-Some.ensures.items (ap is_ok c.in_ok-push-in-Some.was) in
    read-escape xs c.loop-at.text.items at c.loop-at.invariant _ c.index-characters-at-in-loop-at.result c.in-Some.meant (omega arith) backslash
    (here xs (at + 1) _ (omega arith) c.index-characters-at-in-loop-at.is) (sym c.in-Some.ensures) pushed
