use Rattle.std.proofs.Common.{◌≡◌, ◌<◌, ◌≤◌, ◌==◌, List, ℕ, [], drop, length, chars, true, false, ◌∙◌, arith, rules, length-drop}
use Rattle.std.proofs.lemmas.Bool.Decides.{nat_tests}
use Rattle.std.proofs.lemmas.List.{drop_all}
use Rattle.std.proofs.lemmas.Result.{IfOk-weaker, IfErr-weaker}
use Rattle.std.proofs.lemmas.Str.{chars_from_encodes}
use Rattle.java_tokens.proofs.Stopping.{has_text, are_tokens, has_fault}
use Rattle.java_tokens.proofs.reader.tokens.Goals as goal

-- whether bytes are left after a front of this length
none_left : (bytes : List ℕ) (n : ℕ) → (n == length bytes) ≡ true → drop n bytes ≡ []
none_left bytes n whole = let same : n ≡ length bytes = grind (arith, nat_tests) in drop_all n bytes (omega arith)

some_left : (bytes : List ℕ) (n : ℕ) → n ≤ length bytes → (n == length bytes) ≡ false → 0 < length (drop n bytes)
some_left bytes n within part =
    let below : n < length bytes = grind (arith, nat_tests) in omega (arith, length-drop n bytes)

pub returns-clause-ok : goal.returns-clause-ok
returns-clause-ok c =
    let bytes = c.args.bytes.now in
    let text = c.text_of-text.result.now in
    let are : c.in_ok-characters.characters.items ≡ chars text = search (rules, chars_from_encodes) in
    let read = has_text bytes text c.deref.result.now c.text_of-text.ensures.front c.text_of-text.ensures.stuck c.text_of-text.utf8 (c.deref.ensures.value ∙ are) in
    IfOk-weaker c.read.result _ _ (λ tokens. are_tokens bytes c.deref.result.now (drop (length text) bytes) (length text == length bytes) tokens.items read (none_left bytes (length text))) c.read.ensures.ok

pub returns-clause-err : goal.returns-clause-err
returns-clause-err c =
    let bytes = c.args.bytes.now in
    let text = c.text_of-text.result.now in
    let are : c.in_ok-characters.characters.items ≡ chars text = search (rules, chars_from_encodes) in
    let read = has_text bytes text c.deref.result.now c.text_of-text.ensures.front c.text_of-text.ensures.stuck c.text_of-text.utf8 (c.deref.ensures.value ∙ are) in
    IfErr-weaker c.read.result _ _
    (has_fault bytes c.deref.result.now (drop (length text) bytes) (length text == length bytes) read (none_left bytes (length text)) (some_left bytes (length text) c.text_of-text.ensures.within))
    c.read.ensures.err
