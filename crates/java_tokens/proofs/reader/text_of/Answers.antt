use Rattle.std.proofs.Common.{◌≡◌, drop, length, ap, sym, ◌∙◌, subst, arith}
use Rattle.std.specs.Str.{StartsWithNoChar, valid_up_to}
use Rattle.std.proofs.lemmas.List.{drop_all, length-take-le}
use Rattle.std.proofs.lemmas.Result.{MatchResult-at_ok}
use Rattle.java_tokens.proofs.Texts.{stuck-nil}
use Rattle.java_tokens.proofs.Stopping.{stuck-valid}
use Rattle.java_tokens.proofs.reader.text_of.Goals as goal

pub returns-in-Ok-clause-stuck : goal.returns-in-Ok-clause-stuck
returns-in-Ok-clause-stuck c =
    let all = ap length c.in-Ok.ensures.cases.0 in
    let none = drop_all (length c.in-Ok.text.now) c.args.bytes.now (omega arith) in
    subst StartsWithNoChar (sym none) stuck-nil

pub returns-in-Err-clause-stuck : goal.returns-in-Err-clause-stuck
returns-in-Err-clause-stuck c =
    let bytes = c.args.bytes.now in
    let n = valid_up_to c.in-Err.error in
    let valid = c.in-Err.ensures.cases.1 in
    let front = (MatchResult-at_ok _ _ _ c.unwrap.ensures c.from_utf8-in-Err.ensures.cases).0 in
    let size : length c.unwrap.result.now ≡ n = ap length front ∙ length-take-le c.valid_up_to.result bytes (omega (arith, c.valid_up_to.ensures, valid.short)) ∙ c.valid_up_to.ensures in
    subst (λ m. StartsWithNoChar (drop m bytes)) (sym size) (stuck-valid bytes n valid)
