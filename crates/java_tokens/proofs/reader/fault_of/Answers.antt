use Rattle.std.proofs.Common.{inl, ◌-◌, take, drop, subst, sym}
use Rattle.java_tokens.specs.declared.lexeme.Flaw.TheVariants as flaw
use Rattle.java_tokens.specs.declared.error.TokenError.TheVariants.{BadChar}
use Rattle.java_tokens.specs.Lexemes.{HasFlaw}
use Rattle.java_tokens.specs.Reading.{IsFaultOf}
use Rattle.java_tokens.proofs.Stopping.{escape-named}
use Rattle.java_tokens.proofs.reader.fault_of.Goals as goal

pub returns-in-Escape : goal.returns-in-Escape
returns-in-Escape c =
    let xs = c.args.characters.now in
    let text = take (c.args.to - c.args.from) (drop c.args.from xs) in
    let bad : HasFlaw flaw.Escape text = subst (λ f. HasFlaw f text) c.in-Escape.is c.requires.flawed in
    subst (λ f. IsFaultOf f xs c.args.whole c.args.from c.args.to (BadChar c.moved.result.offset)) (sym c.in-Escape.is)
    (inl (record { named = escape-named xs c.args.from c.args.to c.moved.result c.requires.order c.requires.within bad c.moved.ensures; over = λ none. absurd none }))
