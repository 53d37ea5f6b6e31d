use Rattle.std.proofs.Common.{sym, ap, ◌∙◌, below_more, arith, bytes_eq}
use Rattle.java_tokens.proofs.Spellings.{no_keyword}
use Rattle.java_tokens.proofs.token.Keyword.from_text.Goals as goal

pub loop-keyword-preserved : goal.loop-keyword-preserved
loop-keyword-preserved c =
    below_more _ _ c.loop-keyword.invariant (ap (bytes_eq c.args.text.now) (sym c.text.ensures) ∙ sym c.is_text.ensures ∙ c.if-is_text.false)

pub returns-clause-none : goal.returns-clause-none
returns-clause-none c = no_keyword c.args.text.now (λ i below. c.loop-keyword.invariant i (omega arith))
