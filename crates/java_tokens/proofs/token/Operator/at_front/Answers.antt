use Rattle.std.proofs.Common.{sym, ap, ◌∙◌, below_more, arith}
use Rattle.java_tokens.specs.Reading.{starts_with}
use Rattle.java_tokens.proofs.Operators.{found_longest, found_none}
use Rattle.java_tokens.proofs.token.Operator.at_front.Goals as goal

pub returns-then-starts_with-clause-some : goal.returns-then-starts_with-clause-some
returns-then-starts_with-clause-some c =
    found_longest c.args.characters.now c.loop-operator.operator-index (omega arith)
    (ap (starts_with c.args.characters.now) (sym c.text.ensures) ∙ sym c.starts_with.ensures ∙ c.if-starts_with.true)
    c.loop-operator.invariant

pub loop-operator-preserved : goal.loop-operator-preserved
loop-operator-preserved c =
    below_more _ _ c.loop-operator.invariant
    (ap (starts_with c.args.characters.now) (sym c.text.ensures) ∙ sym c.starts_with.ensures ∙ c.if-starts_with.false)

pub returns-clause-none : goal.returns-clause-none
returns-clause-none c = found_none c.args.characters.now (λ i below. c.loop-operator.invariant i (omega arith))
