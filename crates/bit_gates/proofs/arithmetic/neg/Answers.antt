use Rattle.std.proofs.Common.{◌≡◌, ◌∙◌, ap, length, map, subst, sym, ◌^◌}
use Rattle.std.proofs.lemmas.List.Elements.{All-same}
use Rattle.gate_net.specs.Net.{Always, node_value}
use Rattle.gate_net.proofs.Growth.{continues-then}
use Rattle.bit_gates.specs.Whole.{unsigned, whole}
use Rattle.bit_gates.specs.Bits.{number}
use Rattle.bit_gates.specs.Digits.{IsNegation}
use Rattle.bit_gates.proofs.Comparisons.{neg-value, neg-within}
use Rattle.bit_gates.proofs.arithmetic.neg.Goals as goal

pub returns-clause-value : goal.returns-clause-value
returns-clause-value c = λ later f inputs.
    let value = node_value later inputs in
    let a = c.args.a.now in
    let same = c.as_slice.ensures.value in
    let on = continues-then _ _ _ c.negated.ensures.grows.begins f in
    neg-value value a c.args.net.now c.in_ok-nodes.nodes.items c.requires.bits c.requires.small (c.requires.bits.within later on inputs)
    (c.in_ok-nodes.ensures.width ∙ ap length same)
    (subst (λ ns. IsNegation (unsigned (map value ns)) (unsigned (map value c.in_ok-nodes.nodes.items)) (2 ^ length ns)) same (c.in_ok-nodes.ensures.value later f inputs))

pub returns-clause-bits : goal.returns-clause-bits
returns-clause-bits c =
    let a = c.args.a.now in
    record {
      nodes = c.in_ok-nodes.ensures.nodes;
      width = c.in_ok-nodes.ensures.width ∙ ap length c.as_slice.ensures.value ∙ c.requires.bits.width;
      within = λ later f inputs.
          let on = continues-then _ _ _ c.negated.ensures.grows.begins f in
          neg-within _ (number (node_value later inputs) a) a.most (returns-clause-value c later f inputs) (c.requires.bits.within later on inputs);
    }
