use Rattle.std.proofs.Common.{◌≡◌, ◌<◌, ◌≤◌, ◌*◌, ◌^◌, ◌∙◌, ap, length, map, arith, rules}
use Rattle.std.specs.Prelude.{pos, ◌*ℤ◌, unsigned_abs}
use Rattle.gate_net.specs.Net.{IsNode, node_value}
use Rattle.gate_net.proofs.Growth.{continues-then}
use Rattle.bit_gates.specs.Whole.{whole}
use Rattle.bit_gates.specs.Bits.{number}
use Rattle.bit_gates.specs.Digits.{resized_to}
use Rattle.bit_gates.proofs.Widths.{length-resized, nodes-resized}
use Rattle.bit_gates.proofs.Products.{product-value, product-within}
use Rattle.bit_gates.proofs.product.product.Goals as goal

pub returns-clause-value : goal.returns-clause-value
returns-clause-value c = λ later f inputs.
    let value = node_value later inputs in
    let a = c.args.a.now in
    let width = c.width.result in
    let on = continues-then _ _ _ c.digits_of_product.ensures.grows.begins f in
    let factor : c.from.result * a.most ≡ c.args.factor * a.most = ap (λ n. n * a.most) c.from.ensures in
    product-value value c.in_ok-digits.digits.items c.in_ok-nodes.nodes.items width (c.from.result * a.most) c.args.factor a.most (number value a)
    c.in_ok-digits.ensures.some factor (omega (arith, factor, c.requires.small)) c.width.ensures.width
    (c.in_ok-nodes.ensures ∙ ap (λ ns. resized_to ns width) c.as_slice-2.ensures.value)
    (c.requires.bits.within later on inputs)
    (c.in_ok-digits.ensures.value later f inputs ∙ ap (λ ns. pos c.args.factor *ℤ whole (map value ns)) c.as_slice.ensures.value)

pub returns-clause-bits : goal.returns-clause-bits
returns-clause-bits c =
    let a = c.args.a.now in
    let digits = c.in_ok-digits.digits.items in
    let width = c.width.result in
    let factor : c.from.result * a.most ≡ c.args.factor * a.most = ap (λ n. n * a.most) c.from.ensures in
    let same : c.in_ok-nodes.nodes.items ≡ resized_to digits width = c.in_ok-nodes.ensures ∙ ap (λ ns. resized_to ns width) c.as_slice-2.ensures.value in
    record {
      nodes = nodes-resized c.digits_of_product.new.net digits width c.in_ok-nodes.nodes.items c.in_ok-digits.ensures.some c.in_ok-digits.ensures.nodes same;
      width = ap length same ∙ length-resized digits width ∙ c.width.ensures.width;
      within = λ later f inputs.
          let on = continues-then _ _ _ c.digits_of_product.ensures.grows.begins f in
          omega (arith, ap unsigned_abs (returns-clause-value c later f inputs), product-within c.args.factor a.most (number (node_value later inputs) a) (c.from.result * a.most) factor (c.requires.bits.within later on inputs));
    }
