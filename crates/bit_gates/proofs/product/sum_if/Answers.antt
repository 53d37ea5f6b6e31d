use Rattle.std.proofs.Common.{◌≡◌, ◌+◌, ◌∙◌, length, map, arith, rules}
use Rattle.gate_net.specs.Net.{IsNode, node_value}
use Rattle.bit_gates.specs.Whole.{whole}
use Rattle.bit_gates.specs.Digits.{resized_to}
use Rattle.bit_gates.proofs.Widths.{nodes-resized}
use Rattle.bit_gates.proofs.Products.{sum-value, wider-value, if-wanted, if-unwanted}
use Rattle.bit_gates.proofs.product.sum_if.Goals as goal

pub returns-then-not-wanted-clause-value : goal.returns-then-not-wanted-clause-value
returns-then-not-wanted-clause-value c = λ later f inputs.
    let value = node_value later inputs in
    if-unwanted c.args.wanted _ _ (whole (map value c.args.ys.now)) (search rules) (wider-value value c.args.xs.now c.in_ok-first.first.items c.requires.some c.in_ok-first.ensures)

pub join-requires-clause-xs : goal.join-requires-clause-xs
join-requires-clause-xs c =
    let xs = c.args.xs.now in
    nodes-resized c.args.net.now xs (length xs + 1) c.as_slice.result.now c.requires.some c.requires.xs (c.as_slice.ensures.value ∙ c.in_ok-first.ensures)

pub join-requires-clause-ys : goal.join-requires-clause-ys
join-requires-clause-ys c =
    nodes-resized c.args.net.now c.args.ys.now (length c.args.xs.now + 1) c.as_slice-2.result.now (omega arith) c.requires.ys (c.as_slice-2.ensures.value ∙ c.in_ok-second.ensures)

pub returns-clause-value : goal.returns-clause-value
returns-clause-value c = λ later f inputs.
    let value = node_value later inputs in
    if-wanted c.args.wanted _ _ _ (search rules)
    (sum-value value c.args.xs.now c.args.ys.now c.in_ok-digits.digits.values.items c.as_slice.result.now c.as_slice-2.result.now (value c.in_ok-digits.digits.carry) (length c.args.xs.now + 1)
    c.requires.some c.requires.same (omega arith)
    (c.as_slice.ensures.value ∙ c.in_ok-first.ensures) (c.as_slice-2.ensures.value ∙ c.in_ok-second.ensures)
    c.in_ok-digits.ensures.width (c.in_ok-digits.ensures.value later f inputs))
