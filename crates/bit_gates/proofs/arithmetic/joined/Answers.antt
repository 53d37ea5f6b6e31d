use Rattle.std.proofs.Common.{◌≡◌, ◌<◌, ◌∙◌, ap, sym, length, arith, map}
use Rattle.std.specs.List.{All}
use Rattle.gate_net.specs.Net.{Always, IsNode}
use Rattle.bit_gates.specs.Whole.{whole}
use Rattle.bit_gates.specs.Bits.{number}
use Rattle.bit_gates.specs.Digits.{joined_number, resized_to}
use Rattle.bit_gates.proofs.Widths.{length-resized, nodes-resized}
use Rattle.bit_gates.proofs.Joins.{some-digit, joined-value, joined-within}
use Rattle.bit_gates.proofs.arithmetic.joined.Goals as goal

pub join-requires-clause-xs : goal.join-requires-clause-xs
join-requires-clause-xs c =
    let a = c.args.a.now in
    nodes-resized c.args.net.now a.nodes.items c.width-width.result c.as_slice-3.result.now (some-digit c.args.net.now a c.requires.first (omega arith)) c.requires.first.nodes
    (c.as_slice-3.ensures.value ∙ c.in_ok-first.ensures ∙ ap (λ ns. resized_to ns c.width-width.result) c.as_slice.ensures.value)

pub join-requires-clause-ys : goal.join-requires-clause-ys
join-requires-clause-ys c =
    let b = c.args.b.now in
    nodes-resized c.args.net.now b.nodes.items c.width-width.result c.as_slice-4.result.now (some-digit c.args.net.now b c.requires.second (omega arith)) c.requires.second.nodes
    (c.as_slice-4.ensures.value ∙ c.in_ok-second.ensures ∙ ap (λ ns. resized_to ns c.width-width.result) c.as_slice-2.ensures.value)

pub returns-clause-value : goal.returns-clause-value
returns-clause-value c =
    let width = c.width-width.result in
    joined-value c.args.rule c.args.net.now c.join.new.net c.args.a.now c.args.b.now c.in_ok-digits.digits.values.items c.as_slice-3.result.now c.as_slice-4.result.now c.in_ok-digits.digits.carry width
    c.requires.first c.requires.second c.join.ensures.grows.begins c.requires.small c.width-width.ensures.width
    (c.as_slice-3.ensures.value ∙ c.in_ok-first.ensures ∙ ap (λ ns. resized_to ns width) c.as_slice.ensures.value)
    (c.as_slice-4.ensures.value ∙ c.in_ok-second.ensures ∙ ap (λ ns. resized_to ns width) c.as_slice-2.ensures.value)
    c.in_ok-digits.ensures.width c.in_ok-digits.ensures.value

pub returns-clause-bits : goal.returns-clause-bits
returns-clause-bits c =
    let width = c.width-width.result in
    let a = c.args.a.now in
    let first : c.as_slice-3.result.now ≡ resized_to a.nodes.items width = c.as_slice-3.ensures.value ∙ c.in_ok-first.ensures ∙ ap (λ ns. resized_to ns width) c.as_slice.ensures.value in
    record {
      nodes = c.in_ok-digits.ensures.nodes;
      width = c.in_ok-digits.ensures.width ∙ ap length first ∙ length-resized a.nodes.items width ∙ c.width-width.ensures.width;
      within = joined-within c.args.rule c.args.net.now c.join.new.net a c.args.b.now c.in_ok-digits.digits.values.items c.requires.first c.requires.second c.join.ensures.grows.begins (returns-clause-value c);
    }
