use Rattle.std.proofs.Common.{◌≡◌, ◌<◌, ◌≤◌, ◌+◌, ◌*◌, ◌^◌, ◌∙◌, length, take, ap, arith, refl}
use Rattle.std.specs.Prelude.{pos, if◌then◌else◌}
use Rattle.gate_net.specs.Net.{node_value}
use Rattle.gate_net.proofs.Growth.{grows_chain, continues-then, turn_more}
use Rattle.bit_gates.specs.Whole.{width_of}
use Rattle.bit_gates.specs.Bits.{number}
use Rattle.bit_gates.specs.Totals.{bounds, widths}
use Rattle.bit_gates.proofs.Sums.{bits-on, part-on, total-next, turn-of}
use Rattle.bit_gates.proofs.total.sum.Goals as goal

pub masked-requires-clause-bits : goal.masked-requires-clause-bits
masked-requires-clause-bits c =
    (part-on c.args.net.now c.loop-node.net c.args.of.now c.loop-node.node-index c.loop-node-item.result c.loop-node.invariant.grows.begins c.requires.parts (omega arith) c.loop-node-item.is).1

pub masked-requires-clause-node : goal.masked-requires-clause-node
masked-requires-clause-node c =
    (part-on c.args.net.now c.loop-node.net c.args.of.now c.loop-node.node-index c.loop-node-item.result c.loop-node.invariant.grows.begins c.requires.parts (omega arith) c.loop-node-item.is).0

pub masked-requires-clause-room : goal.masked-requires-clause-room
masked-requires-clause-room c =
    let i = c.loop-node.node-index in
    let part = c.loop-node-item.result in
    let t = turn-of c.args.of.now i part (bounds (take i c.args.of.now)) part.1.most (omega arith) c.loop-node-item.is refl refl c.requires.small in
    omega (arith, t.digits, t.few, t.nodes, c.loop-node.invariant.grows.few, c.requires.room)

pub add-requires-clause-first : goal.add-requires-clause-first
add-requires-clause-first c = bits-on c.loop-node.net c.masked.new.net c.loop-node.sum c.masked.ensures.grows.begins c.loop-node.invariant.bits

pub add-requires-clause-small : goal.add-requires-clause-small
add-requires-clause-small c =
    let t = turn-of c.args.of.now c.loop-node.node-index c.loop-node-item.result c.loop-node.sum.most c.in_ok-part.part.most (omega arith) c.loop-node-item.is c.loop-node.invariant.most c.in_ok-part.ensures.most c.requires.small in
    omega (arith, t.small, c.requires.small)

pub add-requires-clause-room : goal.add-requires-clause-room
add-requires-clause-room c =
    let t = turn-of c.args.of.now c.loop-node.node-index c.loop-node-item.result c.loop-node.sum.most c.in_ok-part.part.most (omega arith) c.loop-node-item.is c.loop-node.invariant.most c.in_ok-part.ensures.most c.requires.small in
    omega (arith, t.digits, t.few, t.wide, t.nodes, c.loop-node.invariant.grows.few, c.masked.ensures.grows.few, c.requires.room)

pub loop-node-preserved : goal.loop-node-preserved
loop-node-preserved c =
    let i = c.loop-node.node-index in
    let of = c.args.of.now in
    let part = c.loop-node-item.result in
    let w = width_of (bounds of) in
    let most = c.loop-node.sum.most + c.in_ok-part.part.most in
    let t = turn-of of i part c.loop-node.sum.most c.in_ok-part.part.most (omega arith) c.loop-node-item.is c.loop-node.invariant.most c.in_ok-part.ensures.most c.requires.small in
    let masks = grows_chain (widths (take i of) + 5 * w * i) (length part.1.nodes.items) (widths (take i of) + 5 * w * i + length part.1.nodes.items) _ _ _ c.loop-node.invariant.grows c.masked.ensures.grows (omega arith) in
    record {
      grows = grows_chain (widths (take i of) + 5 * w * i + length part.1.nodes.items) (5 * width_of most) (widths (take (i + 1) of) + 5 * w * (i + 1)) _ _ _ masks c.add.ensures.grows (omega (arith, t.wide, t.digits, turn_more (5 * w) i));
      bits = c.in_ok-sum-2.ensures.bits;
      most = c.in_ok-sum-2.ensures.most ∙ t.most;
      value = λ later f inputs.
          let value = node_value later inputs in
          let g = continues-then _ _ _ c.add.ensures.grows.begins f in
          let k = continues-then _ _ _ c.masked.ensures.grows.begins g in
          total-next value of i part _ _ _ (omega arith) (c.loop-node.invariant.value later k inputs)
          (c.in_ok-part.ensures.value later g inputs ∙ ap (λ p. if value p.0 then number value p.1 else pos 0) c.loop-node-item.is)
          (c.in_ok-sum-2.ensures.value later f inputs);
    }

pub returns-in_err-part-clause-grows : goal.returns-in_err-part-clause-grows
returns-in_err-part-clause-grows c =
    let i = c.loop-node.node-index in
    let of = c.args.of.now in
    let w = width_of (bounds of) in
    let part = c.loop-node-item.result in
    let t = turn-of of i part (bounds (take i of)) part.1.most (omega arith) c.loop-node-item.is refl refl c.requires.small in
    grows_chain (widths (take i of) + 5 * w * i) (length part.1.nodes.items) (widths of + 5 * w * length of) _ _ _ c.loop-node.invariant.grows c.masked.ensures.grows (omega (arith, t.digits, t.few, t.nodes))

pub returns-in_err-sum-2-clause-grows : goal.returns-in_err-sum-2-clause-grows
returns-in_err-sum-2-clause-grows c =
    let i = c.loop-node.node-index in
    let of = c.args.of.now in
    let part = c.loop-node-item.result in
    let w = width_of (bounds of) in
    let most = c.loop-node.sum.most + c.in_ok-part.part.most in
    let t = turn-of of i part c.loop-node.sum.most c.in_ok-part.part.most (omega arith) c.loop-node-item.is c.loop-node.invariant.most c.in_ok-part.ensures.most c.requires.small in
    let masks = grows_chain (widths (take i of) + 5 * w * i) (length part.1.nodes.items) (widths (take i of) + 5 * w * i + length part.1.nodes.items) _ _ _ c.loop-node.invariant.grows c.masked.ensures.grows (omega arith) in
    grows_chain (widths (take i of) + 5 * w * i + length part.1.nodes.items) (5 * width_of most) (widths of + 5 * w * length of) _ _ _ masks c.add.ensures.grows (omega (arith, t.wide, t.digits, t.few, t.nodes))
