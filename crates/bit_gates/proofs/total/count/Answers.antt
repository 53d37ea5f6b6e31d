use Rattle.std.proofs.Common.{◌≡◌, ◌<◌, ◌≤◌, ◌+◌, ◌*◌, ◌^◌, ◌∙◌, length, take, ap, sym, arith}
use Rattle.gate_net.specs.Net.{node_value}
use Rattle.gate_net.proofs.Growth.{grows_chain, continues-then, turn, turn_more}
use Rattle.bit_gates.specs.Whole.{width_of}
use Rattle.bit_gates.proofs.Widths.{width-le}
use Rattle.bit_gates.proofs.Sums.{counted-next}
use Rattle.bit_gates.proofs.total.count.Goals as goal

pub add-requires-clause-room : goal.add-requires-clause-room
add-requires-clause-room c =
    let i = c.loop-node.node-index in
    let n = length c.args.of.now in
    let most = c.loop-node.count.most + c.in_ok-one.one.most in
    let wide = width-le most n (omega (arith, c.loop-node.invariant.most, c.in_ok-one.ensures.most)) (omega arith) in
    omega (arith, wide, turn (5 * width_of n) i n (omega arith), c.loop-node.invariant.grows.few, c.requires.room)

pub loop-node-preserved : goal.loop-node-preserved
loop-node-preserved c =
    let i = c.loop-node.node-index in
    let n = length c.args.of.now in
    let most = c.loop-node.count.most + c.in_ok-one.one.most in
    let wide = width-le most n (omega (arith, c.loop-node.invariant.most, c.in_ok-one.ensures.most)) (omega arith) in
    record {
      grows = grows_chain (5 * width_of n * i) (5 * width_of most) (5 * width_of n * (i + 1)) _ _ _ c.loop-node.invariant.grows c.add.ensures.grows (omega (arith, wide, turn_more (5 * width_of n) i));
      bits = c.in_ok-count-2.ensures.bits;
      most = omega (arith, c.in_ok-count-2.ensures.most, c.loop-node.invariant.most, c.in_ok-one.ensures.most);
      value = λ later f inputs.
          let g = continues-then _ _ _ c.add.ensures.grows.begins f in
          counted-next (node_value later inputs) c.args.of.now i _ _ _ _ (omega arith) (c.loop-node.invariant.value later g inputs) (c.in_ok-one.ensures.value later g inputs) (c.in_ok-count-2.ensures.value later f inputs);
    }

pub returns-in_err-count-2-clause-grows : goal.returns-in_err-count-2-clause-grows
returns-in_err-count-2-clause-grows c =
    let i = c.loop-node.node-index in
    let n = length c.args.of.now in
    let most = c.loop-node.count.most + c.in_ok-one.one.most in
    let wide = width-le most n (omega (arith, c.loop-node.invariant.most, c.in_ok-one.ensures.most)) (omega arith) in
    grows_chain (5 * width_of n * i) (5 * width_of most) (5 * width_of n * n) _ _ _ c.loop-node.invariant.grows c.add.ensures.grows (omega (arith, wide, turn (5 * width_of n) i n (omega arith)))
