use Rattle.std.proofs.Common.{◌≡◌, ◌<◌, ◌+◌, ◌*◌, ◌-◌, length, arith}
use Rattle.gate_net.specs.Net.{node_value}
use Rattle.gate_net.proofs.Growth.{grows_chain, continues-then}
use Rattle.bit_gates.proofs.Steps.{differ-next}
use Rattle.bit_gates.proofs.compare.differ.Goals as goal

pub loop-i-preserved : goal.loop-i-preserved
loop-i-preserved c =
    let i = c.loop-i.i in
    let h : i < length c.args.xs.now = omega arith in
    let k : i < length c.args.ys.now = omega arith in
    record {
      grows = grows_chain (2 * i - 1) 2 (2 * (i + 1) - 1) _ _ _ c.loop-i.invariant.grows (grows_chain 1 1 2 _ _ _ c.xor-in-loop-i.ensures.grows c.or.ensures.grows (omega arith)) (omega arith);
      node = c.in_ok-differ-2.ensures.node;
      value = λ later f inputs.
          let g = continues-then _ _ _ c.or.ensures.grows.begins f in
          let before = continues-then _ _ _ c.xor-in-loop-i.ensures.grows.begins g in
          differ-next (node_value later inputs) c.args.xs.now c.args.ys.now i _ _ _ _ h k (c.loop-i.invariant.value later before inputs) (c.in_ok-here.ensures.value later g inputs) (c.in_ok-differ-2.ensures.value later f inputs);
    }
