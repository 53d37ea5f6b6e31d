use Rattle.std.proofs.Common.{◌≡◌, ◌+◌, length, refl, rules, arith}
use Rattle.gate_net.proofs.Growth.{continues-same, continues-then}
use Rattle.relation_gates.proofs.Rows.{nodes-push, size-push}
use Rattle.measure_gates.proofs.circuits.set.Goals as goal

pub loop-init : goal.loop-init
loop-init c = record {
  begins = continues-same c.args.net.now c.args.net.now refl;
  count = omega arith;
  width = search rules;
  nodes = search rules;
}

pub loop-preserved : goal.loop-preserved
loop-preserved c =
    let pushed = c.in_ok-push.ensures.items in
    record {
      begins = continues-then _ _ _ c.loop.invariant.begins c.input.ensures.begins;
      count = omega (arith, c.in_ok-node.ensures.nodes, c.loop.invariant.count);
      width = size-push c.loop.nodes.items c.push.new.self.items c.in_ok-node.node c.loop.counter pushed c.loop.invariant.width;
      nodes = nodes-push c.loop.net c.input.new.self c.loop.nodes.items c.push.new.self.items c.in_ok-node.node pushed c.input.ensures.begins c.loop.invariant.nodes c.in_ok-node.ensures.node;
    }
