use Rattle.std.proofs.Common.{refl, rules, arith}
use Rattle.gate_net.proofs.Growth.{continues-same, continues-then}
use Rattle.relation_gates.proofs.Rows.{nodes-push, size-push}
use Rattle.solver_tests.proofs.relations.set.Goals as goal

pub loop-y-init : goal.loop-y-init
loop-y-init c = record {
  begins = continues-same c.args.net.now c.args.net.now refl;
  count = omega arith;
  given = c.requires.given;
  width = search rules;
  nodes = search rules;
}

pub loop-y-preserved : goal.loop-y-preserved
loop-y-preserved c =
    let pushed = c.in_ok-push.ensures.items in
    record {
      begins = continues-then _ _ _ c.loop-y.invariant.begins c.input.ensures.begins;
      count = omega (arith, c.in_ok-node.ensures.nodes, c.loop-y.invariant.count);
      given = c.in_ok-node.ensures.given;
      width = size-push c.loop-y.nodes.items c.push.new.self.items c.in_ok-node.node c.loop-y.y pushed c.loop-y.invariant.width;
      nodes = nodes-push c.loop-y.net c.input.new.net c.loop-y.nodes.items c.push.new.self.items c.in_ok-node.node pushed c.input.ensures.begins c.loop-y.invariant.nodes c.in_ok-node.ensures.node;
    }
