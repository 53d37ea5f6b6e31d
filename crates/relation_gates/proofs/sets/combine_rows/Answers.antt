use Rattle.std.proofs.Common.{◌+◌, ◌*◌, arith}
use Rattle.gate_net.specs.Net.{node_value}
use Rattle.gate_net.proofs.Growth.{grows_chain, continues-then}
use Rattle.relation_gates.specs.Relations.{member}
use Rattle.relation_gates.specs.Sets.{combined}
use Rattle.relation_gates.proofs.Rows.{nodes-push, size-push, member-next}
use Rattle.relation_gates.proofs.sets.combine_rows.Goals as goal

pub loop-y-preserved : goal.loop-y-preserved
loop-y-preserved c =
    let i = c.loop-y.y in
    let done = c.loop-y.nodes.items in
    let node = c.in_ok-combine_nodes.field-0 in
    let pushed = c.in_ok-push.ensures.items in
    record {
      grows = grows_chain (2 * i) 2 (2 * (i + 1)) _ _ _ c.loop-y.invariant.grows c.combine_nodes.ensures.grows (omega arith);
      width = size-push done c.push.new.self.items node i pushed c.loop-y.invariant.width;
      nodes = nodes-push c.loop-y.net c.combine_nodes.new.net done c.push.new.self.items node pushed c.combine_nodes.ensures.grows.begins c.loop-y.invariant.nodes c.in_ok-combine_nodes.ensures.node;
      value = λ later f inputs.
          let value = node_value later inputs in
          member-next value done c.push.new.self.items node i (λ y. combined c.args.operation (member value c.nodes-first.result.now y) (member value c.nodes-second.result.now y)) pushed c.loop-y.invariant.width
          (c.loop-y.invariant.value later (continues-then _ _ _ c.combine_nodes.ensures.grows.begins f) inputs) (c.in_ok-combine_nodes.ensures.value later f inputs);
    }
