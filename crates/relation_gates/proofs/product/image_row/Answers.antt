use Rattle.std.proofs.Common.{◌+◌, ◌*◌, ◌&&◌, length, arith}
use Rattle.gate_net.specs.Net.{node_value}
use Rattle.gate_net.proofs.Growth.{grows_chain, continues-then}
use Rattle.relation_gates.specs.Relations.{member, edge}
use Rattle.relation_gates.specs.Sets.{some_below}
use Rattle.relation_gates.proofs.Rows.{nodes-push, size-push, member-next, turn_more}
use Rattle.relation_gates.proofs.product.image_row.Goals as goal

pub loop-y-preserved : goal.loop-y-preserved
loop-y-preserved c =
    let i = c.loop-y.y in
    let set = c.nodes-set.result.now in
    let rows = c.rows-rows.result.now in
    let u = length rows in
    let done = c.loop-y.nodes.items in
    let node = c.in_ok-image_node.field-0 in
    let pushed = c.in_ok-push.ensures.items in
    record {
      grows = grows_chain (2 * u * i) (2 * u) (2 * u * (i + 1)) _ _ _ c.loop-y.invariant.grows c.image_node.ensures.grows (omega (arith, turn_more (2 * u) i));
      width = size-push done c.push.new.self.items node i pushed c.loop-y.invariant.width;
      nodes = nodes-push c.loop-y.net c.image_node.new.net done c.push.new.self.items node pushed c.image_node.ensures.grows.begins c.loop-y.invariant.nodes c.in_ok-image_node.ensures.node;
      value = λ later f inputs.
          let value = node_value later inputs in
          member-next value done c.push.new.self.items node i (λ y. some_below u (λ x. member value set x && edge value rows x y)) pushed c.loop-y.invariant.width
          (c.loop-y.invariant.value later (continues-then _ _ _ c.image_node.ensures.grows.begins f) inputs) (c.in_ok-image_node.ensures.value later f inputs);
    }
