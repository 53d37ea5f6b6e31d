use Rattle.std.proofs.Common.{◌≡◌, ◌*◌, ◌&&◌}
use Rattle.gate_net.specs.Net.{Always, Grows, IsNode}
use Rattle.relation_gates.specs.Relations.{member, edge}
use Rattle.relation_gates.specs.Sets.{some_below}
use Rattle.relation_gates.proofs.product.image_node.Given as goal

abbrev pub invariant-loop-x : goal.invariant-loop-x
invariant-loop-x l = record {
  grows : Grows (2 * l.x) l.fn.net l.net;
  node : IsNode l.net l.found;
  value : Always l.net (λ value. value l.found ≡ some_below l.x (λ x. member value l.set x && edge value l.rows x l.y));
}
