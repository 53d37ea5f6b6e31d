use Rattle.std.proofs.Common.{◌≡◌, ◌<◌, ◌*◌, ◌&&◌, ℕ, length}
use Rattle.std.specs.List.{All}
use Rattle.gate_net.specs.Net.{Always, Grows, IsNode}
use Rattle.relation_gates.specs.Relations.{member, edge}
use Rattle.relation_gates.specs.Sets.{some_below}
use Rattle.relation_gates.proofs.product.image_row.Given as goal

abbrev pub invariant-loop-y : goal.invariant-loop-y
invariant-loop-y l = record {
  grows : Grows (2 * length l.rows * l.y) l.fn.net l.net;
  width : length l.nodes.items ≡ l.y;
  nodes : All (IsNode l.net) l.nodes.items;
  value : Always l.net (λ value. (y : ℕ) → y < l.y
      → member value l.nodes.items y ≡ some_below (length l.rows) (λ x. member value l.set x && edge value l.rows x y));
}
