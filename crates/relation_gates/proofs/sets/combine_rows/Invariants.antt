use Rattle.std.proofs.Common.{◌≡◌, ◌<◌, ◌*◌, ℕ, length}
use Rattle.std.specs.List.{All}
use Rattle.gate_net.specs.Net.{Always, Grows, IsNode}
use Rattle.relation_gates.specs.Relations.{member}
use Rattle.relation_gates.specs.Sets.{combined}
use Rattle.relation_gates.proofs.sets.combine_rows.Given as goal

abbrev pub invariant-loop-y : goal.invariant-loop-y
invariant-loop-y l = record {
  grows : Grows (2 * l.y) l.fn.net l.net;
  width : length l.nodes.items ≡ l.y;
  nodes : All (IsNode l.net) l.nodes.items;
  value : Always l.net (λ value. (y : ℕ) → y < l.y
      → member value l.nodes.items y ≡ combined l.operation (member value l.first y) (member value l.second y));
}
