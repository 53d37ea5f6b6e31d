use Rattle.std.proofs.Common.{◌≡◌, ◌<◌, ℕ, length}
use Rattle.std.specs.List.{All}
use Rattle.gate_net.specs.Net.{Always, IsNode}
use Rattle.relation_gates.specs.Relations.{member, edge}
use Rattle.relation_gates.proofs.turned.column.Given as goal

abbrev pub invariant-loop-y : goal.invariant-loop-y
invariant-loop-y l = record {
  width : length l.nodes.items ≡ l.y;
  nodes : All (IsNode l.net) l.nodes.items;
  value : Always l.net (λ value. (y : ℕ) → y < l.y → member value l.nodes.items y ≡ edge value l.rows y l.x);
}
