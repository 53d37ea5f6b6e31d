use Rattle.std.proofs.Common.{◌≡◌, ◌<◌, ◌*◌, ◌||◌, ◌&&◌, ℕ, length}
use Rattle.std.specs.List.{All}
use Rattle.gate_net.specs.Net.{Always, Grows, IsNode}
use Rattle.relation_gates.specs.Relations.{member}
use Rattle.relation_gates.proofs.paths.row_by_way_of.Given as goal

abbrev pub invariant-loop-z : goal.invariant-loop-z
invariant-loop-z l = record {
  grows : Grows (2 * l.z) l.fn.net l.net;
  width : length l.nodes.items ≡ l.z;
  nodes : All (IsNode l.net) l.nodes.items;
  value : Always l.net (λ value. (z : ℕ) → z < l.z
      → member value l.nodes.items z ≡ (member value l.old z || (member value l.old l.k && member value l.on z)));
}
