use Rattle.std.proofs.Common.{◌≡◌, ◌<◌, ◌*◌, ℕ, length}
use Rattle.std.specs.List.{All}
use Rattle.gate_net.specs.Net.{Always, Grows}
use Rattle.relation_gates.specs.Relations.{edge, IsRow}
use Rattle.relation_gates.specs.Sets.{combined}
use Rattle.relation_gates.proofs.sets.combine.Given as goal

abbrev pub invariant-loop-x : goal.invariant-loop-x
invariant-loop-x l = record {
  grows : Grows (2 * length l.first * l.x) l.fn.net l.net;
  height : length l.rows.items ≡ l.x;
  rows : All (IsRow l.net (length l.first)) l.rows.items;
  value : Always l.net (λ value. (x y : ℕ) → x < l.x → y < length l.first
      → edge value l.rows.items x y ≡ combined l.operation (edge value l.first x y) (edge value l.second x y));
}
