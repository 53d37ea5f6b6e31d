use Rattle.std.proofs.Common.{◌≡◌, ◌<◌, ◌*◌, ◌||◌, ◌&&◌, ℕ, length}
use Rattle.std.specs.List.{All}
use Rattle.gate_net.specs.Net.{Always, Grows}
use Rattle.relation_gates.specs.Relations.{edge, IsRow}
use Rattle.relation_gates.proofs.paths.by_way_of.Given as goal

abbrev pub invariant-loop-x : goal.invariant-loop-x
invariant-loop-x l = record {
  grows : Grows (2 * length l.from * l.x) l.fn.net l.net;
  height : length l.rows.items ≡ l.x;
  rows : All (IsRow l.net (length l.from)) l.rows.items;
  value : Always l.net (λ value. (x z : ℕ) → x < l.x → z < length l.from
      → edge value l.rows.items x z ≡ (edge value l.from x z || (edge value l.from x l.k && edge value l.from l.k z)));
}
