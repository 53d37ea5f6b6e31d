use Rattle.std.proofs.Common.{◌≡◌, ◌<◌, ◌*◌, ◌&&◌, ℕ, length}
use Rattle.std.specs.List.{All}
use Rattle.gate_net.specs.Net.{Always, Grows}
use Rattle.relation_gates.specs.Relations.{edge, IsRow}
use Rattle.relation_gates.specs.Sets.{some_below}
use Rattle.relation_gates.proofs.product.join_rows.Given as goal

abbrev pub invariant-loop-x : goal.invariant-loop-x
invariant-loop-x l = record {
  grows : Grows (2 * length l.s * length l.s * l.x) l.fn.net l.net;
  height : length l.rows.items ≡ l.x;
  rows : All (IsRow l.net (length l.s)) l.rows.items;
  value : Always l.net (λ value. (x z : ℕ) → x < l.x → z < length l.s
      → edge value l.rows.items x z ≡ some_below (length l.s) (λ y. edge value l.first x y && edge value l.s y z));
}
