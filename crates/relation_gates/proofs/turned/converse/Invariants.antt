use Rattle.std.proofs.Common.{◌≡◌, ◌<◌, ℕ, length}
use Rattle.std.specs.List.{All}
use Rattle.gate_net.specs.Net.{Always}
use Rattle.relation_gates.specs.Relations.{edge, IsRow}
use Rattle.relation_gates.proofs.turned.converse.Given as goal

abbrev pub invariant-loop-x : goal.invariant-loop-x
invariant-loop-x l = record {
  height : length l.rows.items ≡ l.x;
  rows : All (IsRow l.net (length l.columns)) l.rows.items;
  value : Always l.net
      (λ value. (x y : ℕ) → x < l.x → y < length l.columns → edge value l.rows.items x y ≡ edge value l.columns y x);
}
