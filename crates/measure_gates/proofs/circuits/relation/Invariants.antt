use Rattle.std.proofs.Common.{◌≡◌, ◌≤◌, ◌+◌, ◌*◌, length}
use Rattle.std.specs.List.{All}
use Rattle.gate_net.specs.Net.{Continues, nodes_of}
use Rattle.relation_gates.specs.Relations.{IsRow}
use Rattle.measure_gates.proofs.circuits.relation.Given as goal

abbrev pub invariant-loop : goal.invariant-loop
invariant-loop l = record {
  begins : Continues l.fn.net l.net;
  count : nodes_of l.net ≤ nodes_of l.fn.net + 100 * l.counter;
  height : length l.rows.items ≡ l.counter;
  rows : All (IsRow l.net l.objects) l.rows.items;
}
