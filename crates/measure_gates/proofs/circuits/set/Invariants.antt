use Rattle.std.proofs.Common.{◌≡◌, ◌+◌, length}
use Rattle.std.specs.List.{All}
use Rattle.gate_net.specs.Net.{Continues, IsNode, nodes_of}
use Rattle.measure_gates.proofs.circuits.set.Given as goal

abbrev pub invariant-loop : goal.invariant-loop
invariant-loop l = record {
  begins : Continues l.fn.net l.net;
  count : nodes_of l.net ≡ nodes_of l.fn.net + l.counter;
  width : length l.nodes.items ≡ l.counter;
  nodes : All (IsNode l.net) l.nodes.items;
}
