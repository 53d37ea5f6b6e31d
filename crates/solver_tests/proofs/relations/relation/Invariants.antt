use Rattle.std.proofs.Common.{◌≡◌, ◌≤◌, ◌+◌, ◌*◌, length}
use Rattle.std.specs.List.{All}
use Rattle.gate_net.specs.Net.{Continues, nodes_of, inputs_of}
use Rattle.relation_gates.specs.Relations.{IsRow}
use Rattle.solver_tests.proofs.relations.relation.Given as goal

abbrev pub invariant-loop-x : goal.invariant-loop-x
invariant-loop-x l = record {
  begins : Continues l.fn.net l.net;
  count : nodes_of l.net ≤ nodes_of l.fn.net + 12 * l.x;
  given : length l.inputs.items ≡ inputs_of l.net;
  height : length l.made.items ≡ l.x;
  rows : All (IsRow l.net l.objects) l.made.items;
}
