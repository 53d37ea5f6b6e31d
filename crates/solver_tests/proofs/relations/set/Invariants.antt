use Rattle.std.proofs.Common.{◌≡◌, ◌+◌, length}
use Rattle.std.specs.List.{All}
use Rattle.gate_net.specs.Net.{Continues, IsNode, nodes_of, inputs_of}
use Rattle.solver_tests.proofs.relations.set.Given as goal

abbrev pub invariant-loop-y : goal.invariant-loop-y
invariant-loop-y l = record {
  begins : Continues l.fn.net l.net;
  count : nodes_of l.net ≡ nodes_of l.fn.net + l.y;
  given : length l.inputs.items ≡ inputs_of l.net;
  width : length l.nodes.items ≡ l.y;
  nodes : All (IsNode l.net) l.nodes.items;
}
