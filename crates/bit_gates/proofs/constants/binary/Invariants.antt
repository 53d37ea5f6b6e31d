use Rattle.std.proofs.Common.{◌≡◌, ◌<◌, ◌+◌, ◌*◌, ◌-◌, ◌^◌, length, map}
use Rattle.std.specs.List.{All}
use Rattle.gate_net.specs.Net.{Always, IsNode}
use Rattle.bit_gates.specs.Whole.{unsigned}
use Rattle.bit_gates.proofs.constants.binary.Given as goal

abbrev pub invariant-loop : goal.invariant-loop
invariant-loop l = record {
  width : length l.nodes.items ≡ l.counter;
  nodes : All (IsNode l.net) l.nodes.items;
  small : l.rest < 2 ^ (l.width - l.counter);
  value : Always l.net (λ value. unsigned (map value l.nodes.items) + l.rest * 2 ^ length l.nodes.items ≡ l.pattern);
}
