use Rattle.std.proofs.Common.{◌≡◌, length, map, take}
use Rattle.std.specs.Prelude.{◌&&◌}
use Rattle.std.specs.List.{All}
use Rattle.gate_net.specs.Net.{Always, IsNode, Grows}
use Rattle.bit_gates.proofs.total.masked.Given as goal

abbrev pub invariant-loop-digit : goal.invariant-loop-digit
invariant-loop-digit l = record {
  grows : Grows l.digit-index l.fn.net l.net;
  width : length l.nodes.items ≡ l.digit-index;
  nodes : All (IsNode l.net) l.nodes.items;
  value : Always l.net
      (λ value. map value l.nodes.items ≡ map (λ n. value l.node && value n) (take l.digit-index l.bits.nodes.items));
}
