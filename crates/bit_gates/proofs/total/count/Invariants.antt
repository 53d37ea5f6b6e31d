use Rattle.std.proofs.Common.{◌≡◌, ◌*◌, length, take}
use Rattle.std.specs.Prelude.{pos}
use Rattle.gate_net.specs.Net.{Always, Grows}
use Rattle.bit_gates.specs.Whole.{width_of}
use Rattle.bit_gates.specs.Bits.{IsBits, number}
use Rattle.bit_gates.specs.Totals.{counted}
use Rattle.bit_gates.proofs.total.count.Given as goal

abbrev pub invariant-loop-node : goal.invariant-loop-node
invariant-loop-node l = record {
  grows : Grows (5 * width_of (length l.of) * l.node-index) l.fn.net l.net;
  bits : IsBits l.net l.count;
  most : l.count.most ≡ l.node-index;
  value : Always l.net (λ value. number value l.count ≡ pos (counted value (take l.node-index l.of)));
}
