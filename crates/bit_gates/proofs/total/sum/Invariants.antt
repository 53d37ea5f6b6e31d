use Rattle.std.proofs.Common.{◌≡◌, ◌*◌, ◌+◌, length, take}
use Rattle.gate_net.specs.Net.{Always, Grows}
use Rattle.bit_gates.specs.Whole.{width_of}
use Rattle.bit_gates.specs.Bits.{IsBits, number}
use Rattle.bit_gates.specs.Totals.{total, bounds, widths}
use Rattle.bit_gates.proofs.total.sum.Given as goal

abbrev pub invariant-loop-node : goal.invariant-loop-node
invariant-loop-node l = record {
  grows : Grows (widths (take l.node-index l.of) + 5 * width_of (bounds l.of) * l.node-index) l.fn.net l.net;
  bits : IsBits l.net l.sum;
  most : l.sum.most ≡ bounds (take l.node-index l.of);
  value : Always l.net (λ value. number value l.sum ≡ total value (take l.node-index l.of));
}
