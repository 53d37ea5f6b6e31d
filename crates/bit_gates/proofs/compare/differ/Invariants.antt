use Rattle.std.proofs.Common.{◌*◌, ◌-◌, length, map, take}
use Rattle.gate_net.specs.Net.{Always, IsNode, Grows}
use Rattle.bit_gates.specs.Whole.{unsigned}
use Rattle.bit_gates.specs.Digits.{Differs}
use Rattle.bit_gates.proofs.compare.differ.Given as goal

abbrev pub invariant-loop-i : goal.invariant-loop-i
invariant-loop-i l = record {
  grows : Grows (2 * l.i - 1) l.fn.net l.net;
  node : IsNode l.net l.differ;
  value : Always l.net
      (λ value. Differs (value l.differ) (unsigned (map value (take l.i l.xs))) (unsigned (map value (take l.i l.ys))));
}
