use Rattle.std.proofs.Common.{◌≡◌, ◌*◌, ◌+◌, ◌^◌, length, map, take}
use Rattle.std.specs.List.{All}
use Rattle.gate_net.specs.Net.{Always, IsNode, Grows}
use Rattle.bit_gates.specs.Whole.{bit, unsigned}
use Rattle.bit_gates.proofs.negation.negated.Given as goal

abbrev pub invariant-loop-i : goal.invariant-loop-i
invariant-loop-i l = record {
  grows : Grows (2 * l.i) l.fn.net l.net;
  width : length l.values.items ≡ l.i;
  nodes : All (IsNode l.net) l.values.items;
  borrow : IsNode l.net l.borrow;
  value : Always l.net (λ value. unsigned (map value l.values.items) + unsigned (map value (take l.i l.ys))
      ≡ bit (value l.borrow) * 2 ^ l.i);
}
