use Rattle.std.proofs.Common.{◌≡◌, ◌*◌, ◌^◌, length, map, take}
use Rattle.std.specs.List.{All}
use Rattle.gate_net.specs.Net.{Always, IsNode, Grows}
use Rattle.bit_gates.specs.Whole.{bit, unsigned}
use Rattle.bit_gates.specs.Digits.{IsJoin}
use Rattle.bit_gates.proofs.digits.join.Given as goal

abbrev pub invariant-loop-i : goal.invariant-loop-i
invariant-loop-i l = record {
  grows : Grows (5 * l.i) l.fn.net l.net;
  width : length l.values.items ≡ l.i;
  nodes : All (IsNode l.net) l.values.items;
  carry : IsNode l.net l.carry;
  value : Always l.net (λ value. IsJoin l.rule (unsigned (map value (take l.i l.xs)))
      (unsigned (map value (take l.i l.ys))) (unsigned (map value l.values.items)) (bit (value l.carry) * 2 ^ l.i));
}
