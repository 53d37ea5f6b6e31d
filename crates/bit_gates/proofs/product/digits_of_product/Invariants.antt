use Rattle.std.proofs.Common.{◌≡◌, ◌<◌, ◌+◌, ◌*◌, ◌-◌, ◌^◌, length}
use Rattle.std.specs.List.{All}
use Rattle.gate_net.specs.Net.{Always, IsNode, Grows}
use Rattle.bit_gates.proofs.Products.{IsPartial}
use Rattle.bit_gates.proofs.product.digits_of_product.Given as goal

abbrev pub invariant-loop : goal.invariant-loop
invariant-loop l = record {
  grows : Grows (5 * (length l.ys + 1) * l.counter) l.fn.net l.net;
  width : length l.higher.items ≡ length l.ys;
  digits : All (IsNode l.net) l.digits.items;
  higher : All (IsNode l.net) l.higher.items;
  small : l.rest < 2 ^ (32 - l.counter);
  value : Always l.net (λ value. IsPartial value l.digits.items l.higher.items l.rest l.factor l.ys);
}
