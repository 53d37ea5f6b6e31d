use Rattle.std.proofs.Common.{◌≡◌, ◌*◌, length}
use Rattle.std.specs.List.{All}
use Rattle.bit_gates.specs.Whole.{width_of}
use Rattle.bit_gates.specs.Totals.{IsPart, bounds, widths}
use Rattle.solver_tests.proofs.bits.repeated.Given as goal

abbrev pub invariant-loop : goal.invariant-loop
invariant-loop l = record {
  net : l.net ≡ l.fn.net;
  count : length l.parts.items ≡ l.counter;
  parts : All (IsPart l.net) l.parts.items;
  bounds : bounds l.parts.items ≡ 2147483647 * l.counter;
  widths : widths l.parts.items ≡ width_of 2147483647 * l.counter;
}
