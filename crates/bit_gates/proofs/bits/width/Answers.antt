use Rattle.std.proofs.Common.{◌≡◌, ◌<◌, ◌^◌, arith, rules}
use Rattle.bit_gates.proofs.Widths.{least-width}
use Rattle.bit_gates.proofs.bits.width.Goals as goal

pub returns-clause-least : goal.returns-clause-least
returns-clause-least c = least-width c.args.most _ (omega (arith, c.ranges.most)) (search rules)
