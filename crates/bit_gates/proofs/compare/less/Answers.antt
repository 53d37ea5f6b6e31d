use Rattle.std.proofs.Common.{◌<◌, ◌≤◌, ◌^◌, max, arith, ap}
use Rattle.bit_gates.specs.Whole.{width_of}
use Rattle.bit_gates.proofs.Widths.{width-le}
use Rattle.bit_gates.proofs.compare.less.Goals as goal

pub at_width-requires-clause-wide : goal.at_width-requires-clause-wide
at_width-requires-clause-wide c =
    omega (arith, width-le c.args.a.now.most (max c.args.a.now.most c.args.b.now.most) (omega arith) (omega arith), c.width-width.ensures.width, ap width_of c.max.ensures)

pub at_width-requires-2-clause-wide : goal.at_width-requires-2-clause-wide
at_width-requires-2-clause-wide c =
    omega (arith, width-le c.args.b.now.most (max c.args.a.now.most c.args.b.now.most) (omega arith) (omega arith), c.width-width.ensures.width, ap width_of c.max.ensures)
