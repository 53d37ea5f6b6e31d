use Rattle.std.proofs.Common.{◌≡◌, ◌∙◌, length, arith, sym, rules}
use Rattle.std.specs.Fmt.{signed_decimal}
use Rattle.primitive_operators.proofs.TextUnits.{decimal_units}
use Rattle.primitive_operators.proofs.scalar_ref.decimal_units.Goals as goal

pub returns : goal.returns
returns c =
    let is : length c.decimal.result.now ≡ length (signed_decimal c.args.n) = search rules in
    is ∙ sym (decimal_units c.args.n (omega (arith, c.ranges.n.sfits)))
