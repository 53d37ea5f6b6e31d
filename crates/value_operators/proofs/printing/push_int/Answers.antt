use Rattle.std.proofs.Common.{◌≡◌, ◌∙◌, ◌++◌, ap, arith, sym, string_bytes, rules}
use Rattle.std.specs.Fmt.{signed_decimal}
use Rattle.value_operators.proofs.Ascii.{decimal_bytes}
use Rattle.value_operators.proofs.printing.push_int.Goals as goal

pub returns : goal.returns
returns c =
    let is : string_bytes c.push_str.new.self ≡ string_bytes c.args.text.now ++ signed_decimal c.args.n = search rules in
    is ∙ ap (λ bytes. string_bytes c.args.text.now ++ bytes) (sym (decimal_bytes c.args.n (omega (arith, c.ranges.n.sfits))))
