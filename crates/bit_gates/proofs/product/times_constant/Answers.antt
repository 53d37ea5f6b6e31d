use Rattle.std.proofs.Common.{◌≡◌, sym}
use Rattle.std.specs.Int.{w64}
use Rattle.std.specs.Prelude.{unsigned_abs}
use Rattle.std.proofs.lemmas.Int.{to_z-of_z}
use Rattle.gate_net.specs.Net.{node_value}
use Rattle.gate_net.proofs.Growth.{continues-then, if-ok}
use Rattle.bit_gates.specs.Bits.{number}
use Rattle.bit_gates.proofs.Products.{times-below}
use Rattle.bit_gates.proofs.product.times_constant.Goals as goal

pub returns-then-k-lt0-clause-value : goal.returns-then-k-lt0-clause-value
returns-then-k-lt0-clause-value c =
    let z = to_z-of_z w64 c.args.k c.ranges.k in
    let k = c.args.k in
    let factor = c.unsigned_abs.result in
    let abs : factor ≡ unsigned_abs k = simp z at c.unsigned_abs.ensures.value in
    let product = c.in_ok-product.product in
    if-ok c.neg.result (λ negation h. λ later f inputs.
    let value = node_value later inputs in
    let on = continues-then _ _ _ c.neg.ensures.grows.begins f in
    times-below k (number value c.args.a.now) factor (number value negation) (number value product) (simp z at c.if-k-lt0.true) abs (c.in_ok-product.ensures.value later on inputs) (h later f inputs))
    c.neg.ensures.value
