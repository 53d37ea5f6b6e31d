use Rattle.std.proofs.Common.{◌≡◌, ◌-◌, length, take, arith, refl, ◌*◌}
use Rattle.std.proofs.lemmas.List.{length-take-le}
use Rattle.gate_net.specs.Net.{node_value}
use Rattle.gate_net.proofs.Growth.{grows_chain, continues-then, if-ok}
use Rattle.bit_gates.proofs.Comparisons.{less-value}
use Rattle.bit_gates.proofs.compare.less_nodes.Goals as goal

pub returns-clause-grows : goal.returns-clause-grows
returns-clause-grows c =
    let xs = c.args.xs.now in
    let n = length xs - 1 in
    let low : length (take n xs) ≡ n = length-take-le n xs (omega arith) in
    grows_chain (5 * length (take n xs)) 4 (5 * length xs) _ _ _ c.join.ensures.grows (grows_chain 1 3 4 _ _ _ c.xor.ensures.grows c.choose.ensures.grows (omega arith)) (omega arith)

pub returns-clause-value : goal.returns-clause-value
returns-clause-value c = if-ok c.choose.result (λ n is. λ later f inputs.
    let g = continues-then _ _ _ c.choose.ensures.grows.begins f in
    let h = continues-then _ _ _ c.xor.ensures.grows.begins g in
    let n = length c.args.xs.now - 1 in
    less-value (node_value later inputs) c.args.xs.now c.args.ys.now _ _ _ n _ _ _ (omega arith) (omega arith) refl refl c.in_ok-lower.ensures.width (c.in_ok-lower.ensures.value later h inputs) (c.in_ok-differ.ensures.value later g inputs) (is later f inputs)) c.choose.ensures.value
