use Rattle.std.proofs.Common.{◌≡◌, ◌-◌, length, arith}
use Rattle.gate_net.specs.Net.{node_value}
use Rattle.gate_net.proofs.Growth.{continues-then, if-ok}
use Rattle.bit_gates.proofs.Comparisons.{equal-value}
use Rattle.bit_gates.proofs.compare.equal_nodes.Goals as goal

pub returns-clause-value : goal.returns-clause-value
returns-clause-value c = if-ok c.not.result (λ n is. λ later f inputs.
    let g = continues-then _ _ _ c.not.ensures.grows.begins f in
    equal-value (node_value later inputs) c.args.xs.now c.args.ys.now (length c.args.xs.now - 1) _ _ (omega arith) (omega arith) (c.in_ok-differ.ensures.value later g inputs) (is later f inputs)) c.not.ensures.value
