use Rattle.std.proofs.Common.{arith}
use Rattle.gate_net.proofs.Growth.{grows_chain, continues-then}
use Rattle.bit_gates.proofs.Steps.{sum-step, difference-step}
use Rattle.bit_gates.proofs.digits.join_digit.Goals as goal

pub returns-in_err-carry-in-Sum-clause-grows : goal.returns-in_err-carry-in-Sum-clause-grows
returns-in_err-carry-in-Sum-clause-grows c =
    grows_chain 2 3 5 _ _ _ (grows_chain 1 1 2 _ _ _ c.xor.ensures.grows c.xor-2.ensures.grows (omega arith)) c.choose.ensures.grows (omega arith)

pub returns-in_ok-carry-in-Sum-clause-grows : goal.returns-in_ok-carry-in-Sum-clause-grows
returns-in_ok-carry-in-Sum-clause-grows c =
    grows_chain 2 3 5 _ _ _ (grows_chain 1 1 2 _ _ _ c.xor.ensures.grows c.xor-2.ensures.grows (omega arith)) c.choose.ensures.grows (omega arith)

pub returns-in_ok-carry-in-Sum-clause-value : goal.returns-in_ok-carry-in-Sum-clause-value
returns-in_ok-carry-in-Sum-clause-value c = λ later f inputs.
    let g = continues-then _ _ _ c.choose.ensures.grows.begins f in
    let h = continues-then _ _ _ c.xor-2.ensures.grows.begins g in
    sum-step c.args.rule _ _ _ _ _ _ c.in-Sum.is (c.in_ok-differ.ensures.value later h inputs) (c.in_ok-value.ensures.value later g inputs) (c.in_ok-carry-in-Sum.ensures.value later f inputs)

pub returns-in_err-carry-in-Difference-clause-grows : goal.returns-in_err-carry-in-Difference-clause-grows
returns-in_err-carry-in-Difference-clause-grows c =
    grows_chain 2 3 5 _ _ _ (grows_chain 1 1 2 _ _ _ c.xor.ensures.grows c.xor-2.ensures.grows (omega arith)) c.choose-in-Difference.ensures.grows (omega arith)

pub returns-in_ok-carry-in-Difference-clause-grows : goal.returns-in_ok-carry-in-Difference-clause-grows
returns-in_ok-carry-in-Difference-clause-grows c =
    grows_chain 2 3 5 _ _ _ (grows_chain 1 1 2 _ _ _ c.xor.ensures.grows c.xor-2.ensures.grows (omega arith)) c.choose-in-Difference.ensures.grows (omega arith)

pub returns-in_ok-carry-in-Difference-clause-value : goal.returns-in_ok-carry-in-Difference-clause-value
returns-in_ok-carry-in-Difference-clause-value c = λ later f inputs.
    let g = continues-then _ _ _ c.choose-in-Difference.ensures.grows.begins f in
    let h = continues-then _ _ _ c.xor-2.ensures.grows.begins g in
    difference-step c.args.rule _ _ _ _ _ _ c.in-Difference.is (c.in_ok-differ.ensures.value later h inputs) (c.in_ok-value.ensures.value later g inputs) (c.in_ok-carry-in-Difference.ensures.value later f inputs)
