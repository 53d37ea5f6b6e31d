use Rattle.std.proofs.Common.{◌≡◌, ◌<◌, ◌+◌, ◌*◌, ◌^◌, [], ◌∷◌, ◌++◌, map, take, length, ap, ◌∙◌, arith, subst, sym}
use Rattle.std.proofs.lemmas.List.{length_push, take_all}
use Rattle.std.proofs.lemmas.List.Elements.{All-push, All-same, All-weaker}
use Rattle.gate_net.specs.Net.{IsNode, node_value}
use Rattle.gate_net.proofs.Growth.{grows_chain, stays, continues-then, nodes-push, size-push}
use Rattle.bit_gates.specs.Whole.{bit, unsigned}
use Rattle.bit_gates.proofs.Steps.{negation-next}
use Rattle.bit_gates.proofs.negation.negated.Goals as goal

pub loop-i-preserved : goal.loop-i-preserved
loop-i-preserved c =
    let i = c.loop-i.i in
    let done = c.loop-i.values.items in
    let digit = c.in_ok-digit.digit in
    let ys = c.args.ys.now in
    let pushed = c.in_ok-push.ensures.items in
    record {
      grows = grows_chain (2 * i) 2 (2 * (i + 1)) _ _ _ c.loop-i.invariant.grows c.negate_digit.ensures.grows (omega arith);
      width = size-push done c.push.new.self.items digit.value i pushed c.loop-i.invariant.width;
      nodes = nodes-push c.loop-i.net c.negate_digit.new.net done c.push.new.self.items digit.value pushed c.negate_digit.ensures.grows.begins c.loop-i.invariant.nodes c.in_ok-digit.ensures.value_node;
      borrow = c.in_ok-digit.ensures.carry_node;
      value = λ later f inputs.
          let value = node_value later inputs in
          subst (λ ns. unsigned (map value ns) + unsigned (map value (take (i + 1) ys)) ≡ bit (value digit.carry) * 2 ^ (i + 1)) (sym pushed)
          (negation-next value ys done i _ c.loop-i.borrow digit.value digit.carry (omega arith) c.loop-i.invariant.width
          (c.loop-i.invariant.value later (continues-then _ _ _ c.negate_digit.ensures.grows.begins f) inputs)
          (c.in_ok-digit.ensures.value later f inputs));
    }

pub returns-clause-value : goal.returns-clause-value
returns-clause-value c = λ later f inputs.
    let value = node_value later inputs in
    let ys = c.args.ys.now in
    let i = c.loop-i.i in
    let all = take_all i ys (omega arith) in
    let size : i ≡ length ys = omega arith in
    (value c.loop-i.borrow, rw (← size, ← all) (c.loop-i.invariant.value later f inputs))
