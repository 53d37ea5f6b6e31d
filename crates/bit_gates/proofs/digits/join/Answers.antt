use Rattle.std.proofs.Common.{◌≡◌, ◌<◌, ◌+◌, ◌*◌, ◌^◌, [], ◌∷◌, ◌++◌, map, take, length, ap, ◌∙◌, arith, subst, sym}
use Rattle.std.proofs.lemmas.List.{length_push}
use Rattle.std.proofs.lemmas.List.Elements.{All-push, All-same, All-weaker}
use Rattle.gate_net.specs.Net.{IsNode, node_value}
use Rattle.gate_net.proofs.Growth.{grows_chain, stays, continues-then, nodes-push, size-push}
use Rattle.bit_gates.specs.Whole.{bit, unsigned}
use Rattle.bit_gates.specs.Digits.{IsJoin}
use Rattle.bit_gates.proofs.Steps.{join-next}
use Rattle.bit_gates.proofs.digits.join.Goals as goal

pub loop-i-preserved : goal.loop-i-preserved
loop-i-preserved c =
    let i = c.loop-i.i in
    let done = c.loop-i.values.items in
    let digit = c.in_ok-digit.digit in
    let pushed = c.in_ok-push.ensures.items in
    record {
      grows = grows_chain (5 * i) 5 (5 * (i + 1)) _ _ _ c.loop-i.invariant.grows c.join_digit.ensures.grows (omega arith);
      width = size-push done c.push.new.self.items digit.value i pushed c.loop-i.invariant.width;
      nodes = nodes-push c.loop-i.net c.join_digit.new.net done c.push.new.self.items digit.value pushed c.join_digit.ensures.grows.begins c.loop-i.invariant.nodes c.in_ok-digit.ensures.value_node;
      carry = c.in_ok-digit.ensures.carry_node;
      value = λ later f inputs.
          let value = node_value later inputs in
          let xs = c.args.xs.now in
          let ys = c.args.ys.now in
          subst (λ ns. IsJoin c.args.rule (unsigned (map value (take (i + 1) xs))) (unsigned (map value (take (i + 1) ys))) (unsigned (map value ns)) (bit (value digit.carry) * 2 ^ (i + 1))) (sym pushed)
          (join-next c.args.rule value xs ys done i _ c.loop-i.carry digit.value digit.carry (omega arith) (omega arith) c.loop-i.invariant.width
          (c.loop-i.invariant.value later (continues-then _ _ _ c.join_digit.ensures.grows.begins f) inputs)
          (c.in_ok-digit.ensures.value later f inputs));
    }
