use Rattle.std.proofs.Common.{◌≡◌, ◌<◌, ◌≤◌, ◌+◌, ◌∙◌, ◌++◌, ◌∷◌, [], length, map, take, get_or, ap, sym, arith, subst}
use Rattle.std.specs.Prelude.{◌&&◌}
use Rattle.std.proofs.lemmas.List.{length_push, take_all}
use Rattle.std.proofs.lemmas.List.Elements.{All-push, All-same, All-weaker}
use Rattle.gate_net.specs.Net.{IsNode, node_value}
use Rattle.gate_net.proofs.Growth.{grows_chain, stays, continues-then, nodes-push, size-push}
use Rattle.bit_gates.proofs.Sums.{bits-on, masked-value, masked-within, masked-next}
use Rattle.bit_gates.proofs.total.masked.Goals as goal

pub loop-digit-preserved : goal.loop-digit-preserved
loop-digit-preserved c =
    let i = c.loop-digit.digit-index in
    let done = c.loop-digit.nodes.items in
    let ns = c.args.bits.now.nodes.items in
    let pushed = c.in_ok-push.ensures.items in
    record {
      grows = grows_chain i 1 (i + 1) _ _ _ c.loop-digit.invariant.grows c.and.ensures.grows (omega arith);
      width = size-push done c.push.new.self.items c.in_ok-and.field-0 i pushed c.loop-digit.invariant.width;
      nodes = nodes-push c.loop-digit.net c.and.new.self done c.push.new.self.items c.in_ok-and.field-0 pushed c.and.ensures.grows.begins c.loop-digit.invariant.nodes c.in_ok-and.ensures.node;
      value = λ later f inputs.
          let value = node_value later inputs in
          subst (λ xs. map value xs ≡ map (λ n. value c.args.node && value n) (take (i + 1) ns)) (sym pushed)
          (masked-next value (value c.args.node) ns done i _ c.in_ok-and.field-0 (omega arith)
          (c.loop-digit.invariant.value later (continues-then _ _ _ c.and.ensures.grows.begins f) inputs) (c.in_ok-and.ensures.value later f inputs ∙ ap (λ ms. value c.args.node && value (get_or ms i (record { place = 0 }))) c.deref-digit-items.ensures.value));
    }

pub returns-clause-value : goal.returns-clause-value
returns-clause-value c = λ later f inputs.
    let value = node_value later inputs in
    let ns = c.args.bits.now.nodes.items in
    let all = take_all c.loop-digit.digit-index ns (omega arith) in
    masked-value value (value c.args.node) ns c.loop-digit.nodes.items (c.loop-digit.invariant.value later f inputs ∙ ap (map (λ n. value c.args.node && value n)) all)

pub returns-clause-bits : goal.returns-clause-bits
returns-clause-bits c =
    let ns = c.args.bits.now.nodes.items in
    let size : c.loop-digit.digit-index ≡ length ns = omega arith in
    record {
      nodes = c.loop-digit.invariant.nodes;
      width = c.loop-digit.invariant.width ∙ size ∙ c.requires.bits.width;
      within = λ later f inputs.
          let value = node_value later inputs in
          masked-within (value c.args.node) _ _ c.args.bits.now.most (returns-clause-value c later f inputs) (c.requires.bits.within later (continues-then _ _ _ c.loop-digit.invariant.grows.begins f) inputs);
    }
