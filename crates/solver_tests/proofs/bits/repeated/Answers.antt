use Rattle.std.proofs.Common.{ℕ, ◌≡◌, ◌+◌, ◌*◌, [], ◌∷◌, ◌++◌, ◌∙◌, length, ap, sym, subst, arith}
use Rattle.std.specs.List.{All}
use Rattle.std.proofs.lemmas.List.{length_push}
use Rattle.std.proofs.lemmas.List.Elements.{All-push, All-same}
use Rattle.gate_net.specs.Net.{IsNode}
use Rattle.gate_net.specs.declared.node.Node.{Node}
use Rattle.bit_gates.specs.declared.bits.Bits.{Bits}
use Rattle.bit_gates.specs.Whole.{width_of}
use Rattle.bit_gates.specs.Totals.{IsPart, bounds, widths}
use Rattle.bit_gates.proofs.Sums.{bounds-push, widths-push}
use Rattle.solver_tests.proofs.bits.repeated.Goals as goal

more : (w i : ℕ) → w * (i + 1) ≡ w * i + w
more w i = grind arith

pub loop-preserved : goal.loop-preserved
loop-preserved c =
    let i = c.loop.counter in
    let after = c.constant.new.net in
    let same : after ≡ c.loop.net = c.constant.ensures.grows in
    let done = c.loop.parts.items in
    let part : Node × Bits = (c.constant-yes.result, c.in_ok-number.number) in
    let pushed : c.push.new.self.items ≡ done ++ part ∷ [] = c.in_ok-push.ensures.items in
    let most : c.in_ok-number.number.most ≡ 2147483647 = c.in_ok-number.ensures.most in
    let size : length c.in_ok-number.number.nodes.items ≡ width_of 2147483647 = c.in_ok-number.ensures.bits.width ∙ ap width_of most in
    record {
      net = same ∙ c.loop.invariant.net;
      count = omega (arith, ap length pushed, length_push done part, c.loop.invariant.count);
      parts = All-same (IsPart after) c.push.new.self.items (done ++ part ∷ []) pushed (All-push (IsPart after) done part
          (subst (λ net. All (IsPart net) done) (sym same) c.loop.invariant.parts)
          (subst (λ net. IsNode net part.0) (sym same) c.constant-yes.ensures.node, c.in_ok-number.ensures.bits));
      bounds = omega (arith, ap bounds pushed, bounds-push done part, most, c.loop.invariant.bounds);
      widths = omega (arith, ap widths pushed, widths-push done part, size, c.loop.invariant.widths, more (width_of 2147483647) i);
    }
