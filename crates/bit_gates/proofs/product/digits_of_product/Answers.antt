use Rattle.std.proofs.Common.{◌%◌, nat_eq, map, get_or, ◌≡◌, ◌+◌, ◌-◌, ◌*◌, ◌/◌, ◌^◌, [], ◌∷◌, ◌++◌, length, drop, replicate, ap, sym, ◌∙◌, arith, refl, rules, subst, suc, length-drop}
use Rattle.std.specs.Prelude.{pos, ◌+ℤ◌, if◌then◌else◌}
use Rattle.std.proofs.Math.Nat.{pow-suc}
use Rattle.std.proofs.lemmas.List.{length-replicate}
use Rattle.std.proofs.lemmas.List.Elements.{All-push, All-same, All-weaker, All-nil, All-replicate, All-drop}
use Rattle.gate_net.specs.Net.{IsNode, Grows, node_value}
use Rattle.gate_net.proofs.Growth.{grows_chain, grows-same, stays, continues-then, turn_more, nodes-push}
use Rattle.bit_gates.specs.Whole.{whole}
use Rattle.bit_gates.proofs.Products.{IsPartial, partial-none, partial-next, partial-done, turns, last-rest}
use Rattle.bit_gates.proofs.product.digits_of_product.Goals as goal

pub loop-init : goal.loop-init
loop-init c =
    let net = c.args.net.now in
    let none : c.in_ok-digits.digits.items ≡ [] = c.in_ok-digits.ensures.items in
    let zeros : c.in_ok-higher.higher.items ≡ replicate (length c.args.ys.now) c.constant.result = c.in_ok-higher.ensures.items_if_clones_equal (λ y e. e) in
    record {
      grows = grows-same (5 * (length c.args.ys.now + 1) * 0) net net refl;
      width = ap length zeros ∙ length-replicate (length c.args.ys.now) c.constant.result;
      digits = All-same (IsNode net) c.in_ok-digits.digits.items [] none (All-nil (IsNode net));
      higher = All-same (IsNode net) c.in_ok-higher.higher.items (replicate (length c.args.ys.now) c.constant.result) zeros (All-replicate (IsNode net) (length c.args.ys.now) c.constant.result c.constant.ensures.node);
      small = search rules;
      value = λ later f inputs. partial-none (node_value later inputs) c.in_ok-digits.digits.items c.in_ok-higher.higher.items c.args.ys.now c.constant.result (length c.args.ys.now) c.args.factor (c.constant.ensures.value later f inputs) none zeros;
    }

pub returns-in_err-higher-2-clause-grows : goal.returns-in_err-higher-2-clause-grows
returns-in_err-higher-2-clause-grows c =
    let w = length c.args.ys.now + 1 in
    let same : length c.as_slice.result.now ≡ length c.args.ys.now = ap length c.as_slice.ensures.value ∙ c.loop.invariant.width in
    let step : Grows (5 * w) c.loop.net c.sum_if.new.net = subst (λ n. Grows (5 * (n + 1)) c.loop.net c.sum_if.new.net) same c.sum_if.ensures.grows in
    grows_chain (5 * w * c.loop.counter) (5 * w) (160 * w) _ _ _ c.loop.invariant.grows step (turns w c.loop.counter (omega arith))

pub loop-preserved : goal.loop-preserved
loop-preserved c =
    let i = c.loop.counter in
    let ys = c.args.ys.now in
    let w = length ys + 1 in
    let after = c.sum_if.new.net in
    let digits = c.loop.digits.items in
    let higher = c.loop.higher.items in
    let kept = c.as_slice.ensures.value in
    let same : length c.as_slice.result.now ≡ length ys = ap length kept ∙ c.loop.invariant.width in
    let step : Grows (5 * w) c.loop.net after = subst (λ n. Grows (5 * (n + 1)) c.loop.net after) same c.sum_if.ensures.grows in
    let sum = c.in_ok-sum.sum.items in
    let others : c.in_ok-higher-2.higher.items ≡ drop 1 sum = c.in_ok-higher-2.ensures ∙ ap (drop 1) c.as_slice-in-loop.ensures.value in
    let lowest = c.index.result.now in
    let j = c.index.ensures in
    let pushed : c.push.new.self.items ≡ digits ++ lowest ∷ [] = c.in_ok-push.ensures.items in
    let also : c.push.new.self.items ≡ digits ++ get_or sum 0 lowest ∷ [] = pushed ∙ ap (λ n. digits ++ n ∷ []) j in
    let size : length sum ≡ length ys + 1 = omega (arith, same, c.in_ok-sum.ensures.width) in
    let left : 32 - i ≡ suc (32 - (i + 1)) = omega arith in
    record {
      grows = grows_chain (5 * w * i) (5 * w) (5 * w * (i + 1)) _ _ _ c.loop.invariant.grows step (omega (arith, turn_more (5 * w) i));
      width = omega (arith, ap length others, length-drop 1 sum, size);
      digits = nodes-push c.loop.net after digits c.push.new.self.items lowest pushed c.sum_if.ensures.grows.begins c.loop.invariant.digits (subst (IsNode after) (sym j) (c.in_ok-sum.ensures.nodes 0 lowest (omega arith)));
      higher = All-same (IsNode after) c.in_ok-higher-2.higher.items (drop 1 sum) others (All-drop (IsNode after) 1 sum c.in_ok-sum.ensures.nodes);
      small = omega (arith, c.loop.invariant.small, ap (λ n. 2 ^ n) left, pow-suc 2 (32 - (i + 1)));
      value = λ later f inputs.
          let value = node_value later inputs in
          let wanted = nat_eq (c.loop.rest % 2) 1 in
          let a = whole (map value ys) in
          let sums : whole (map value sum) ≡ whole (map value higher) +ℤ (if wanted then a else pos 0) =
          c.in_ok-sum.ensures.value later f inputs ∙ ap (λ ns. whole (map value ns) +ℤ (if wanted then a else pos 0)) kept in
          subst (λ ns. IsPartial value ns c.in_ok-higher-2.higher.items (c.loop.rest / 2) c.args.factor ys) (sym also)
          (partial-next value digits higher ys sum c.in_ok-higher-2.higher.items lowest c.loop.rest c.args.factor wanted (omega arith) others refl sums
          (c.loop.invariant.value later (continues-then _ _ _ c.sum_if.ensures.grows.begins f) inputs));
    }

pub returns-clause-value : goal.returns-clause-value
returns-clause-value c = λ later f inputs.
    partial-done (node_value later inputs) c.loop.digits.items c.loop.higher.items c.args.ys.now _ c.loop.rest c.args.factor (omega (arith, c.loop.invariant.width)) (last-rest c.loop.rest c.loop.counter c.loop.invariant.small (omega arith)) (c.in_ok-extend_from_slice.ensures.items ∙ ap (λ ns. c.loop.digits.items ++ ns) c.as_slice-2.ensures.value) (c.loop.invariant.value later f inputs)
