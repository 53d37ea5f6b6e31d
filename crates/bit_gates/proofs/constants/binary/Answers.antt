use Rattle.std.proofs.Common.{◌≡◌, ◌<◌, ◌+◌, ◌*◌, ◌-◌, ◌/◌, ◌^◌, [], ◌∷◌, ◌++◌, length, map, sym, ap, ◌∙◌, arith, subst, suc, refl}
use Rattle.std.specs.List.{All}
use Rattle.std.proofs.Math.Nat.{pow-suc}
use Rattle.std.proofs.lemmas.List.{length_push}
use Rattle.std.proofs.lemmas.List.Elements.{All-push, All-same, All-nil}
use Rattle.gate_net.specs.Net.{IsNode, node_value}
use Rattle.bit_gates.specs.Whole.{unsigned}
use Rattle.bit_gates.proofs.Comparisons.{binary-next, binary-none, binary-done}
use Rattle.gate_net.proofs.Growth.{nodes-push, size-push, continues-same}
use Rattle.bit_gates.proofs.constants.binary.Goals as goal

pub loop-init : goal.loop-init
loop-init c =
    let none : c.in_ok-nodes.nodes.items ≡ [] = c.in_ok-nodes.ensures.items in
    record {
      width = ap length none;
      nodes = All-same (IsNode c.args.net.now) c.in_ok-nodes.nodes.items [] none (All-nil (IsNode c.args.net.now));
      small = let whole : c.args.width - 0 ≡ c.args.width = omega arith in omega (arith, ap (λ n. 2 ^ n) whole);
      value = λ later f inputs. binary-none (node_value later inputs) c.in_ok-nodes.nodes.items c.args.pattern none;
    }

pub loop-preserved : goal.loop-preserved
loop-preserved c =
    let net = c.args.net.now in
    let done = c.loop.nodes.items in
    let pushed : c.push.new.self.items ≡ done ++ c.constant.result ∷ [] = c.in_ok-push.ensures.items in
    let i = c.loop.counter in
    let left : c.args.width - i ≡ suc (c.args.width - (i + 1)) = omega arith in
    record {
      width = size-push done c.push.new.self.items c.constant.result i pushed c.loop.invariant.width;
      nodes = nodes-push net net done c.push.new.self.items c.constant.result pushed (continues-same net net refl) c.loop.invariant.nodes c.constant.ensures.node;
      small = omega (arith, c.loop.invariant.small, ap (λ n. 2 ^ n) left, pow-suc 2 (c.args.width - (i + 1)));
      value = λ later f inputs.
          let value = node_value later inputs in
          subst (λ ns. unsigned (map value ns) + (c.loop.rest / 2) * 2 ^ length ns ≡ c.args.pattern) (sym pushed)
          (binary-next value done c.loop.rest c.args.pattern c.constant.result (c.loop.invariant.value later f inputs) (c.constant.ensures.value later f inputs));
    }

pub returns-clause-value : goal.returns-clause-value
returns-clause-value c = λ later f inputs.
    let none : c.args.width - c.loop.counter ≡ 0 = omega arith in
    binary-done (unsigned (map (node_value later inputs) c.loop.nodes.items)) c.loop.rest (length c.loop.nodes.items) c.args.pattern (omega (arith, c.loop.invariant.small, ap (λ n. 2 ^ n) none)) (c.loop.invariant.value later f inputs)
