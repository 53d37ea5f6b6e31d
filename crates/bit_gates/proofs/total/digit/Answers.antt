use Rattle.std.proofs.Common.{◌≡◌, ◌∙◌, ◌∷◌, [], ap, sym, length, refl}
use Rattle.std.proofs.lemmas.List.Elements.{All-same, All-cons, All-nil}
use Rattle.gate_net.specs.Net.{IsNode, node_value}
use Rattle.bit_gates.proofs.Sums.{width-one, digit-value, digit-within}
use Rattle.bit_gates.proofs.total.digit.Goals as goal

pub returns-clause-value : goal.returns-clause-value
returns-clause-value c = λ later f inputs. digit-value (node_value later inputs) c.in_ok-nodes.nodes.items c.args.node c.constant.result c.in_ok-nodes.ensures.items (c.constant.ensures.value later f inputs)

pub returns-clause-bits : goal.returns-clause-bits
returns-clause-bits c =
    let net = c.args.net.now in
    let made : c.in_ok-nodes.nodes.items ≡ c.args.node ∷ c.constant.result ∷ [] = c.in_ok-nodes.ensures.items in
    record {
      nodes = All-same (IsNode net) c.in_ok-nodes.nodes.items (c.args.node ∷ c.constant.result ∷ []) made
          (All-cons (IsNode net) c.args.node (c.constant.result ∷ []) c.requires (All-cons (IsNode net) c.constant.result [] c.constant.ensures.node (All-nil (IsNode net))));
      width = ap length made ∙ sym width-one;
      within = λ later f inputs. digit-within (node_value later inputs c.args.node) _ (returns-clause-value c later f inputs);
    }
