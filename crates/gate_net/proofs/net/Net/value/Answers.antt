use Rattle.std.proofs.Common.{◌≡◌, ◌<◌, length, ap, ◌∙◌, arith, false}
use Rattle.std.proofs.lemmas.List.{get_or_read}
use Rattle.gate_net.specs.Net.{values_of, at}
use Rattle.gate_net.proofs.Values.{length-values_of}
use Rattle.gate_net.proofs.net.Net.value.Goals as goal

pub index-requires : goal.index-requires
index-requires c =
    let net = c.as_slice.result.now in
    let inputs = c.args.inputs.now in
    let same : net ≡ c.args.self.now = c.as_slice.ensures.value ∙ c.self.view_is in
    omega (arith, ap length same, ap length c.in_ok-values.ensures, length-values_of inputs net)

pub returns : goal.returns
returns c =
    let net = c.as_slice.result.now in
    let inputs = c.args.inputs.now in
    let same : net ≡ c.args.self.now = c.as_slice.ensures.value ∙ c.self.view_is in
    let values = c.in_ok-values.values.items in
    let within : c.args.node.place < length values = omega (arith, ap length same, ap length c.in_ok-values.ensures, length-values_of inputs net) in
    get_or_read values c.args.node.place c.index.result.now within c.index.ensures false ∙ ap (λ vs. at vs c.args.node) (c.in_ok-values.ensures ∙ ap (values_of inputs) same)
