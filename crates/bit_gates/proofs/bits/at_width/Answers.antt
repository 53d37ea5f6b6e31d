use Rattle.std.proofs.Common.{◌≡◌, ◌<◌, ◌∙◌, ap, arith, length, subst, IfOk}
use Rattle.bit_gates.specs.Digits.{resized_to}
use Rattle.bit_gates.proofs.Joins.{AtWidth, some-digit, at-width-result}
use Rattle.gate_net.proofs.Growth.{if-ok}
use Rattle.bit_gates.proofs.bits.at_width.Goals as goal

pub resized-requires : goal.resized-requires
resized-requires c = omega (arith, ap length c.as_slice.ensures.value, some-digit c.args.net.now c.args.a.now c.requires.bits c.requires.small)

pub returns : goal.returns
returns c =
    let same = subst (λ ns. IfOk c.resized.result (λ v. v.items ≡ resized_to ns c.args.width)) c.as_slice.ensures.value c.resized.ensures in
    let all : IfOk c.resized.result (λ v. AtWidth c.args.net.now c.args.a.now c.args.width v.items) = at-width-result c.resized.result (λ v. v.items) c.args.net.now c.args.a.now c.args.width c.requires.bits c.requires.small c.requires.wide same in
    record {
      width = if-ok c.resized.result (λ v h. h.size) all;
      nodes = if-ok c.resized.result (λ v h. h.all) all;
      value = if-ok c.resized.result (λ v h. h.means) all;
    }
