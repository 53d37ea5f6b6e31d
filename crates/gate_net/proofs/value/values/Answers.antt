use Rattle.std.proofs.Common.{◌≡◌, ◌+◌, ◌<◌, ◌≤◌, length, sym, ap, ◌∙◌, arith, subst, get_or, false}
use Rattle.gate_net.specs.Net.{Refers}
use Rattle.gate_net.specs.declared.gate.Gate.TheVariants.{Constant}
use Rattle.gate_net.proofs.Values.{inputs_of-more, inputs_of-front, values-step, length-values_front}
use Rattle.gate_net.proofs.value.values.Goals as goal

pub value_at-value-requires-clause-earlier : goal.value_at-value-requires-clause-earlier
value_at-value-requires-clause-earlier c =
    let k = c.loop-gate.gate-index in
    let net = c.args.gates.now in
    let h : k < length net = omega arith in
    let front : k ≤ length net = omega arith in
    let place : k ≡ length c.as_slice.result.now = sym (ap length (c.as_slice.ensures.value ∙ c.loop-gate.invariant.done) ∙ length-values_front c.args.inputs.now net k front) in
    subst (λ p. Refers p (get_or net k (Constant false))) place (c.requires.net.earlier k (Constant false) h)

pub value_at-value-requires-clause-inputs : goal.value_at-value-requires-clause-inputs
value_at-value-requires-clause-inputs c =
    let k = c.loop-gate.gate-index in
    let net = c.args.gates.now in
    omega (arith, inputs_of-more net k (Constant false) (omega arith), inputs_of-front net (k + 1), c.loop-gate.invariant.next, c.requires.inputs)

pub overflow_add-next : goal.overflow_add-next
overflow_add-next c =
    let k = c.loop-gate.gate-index in
    let net = c.args.gates.now in
    omega (arith, inputs_of-more net k (Constant false) (omega arith), inputs_of-front net (k + 1), c.loop-gate.invariant.next, c.requires.inputs, c.inputs_at-next.ensures)

pub loop-gate-preserved : goal.loop-gate-preserved
loop-gate-preserved c =
    let k = c.loop-gate.gate-index in
    let net = c.args.gates.now in
    let h : k < length net = omega arith in
    record {
      done = c.in_ok-push.ensures.items ∙ values-step c.args.inputs.now net k (Constant false) c.loop-gate.values.items _ c.loop-gate.next _ h c.loop-gate.invariant.done c.loop-gate.invariant.next c.as_slice.ensures.value c.value_at-value.ensures;
      next = omega (arith, inputs_of-more net k (Constant false) h, c.loop-gate.invariant.next, c.inputs_at-next.ensures);
    }
