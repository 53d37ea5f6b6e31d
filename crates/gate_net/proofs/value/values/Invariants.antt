use Rattle.std.proofs.Common.{◌≡◌, take}
use Rattle.gate_net.specs.Net.{values_of, inputs_of}
use Rattle.gate_net.proofs.value.values.Given as goal

abbrev pub invariant-loop-gate : goal.invariant-loop-gate
invariant-loop-gate l = record {
  done : l.values.items ≡ values_of l.inputs (take l.gate-index l.gates);
  next : l.next ≡ inputs_of (take l.gate-index l.gates);
}
