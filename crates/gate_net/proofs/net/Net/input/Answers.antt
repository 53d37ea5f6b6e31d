use Rattle.gate_net.specs.declared.gate.Gate.TheVariants.{Input}
use Rattle.gate_net.proofs.Growth.{keeps, continues-result}
use Rattle.gate_net.proofs.Values.{input-result, input-count}
use Rattle.gate_net.proofs.net.Net.input.Goals as goal

pub returns-clause-value : goal.returns-clause-value
returns-clause-value c = input-result _ _ _ c.add.ensures.appended c.add.ensures.node

pub returns-clause-inputs : goal.returns-clause-inputs
returns-clause-inputs c = input-count _ _ _ c.add.ensures.appended

pub returns-clause-begins : goal.returns-clause-begins
returns-clause-begins c = continues-result _ _ _ Input c.add.ensures.appended c.add.ensures.refused

pub returns-clause-kept : goal.returns-clause-kept
returns-clause-kept c = keeps _ _ (continues-result _ _ _ Input c.add.ensures.appended c.add.ensures.refused)
