use Rattle.gate_net.specs.declared.gate.Operator.TheVariants.{And}
use Rattle.std.proofs.Common.{refl}
use Rattle.gate_net.specs.declared.gate.Gate.TheVariants.{Binary}
use Rattle.gate_net.proofs.Growth.{grows-same, grows-result, binary-result}
use Rattle.gate_net.proofs.net.Net.and.Goals as goal

pub returns-clause-value : goal.returns-clause-value
returns-clause-value c = binary-result And _ _ _ _ _ c.add.ensures.appended c.add.ensures.node c.requires.first c.requires.second

pub returns-clause-grows : goal.returns-clause-grows
returns-clause-grows c = grows-result _ _ _ (Binary And c.args.a c.args.b) c.add.ensures.appended c.add.ensures.refused refl

pub returns-then-a-b-clause-grows : goal.returns-then-a-b-clause-grows
returns-then-a-b-clause-grows c = grows-same 1 _ _ refl
