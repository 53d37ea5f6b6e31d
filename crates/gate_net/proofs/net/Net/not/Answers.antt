use Rattle.std.proofs.Common.{refl}
use Rattle.gate_net.specs.declared.gate.Gate.TheVariants.{Not}
use Rattle.gate_net.proofs.Growth.{grows-result, not-result}
use Rattle.gate_net.proofs.net.Net.not.Goals as goal

pub returns-clause-value : goal.returns-clause-value
returns-clause-value c = not-result _ _ _ _ c.add.ensures.appended c.add.ensures.node c.requires.operand

pub returns-clause-grows : goal.returns-clause-grows
returns-clause-grows c = grows-result _ _ _ (Not c.args.a) c.add.ensures.appended c.add.ensures.refused refl
