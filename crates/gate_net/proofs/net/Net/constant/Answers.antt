use Rattle.gate_net.proofs.Values.{constant-value, constant_is}
use Rattle.gate_net.proofs.Growth.{always-one}
use Rattle.gate_net.proofs.net.Net.constant.Goals as goal

pub returns-clause-value : goal.returns-clause-value
returns-clause-value c =
    rw (← c.self.view_is) (always-one _ _ _ (constant_is _ _ _ c.self.invariant c.from.ensures) (constant-value _ _ _ c.self.invariant c.from.ensures))
