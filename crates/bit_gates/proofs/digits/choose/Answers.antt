use Rattle.std.proofs.Common.{arith}
use Rattle.gate_net.proofs.Growth.{grows_chain}
use Rattle.bit_gates.proofs.digits.choose.Goals as goal

pub returns-clause-grows : goal.returns-clause-grows
returns-clause-grows c =
    grows_chain 2 1 3 _ _ _ (grows_chain 1 1 2 _ _ _ c.xor.ensures.grows c.and.ensures.grows (omega arith)) c.xor-2.ensures.grows (omega arith)
