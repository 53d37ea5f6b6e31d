use Rattle.std.proofs.Common.{arith}
use Rattle.spec_syntax.proofs.Nothing.{no_contract}
use Rattle.spec_syntax.proofs.contracts.contract.Goals as goal

pub returns-then-most-eq0 : goal.returns-then-most-eq0
returns-then-most-eq0 c = rw c.too_high.ensures (no_contract c.args.most c.args.tokens.now (omega arith))
