use Rattle.std.proofs.Common.{arith}
use Rattle.spec_syntax.proofs.Nothing.{no_spec}
use Rattle.spec_syntax.proofs.spec_methods.spec_method.Goals as goal

pub returns-then-most-eq0 : goal.returns-then-most-eq0
returns-then-most-eq0 c = rw c.too_high.ensures (no_spec c.args.most c.args.tokens.now (omega arith))
