use Rattle.std.proofs.Common.{arith}
use Rattle.java_parse.proofs.Nothing.{no_unended}
use Rattle.java_parse.proofs.simple.unended.Goals as goal

pub returns-then-most-eq0 : goal.returns-then-most-eq0
returns-then-most-eq0 c = rw c.too_high.ensures (no_unended c.args.most c.args.declares c.args.tokens.now (omega arith))
