use Rattle.std.proofs.Common.{arith}
use Rattle.java_parse.proofs.Nothing.{no_class}
use Rattle.java_parse.proofs.class.class.Goals as goal

pub returns-then-most-eq0 : goal.returns-then-most-eq0
returns-then-most-eq0 c = rw c.too_high.ensures (no_class c.args.most c.args.tokens.now (omega arith))
