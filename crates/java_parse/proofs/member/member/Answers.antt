use Rattle.std.proofs.Common.{arith}
use Rattle.java_parse.proofs.Nothing.{no_member}
use Rattle.java_parse.proofs.member.member.Goals as goal

pub returns-then-most-eq0 : goal.returns-then-most-eq0
returns-then-most-eq0 c = rw c.too_high.ensures (no_member c.args.most c.args.tokens.now (omega arith))
