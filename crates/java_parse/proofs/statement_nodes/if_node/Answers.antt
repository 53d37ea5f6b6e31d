use Rattle.std.proofs.Common.{refl}
use Rattle.java_parse.proofs.statement_nodes.if_node.Goals as goal

pub returns : goal.returns
returns c = rw (c.in_ok-then.ensures, c.in_ok-other.ensures) refl
