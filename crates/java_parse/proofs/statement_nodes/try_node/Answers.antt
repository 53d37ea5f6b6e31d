use Rattle.std.proofs.Common.{refl}
use Rattle.java_parse.proofs.statement_nodes.try_node.Goals as goal

pub returns : goal.returns
returns c = rw (c.in_ok-body.ensures, c.in_ok-last.ensures) refl
