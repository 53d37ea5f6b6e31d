use Rattle.std.proofs.Common.{refl}
use Rattle.java_parse.proofs.statement_nodes.while_node.Goals as goal

pub returns : goal.returns
returns c = rw c.in_ok-new.ensures refl
