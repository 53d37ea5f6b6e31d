use Rattle.std.proofs.Common.{length}
use Rattle.gate_net.specs.Net.{node_value}
use Rattle.relation_gates.specs.Relations.{edge}
use Rattle.relation_gates.proofs.Rows.{some-iff, if-ok}
use Rattle.relation_gates.proofs.product.join.Goals as goal

pub returns-clause-value : goal.returns-clause-value
returns-clause-value c = if-ok c.join_rows.result (λ m is. λ later f inputs x z h k.
    let value = node_value later inputs in
    some-iff (length c.args.s.now) (λ y. edge value c.args.r.now x y) (λ y. edge value c.args.s.now y z) (edge value m x z) (is later f inputs x z h k)) c.join_rows.ensures.value
