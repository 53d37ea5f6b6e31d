use Rattle.std.proofs.Common.{length}
use Rattle.gate_net.specs.Net.{node_value}
use Rattle.relation_gates.specs.Relations.{member, edge}
use Rattle.relation_gates.proofs.Rows.{some-iff, if-ok}
use Rattle.relation_gates.proofs.product.image.Goals as goal

pub returns-clause-value : goal.returns-clause-value
returns-clause-value c = if-ok c.image_row.result (λ row is. λ later f inputs y h.
    let value = node_value later inputs in
    some-iff (length c.args.r.now) (λ x. member value c.args.s.now x) (λ x. edge value c.args.r.now x y) (member value row y) (is later f inputs y h)) c.image_row.ensures.value
