use Rattle.std.proofs.Common.{length, refl}
use Rattle.gate_net.specs.Net.{node_value}
use Rattle.gate_net.proofs.Growth.{continues-same}
use Rattle.relation_gates.specs.Relations.{edge}
use Rattle.relation_gates.proofs.Rows.{rows-push, size-push, edge-next}
use Rattle.relation_gates.proofs.turned.converse.Goals as goal

pub loop-x-preserved : goal.loop-x-preserved
loop-x-preserved c =
    let i = c.loop-x.x in
    let net = c.args.net.now in
    let columns = c.rows-columns.result.now in
    let u = length columns in
    let done = c.loop-x.rows.items in
    let row = c.in_ok-column.field-0 in
    let pushed = c.in_ok-push.ensures.items in
    record {
      height = size-push done c.push.new.self.items row i pushed c.loop-x.invariant.height;
      rows = rows-push net net u done c.push.new.self.items row pushed (continues-same net net refl) c.loop-x.invariant.rows c.in_ok-column.ensures.row;
      value = λ later f inputs.
          let value = node_value later inputs in
          edge-next value done c.push.new.self.items row i u (λ x y. edge value columns y x) pushed c.loop-x.invariant.height
          (c.loop-x.invariant.value later f inputs) (c.in_ok-column.ensures.value later f inputs);
    }
