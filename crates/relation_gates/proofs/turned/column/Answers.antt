use Rattle.std.proofs.Common.{length, arith, sym, ap, subst, refl}
use Rattle.gate_net.specs.Net.{IsNode, node_value}
use Rattle.gate_net.proofs.Growth.{continues-same}
use Rattle.relation_gates.specs.Relations.{edge}
use Rattle.relation_gates.proofs.Rows.{nodes-push, size-push, member-next, entry-is}
use Rattle.relation_gates.proofs.turned.column.Goals as goal

pub loop-y-preserved : goal.loop-y-preserved
loop-y-preserved c =
    let i = c.loop-y.y in
    let net = c.args.net.now in
    let rows = c.args.rows.now in
    let done = c.loop-y.nodes.items in
    let pushed = c.in_ok-push.ensures.items in
    let own : IsNode net c.entry.result = subst (IsNode net) (sym c.entry.ensures) (entry-is net (length rows) rows i c.args.x c.requires.relation (omega arith) c.requires.column) in
    record {
      width = size-push done c.push.new.self.items c.entry.result i pushed c.loop-y.invariant.width;
      nodes = nodes-push net net done c.push.new.self.items c.entry.result pushed (continues-same net net refl) c.loop-y.invariant.nodes own;
      value = λ later f inputs.
          let value = node_value later inputs in
          member-next value done c.push.new.self.items c.entry.result i (λ y. edge value rows y c.args.x) pushed c.loop-y.invariant.width
          (c.loop-y.invariant.value later f inputs) (ap value c.entry.ensures);
    }
