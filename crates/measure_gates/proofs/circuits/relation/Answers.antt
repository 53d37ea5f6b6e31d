use Rattle.std.proofs.Common.{◌≡◌, ◌+◌, ◌*◌, length, refl, rules, arith}
use Rattle.gate_net.proofs.Growth.{continues-same, continues-then}
use Rattle.relation_gates.proofs.Rows.{rows-push, size-push}
use Rattle.measure_gates.proofs.circuits.relation.Goals as goal

pub loop-init : goal.loop-init
loop-init c = record {
  begins = continues-same c.args.net.now c.args.net.now refl;
  count = omega arith;
  height = search rules;
  rows = search rules;
}

pub loop-preserved : goal.loop-preserved
loop-preserved c =
    let pushed = c.in_ok-push.ensures.items in
    record {
      begins = continues-then _ _ _ c.loop.invariant.begins c.set.ensures.begins;
      count = omega (arith, c.in_ok-row.ensures.nodes, c.loop.invariant.count);
      height = size-push c.loop.rows.items c.push.new.self.items c.in_ok-row.row c.loop.counter pushed c.loop.invariant.height;
      rows = rows-push c.loop.net c.set.new.net c.args.objects c.loop.rows.items c.push.new.self.items c.in_ok-row.row pushed c.set.ensures.begins c.loop.invariant.rows c.in_ok-row.ensures.row;
    }
