use Rattle.std.proofs.Common.{refl, rules, arith}
use Rattle.gate_net.proofs.Growth.{continues-same, continues-then}
use Rattle.relation_gates.proofs.Rows.{rows-push, size-push}
use Rattle.solver_tests.proofs.relations.relation.Goals as goal

pub loop-x-init : goal.loop-x-init
loop-x-init c = record {
  begins = continues-same c.args.net.now c.args.net.now refl;
  count = omega arith;
  given = c.requires.given;
  height = search rules;
  rows = search rules;
}

pub loop-x-preserved : goal.loop-x-preserved
loop-x-preserved c =
    let pushed = c.in_ok-push.ensures.items in
    record {
      begins = continues-then _ _ _ c.loop-x.invariant.begins c.set.ensures.begins;
      count = omega (arith, c.in_ok-row.ensures.nodes, c.loop-x.invariant.count);
      given = c.in_ok-row.ensures.given;
      height = size-push c.loop-x.made.items c.push.new.self.items c.in_ok-row.row c.loop-x.x pushed c.loop-x.invariant.height;
      rows = rows-push c.loop-x.net c.set.new.net c.args.objects c.loop-x.made.items c.push.new.self.items c.in_ok-row.row pushed c.set.ensures.begins c.loop-x.invariant.rows c.in_ok-row.ensures.row;
    }
