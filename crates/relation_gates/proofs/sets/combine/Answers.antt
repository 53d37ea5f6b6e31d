use Rattle.std.proofs.Common.{◌≡◌, ◌<◌, ◌+◌, ◌*◌, ◌∙◌, length, arith, sym, ap, subst}
use Rattle.gate_net.specs.Net.{Grows, node_value}
use Rattle.gate_net.proofs.Growth.{grows_chain, continues-then}
use Rattle.relation_gates.specs.Relations.{member, edge, IsRow}
use Rattle.relation_gates.specs.Sets.{combined}
use Rattle.relation_gates.proofs.Rows.{row-at, rows-push, size-push, edge-next, turn_more}
use Rattle.relation_gates.proofs.sets.combine.Goals as goal

pub loop-x-preserved : goal.loop-x-preserved
loop-x-preserved c =
    let i = c.loop-x.x in
    let first = c.rows-first.result.now in
    let second = c.rows-second.result.now in
    let u = length first in
    let a = c.index-first-x.result in
    let b = c.index-second-x.result in
    let after = c.combine_rows.new.net in
    let done = c.loop-x.rows.items in
    let row = c.in_ok-combine_rows.field-0 in
    let pushed = c.in_ok-push.ensures.items in
    let h : i < u = omega arith in
    let k : i < length second = omega (arith, ap length c.rows-second.ensures, ap length c.rows-first.ensures, c.requires.second.height) in
    let ra = row-at c.args.net.now (length c.args.a.now) first c.args.a.now i a c.rows-first.ensures c.requires.first h c.index-first-x.is in
    let rb = row-at c.args.net.now (length c.args.a.now) second c.args.b.now i b c.rows-second.ensures c.requires.second k c.index-second-x.is in
    let size : length a ≡ u = ra.own.width ∙ sym (ap length c.rows-first.ensures) in
    record {
      grows = grows_chain (2 * u * i) (2 * u) (2 * u * (i + 1)) _ _ _ c.loop-x.invariant.grows (subst (λ n. Grows (2 * n) c.loop-x.net after) size c.combine_rows.ensures.grows) (omega (arith, turn_more (2 * u) i));
      height = size-push done c.push.new.self.items row i pushed c.loop-x.invariant.height;
      rows = rows-push c.loop-x.net after u done c.push.new.self.items row pushed c.combine_rows.ensures.grows.begins c.loop-x.invariant.rows (subst (λ n. IsRow after n row) size c.in_ok-combine_rows.ensures.row);
      value = λ later f inputs.
          let value = node_value later inputs in
          edge-next value done c.push.new.self.items row i u (λ x y. combined c.args.operation (edge value first x y) (edge value second x y)) pushed c.loop-x.invariant.height
          (c.loop-x.invariant.value later (continues-then _ _ _ c.combine_rows.ensures.grows.begins f) inputs)
          (λ y l. c.in_ok-combine_rows.ensures.value later f inputs y (omega (arith, size))
          ∙ ap (λ r. combined c.args.operation (member value r y) (member value b y)) ra.is
          ∙ ap (λ r. combined c.args.operation (edge value first i y) (member value r y)) rb.is);
    }
