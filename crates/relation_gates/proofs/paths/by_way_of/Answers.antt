use Rattle.std.proofs.Common.{◌≡◌, ◌<◌, ◌+◌, ◌*◌, ◌||◌, ◌&&◌, ◌∙◌, length, arith, sym, ap, subst}
use Rattle.gate_net.specs.Net.{Grows, node_value}
use Rattle.gate_net.proofs.Growth.{grows_chain, continues-then}
use Rattle.relation_gates.specs.Relations.{member, edge, IsRow}
use Rattle.relation_gates.proofs.Rows.{row-at, rows-push, size-push, edge-next, turn_more}
use Rattle.relation_gates.proofs.paths.by_way_of.Goals as goal

pub loop-x-preserved : goal.loop-x-preserved
loop-x-preserved c =
    let i = c.loop-x.x in
    let k = c.args.k in
    let from = c.rows-from.result.now in
    let u = length from in
    let a = c.index-from-x.result in
    let b = c.index-from-k.result in
    let after = c.row_by_way_of.new.net in
    let done = c.loop-x.rows.items in
    let row = c.in_ok-row_by_way_of.field-0 in
    let pushed = c.in_ok-push.ensures.items in
    let h : i < u = omega arith in
    let l : k < u = omega (arith, ap length c.rows-from.ensures, c.requires.object) in
    let ra = row-at c.args.net.now (length c.args.paths.now) from c.args.paths.now i a c.rows-from.ensures c.requires.relation h c.index-from-x.is in
    let rb = row-at c.args.net.now (length c.args.paths.now) from c.args.paths.now k b c.rows-from.ensures c.requires.relation l c.index-from-k.is in
    let size : length a ≡ u = ra.own.width ∙ sym (ap length c.rows-from.ensures) in
    record {
      grows = grows_chain (2 * u * i) (2 * u) (2 * u * (i + 1)) _ _ _ c.loop-x.invariant.grows (subst (λ n. Grows (2 * n) c.loop-x.net after) size c.row_by_way_of.ensures.grows) (omega (arith, turn_more (2 * u) i));
      height = size-push done c.push.new.self.items row i pushed c.loop-x.invariant.height;
      rows = rows-push c.loop-x.net after u done c.push.new.self.items row pushed c.row_by_way_of.ensures.grows.begins c.loop-x.invariant.rows (subst (λ n. IsRow after n row) size c.in_ok-row_by_way_of.ensures.row);
      value = λ later f inputs.
          let value = node_value later inputs in
          edge-next value done c.push.new.self.items row i u (λ x z. edge value from x z || (edge value from x k && edge value from k z)) pushed c.loop-x.invariant.height
          (c.loop-x.invariant.value later (continues-then _ _ _ c.row_by_way_of.ensures.grows.begins f) inputs)
          (λ z m. c.in_ok-row_by_way_of.ensures.value later f inputs z (omega (arith, size))
          ∙ ap (λ r. member value r z || (member value r k && member value b z)) ra.is
          ∙ ap (λ r. edge value from i z || (edge value from i k && member value r z)) rb.is);
    }
