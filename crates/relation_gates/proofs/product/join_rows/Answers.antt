use Rattle.std.proofs.Common.{◌<◌, ◌+◌, ◌*◌, ◌&&◌, ◌∙◌, length, arith, ap}
use Rattle.gate_net.specs.Net.{node_value}
use Rattle.gate_net.proofs.Growth.{grows_chain, continues-then}
use Rattle.relation_gates.specs.Relations.{member, edge}
use Rattle.relation_gates.specs.Sets.{some_below}
use Rattle.relation_gates.proofs.Rows.{row-at, rows-push, size-push, edge-next, turn_more}
use Rattle.relation_gates.proofs.product.join_rows.Goals as goal

pub loop-x-preserved : goal.loop-x-preserved
loop-x-preserved c =
    let i = c.loop-x.x in
    let first = c.rows-first.result.now in
    let s = c.args.s.now in
    let u = length s in
    let a = c.index-first-x.result in
    let after = c.image_row.new.net in
    let done = c.loop-x.rows.items in
    let row = c.in_ok-image_row.field-0 in
    let pushed = c.in_ok-push.ensures.items in
    let h : i < length first = omega arith in
    let ra = row-at c.args.net.now u first c.args.r.now i a c.rows-first.ensures c.requires.first h c.index-first-x.is in
    record {
      grows = grows_chain (2 * u * u * i) (2 * u * u) (2 * u * u * (i + 1)) _ _ _ c.loop-x.invariant.grows c.image_row.ensures.grows (omega (arith, turn_more (2 * u * u) i));
      height = size-push done c.push.new.self.items row i pushed c.loop-x.invariant.height;
      rows = rows-push c.loop-x.net after u done c.push.new.self.items row pushed c.image_row.ensures.grows.begins c.loop-x.invariant.rows c.in_ok-image_row.ensures.row;
      value = λ later f inputs.
          let value = node_value later inputs in
          edge-next value done c.push.new.self.items row i u (λ x z. some_below u (λ y. edge value first x y && edge value s y z)) pushed c.loop-x.invariant.height
          (c.loop-x.invariant.value later (continues-then _ _ _ c.image_row.ensures.grows.begins f) inputs)
          (λ z l. c.in_ok-image_row.ensures.value later f inputs z l ∙ ap (λ r. some_below u (λ y. member value r y && edge value s y z)) ra.is);
    }
