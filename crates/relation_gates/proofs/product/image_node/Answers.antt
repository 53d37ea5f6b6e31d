use Rattle.std.proofs.Common.{◌+◌, ◌*◌, ◌&&◌, ◌∙◌, arith, ap}
use Rattle.gate_net.specs.Net.{node_value}
use Rattle.gate_net.proofs.Growth.{grows_chain, continues-then}
use Rattle.relation_gates.specs.Relations.{member, edge}
use Rattle.relation_gates.proofs.Rows.{some-more}
use Rattle.relation_gates.proofs.product.image_node.Goals as goal

pub loop-x-preserved : goal.loop-x-preserved
loop-x-preserved c =
    let i = c.loop-x.x in
    record {
      grows = grows_chain (2 * i) 2 (2 * (i + 1)) _ _ _ c.loop-x.invariant.grows (grows_chain 1 1 2 _ _ _ c.and.ensures.grows c.or.ensures.grows (omega arith)) (omega arith);
      node = c.in_ok-found.ensures.node;
      value = λ later f inputs.
          let value = node_value later inputs in
          let g = continues-then _ _ _ c.or.ensures.grows.begins f in
          let before = continues-then _ _ _ c.and.ensures.grows.begins g in
          some-more (λ x. member value c.args.set.now x && edge value c.args.rows.now x c.args.y) i _ _ _
          (c.loop-x.invariant.value later before inputs)
          (c.in_ok-here.ensures.value later g inputs ∙ ap (λ n. member value c.args.set.now i && value n) c.entry.ensures)
          (c.in_ok-found.ensures.value later f inputs);
    }
