use Rattle.std.proofs.Common.{◌+◌, ◌*◌, ◌||◌, ◌&&◌, ◌∙◌, length, arith, ap}
use Rattle.gate_net.specs.Net.{node_value}
use Rattle.gate_net.proofs.Growth.{grows_chain, continues-then}
use Rattle.relation_gates.specs.Relations.{member}
use Rattle.relation_gates.proofs.Rows.{nodes-push, size-push, member-next}
use Rattle.relation_gates.proofs.paths.row_by_way_of.Goals as goal

pub loop-z-preserved : goal.loop-z-preserved
loop-z-preserved c =
    let i = c.loop-z.z in
    let old = c.nodes-old.result.now in
    let on = c.nodes-on.result.now in
    let done = c.loop-z.nodes.items in
    let node = c.in_ok-or.field-0 in
    let pushed = c.in_ok-push.ensures.items in
    let both = grows_chain 1 1 2 _ _ _ c.and.ensures.grows c.or.ensures.grows (omega arith) in
    record {
      grows = grows_chain (2 * i) 2 (2 * (i + 1)) _ _ _ c.loop-z.invariant.grows both (omega arith);
      width = size-push done c.push.new.self.items node i pushed c.loop-z.invariant.width;
      nodes = nodes-push c.loop-z.net c.or.new.self done c.push.new.self.items node pushed both.begins c.loop-z.invariant.nodes c.in_ok-or.ensures.node;
      value = λ later f inputs.
          let value = node_value later inputs in
          let g = continues-then _ _ _ c.or.ensures.grows.begins f in
          member-next value done c.push.new.self.items node i (λ z. member value old z || (member value old c.args.k && member value on z)) pushed c.loop-z.invariant.width
          (c.loop-z.invariant.value later (continues-then _ _ _ c.and.ensures.grows.begins g) inputs)
          (c.in_ok-or.ensures.value later f inputs ∙ ap (λ b. member value old i || b) (c.in_ok-through.ensures.value later g inputs));
    }

pub returns-in_err-push-clause-grows : goal.returns-in_err-push-clause-grows
returns-in_err-push-clause-grows c =
    let i = c.loop-z.z in
    let both = grows_chain 1 1 2 _ _ _ c.and.ensures.grows c.or.ensures.grows (omega arith) in
    grows_chain (2 * i) 2 (2 * length c.args.row.now) _ _ _ c.loop-z.invariant.grows both (omega (arith, ap length c.nodes-old.ensures))
