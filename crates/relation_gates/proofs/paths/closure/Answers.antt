use Rattle.std.proofs.Common.{◌≡◌, ◌<◌, ◌+◌, ◌*◌, length, arith, sym, ap, subst, refl, true, ◌↔◌}
use Rattle.gate_net.specs.Net.{Grows, node_value}
use Rattle.gate_net.proofs.Growth.{grows-same, grows_chain, continues-then}
use Rattle.relation_gates.specs.Relations.{edge, IsMatrix}
use Rattle.relation_gates.specs.Relations.{IsPath}
use Rattle.relation_gates.proofs.Warshall.{path-none, path-next}
use Rattle.relation_gates.proofs.Rows.{turn_more}
use Rattle.relation_gates.proofs.paths.closure.Goals as goal

pub loop-k-init : goal.loop-k-init
loop-k-init c =
    let same = c.in_ok-paths.ensures in
    let r = c.args.r.now in
    record {
      grows = grows-same _ _ _ refl;
      matrix = subst (IsMatrix c.args.net.now (length r)) (sym same) c.requires.relation;
      value = λ later f inputs x z h k.
          let value = node_value later inputs in
          subst (λ m. (edge value m x z ≡ true) ↔ IsPath (edge value r) 0 x z) (sym same) (path-none (edge value r) x z);
    }

pub loop-k-preserved : goal.loop-k-preserved
loop-k-preserved c =
    let i = c.loop-k.k in
    let r = c.args.r.now in
    let u = length r in
    let paths = c.loop-k.paths in
    let after = c.by_way_of.new.net in
    let size : length paths ≡ u = c.loop-k.invariant.matrix.height in
    let l : i < u = omega (arith, ap length c.rows-k-end.ensures) in
    record {
      grows = grows_chain (2 * u * u * i) (2 * u * u) (2 * u * u * (i + 1)) _ _ _ c.loop-k.invariant.grows (subst (λ n. Grows (2 * n * n) c.loop-k.net after) size c.by_way_of.ensures.grows) (omega (arith, turn_more (2 * u * u) i));
      matrix = subst (λ n. IsMatrix after n c.in_ok-paths-2.paths) size c.in_ok-paths-2.ensures.matrix;
      value = λ later f inputs x z h k.
          let value = node_value later inputs in
          let before = c.loop-k.invariant.value later (continues-then _ _ _ c.by_way_of.ensures.grows.begins f) inputs in
          path-next (edge value r) i x z (edge value paths x z) (edge value paths x i) (edge value paths i z) (edge value c.in_ok-paths-2.paths x z)
          (before x z h k) (before x i h l) (before i z l k)
          (c.in_ok-paths-2.ensures.value later f inputs x z (omega (arith, size)) (omega (arith, size)));
    }
