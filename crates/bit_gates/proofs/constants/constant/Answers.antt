use Rattle.std.proofs.Common.{◌≡◌, ◌<◌, ◌^◌, ◌∙◌, ap, arith}
use Rattle.std.specs.Int.{w128}
use Rattle.std.specs.Prelude.{unsigned_abs}
use Rattle.std.proofs.lemmas.Int.{to_z-of_z}
use Rattle.std.proofs.lemmas.Nat.{one_shl}
use Rattle.gate_net.specs.Net.{node_value}
use Rattle.bit_gates.proofs.Comparisons.{constant-value, magnitude, IsPattern, pattern-then, pattern-else}
use Rattle.bit_gates.proofs.constants.constant.Goals as goal
use Rattle.bit_gates.proofs.constants.constant.Goals.{then-n-lt0, else-n-lt0}

pub overflow_shl-pattern : goal.overflow_shl-pattern
overflow_shl-pattern c =
    let is = magnitude c.args.n c.unsigned_abs-most.result c.width-width.result (simp (to_z-of_z w128 c.args.n c.ranges.n) at c.unsigned_abs-most.ensures.value) c.requires c.width-width.ensures.width in
    omega (arith, is.narrow)

pub overflow_sub-pattern : goal.overflow_sub-pattern
overflow_sub-pattern c =
    let is = magnitude c.args.n c.unsigned_abs-most.result c.width-width.result (simp (to_z-of_z w128 c.args.n c.ranges.n) at c.unsigned_abs-most.ensures.value) c.requires c.width-width.ensures.width in
    omega (arith, one_shl c.width-width.result 128 is.narrow, is.below)

pub binary-requires : goal.binary-requires
binary-requires c =
    let z = to_z-of_z w128 c.args.n c.ranges.n in
    let most = c.unsigned_abs-most.result in
    let width = c.width-width.result in
    let is = magnitude c.args.n most width (simp z at c.unsigned_abs-most.ensures.value) c.requires c.width-width.ensures.width in
    let pattern : IsPattern c.args.n most c.if-n-lt0.pattern width = elim c.if-n-lt0.branch [
      | then-n-lt0 w ↦ pattern-then c.args.n most c.if-n-lt0.pattern width (simp z at w.if-n-lt0.true) is w.pattern-is
      | else-n-lt0 w ↦ pattern-else c.args.n most c.if-n-lt0.pattern width (simp z at w.if-n-lt0.false) is w.pattern-is
    ] in
    pattern.below

pub returns-clause-value : goal.returns-clause-value
returns-clause-value c = λ later f inputs.
    let z = to_z-of_z w128 c.args.n c.ranges.n in
    let most = c.unsigned_abs-most.result in
    let width = c.width-width.result in
    let is = magnitude c.args.n most width (simp z at c.unsigned_abs-most.ensures.value) c.requires c.width-width.ensures.width in
    let pattern : IsPattern c.args.n most c.if-n-lt0.pattern width = elim c.if-n-lt0.branch [
      | then-n-lt0 w ↦ pattern-then c.args.n most c.if-n-lt0.pattern width (simp z at w.if-n-lt0.true) is w.pattern-is
      | else-n-lt0 w ↦ pattern-else c.args.n most c.if-n-lt0.pattern width (simp z at w.if-n-lt0.false) is w.pattern-is
    ] in
    constant-value c.args.n c.in_ok-nodes.nodes.items (node_value later inputs) most c.if-n-lt0.pattern is.abs is.small (c.in_ok-nodes.ensures.width ∙ c.width-width.ensures.width) (c.in_ok-nodes.ensures.value later f inputs) pattern.plain (λ h. pattern.turned h ∙ ap (λ n. 2 ^ n) c.width-width.ensures.width)

pub returns-clause-bits : goal.returns-clause-bits
returns-clause-bits c =
    let is = magnitude c.args.n c.unsigned_abs-most.result c.width-width.result (simp (to_z-of_z w128 c.args.n c.ranges.n) at c.unsigned_abs-most.ensures.value) c.requires c.width-width.ensures.width in
    record {
      nodes = c.in_ok-nodes.ensures.nodes;
      width = c.in_ok-nodes.ensures.width ∙ c.width-width.ensures.width;
      within = λ later f inputs. omega (arith, is.abs, ap unsigned_abs (returns-clause-value c later f inputs));
    }
