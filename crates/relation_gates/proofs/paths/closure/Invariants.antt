use Rattle.std.proofs.Common.{◌<◌, ◌*◌, ◌↔◌, ℕ, length}
use Rattle.std.specs.Prelude.{IsTrue}
use Rattle.gate_net.specs.Net.{Always, Grows}
use Rattle.relation_gates.specs.Relations.{edge, IsMatrix, IsPath}
use Rattle.relation_gates.proofs.paths.closure.Given as goal

abbrev pub invariant-loop-k : goal.invariant-loop-k
invariant-loop-k l = record {
  grows : Grows (2 * length l.r * length l.r * l.k) l.fn.net l.net;
  matrix : IsMatrix l.net (length l.r) l.paths;
  value : Always l.net (λ value. (x z : ℕ) → x < length l.r → z < length l.r
      → IsTrue (edge value l.paths x z) ↔ IsPath (edge value l.r) l.k x z);
}
