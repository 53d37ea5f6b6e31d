use Rattle.std.proofs.Common.{◌≡◌, ℕ, ◌+◌, ◌<◌, length}
use Rattle.std.specs.Prelude.{slice_index}
use Rattle.std.specs.List.{All}
use Rattle.clause_solver.specs.Propagation.{IsPropagated, AreReasons, KeepsDecisions, Extends}
use Rattle.clause_solver.specs.Learning.{clause_at}
use Rattle.clause_solver.proofs.propagate.propagate_one.Given as goal

abbrev pub invariant-loop-number : goal.invariant-loop-number
invariant-loop-number l = record {
  variables : l.trail.variables ≡ l.fn.trail.variables;
  grown : Extends l.fn.trail.literals l.trail.literals;
  paired : length l.reasons.items ≡ length l.trail.literals;
  reasons : AreReasons l.clauses l.trail.literals l.reasons.items;
  decisions : KeepsDecisions l.fn.reasons.items l.reasons.items;
  propagated : All (IsPropagated l.head l.trail.literals) l.clauses;
  visited : (j : ℕ) → j < l.number-index
      → IsPropagated (l.head + 1) l.trail.literals (clause_at l.clauses (slice_index l.occurrences j));
}
