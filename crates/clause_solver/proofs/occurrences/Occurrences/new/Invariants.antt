use Rattle.std.proofs.Common.{◌≡◌, ℕ, length, []}
use Rattle.clause_solver.specs.Occurrences.{numbers_in}
use Rattle.clause_solver.proofs.occurrences.Occurrences.new.Given as goal

abbrev pub invariant-loop : goal.invariant-loop
invariant-loop l = record {
  size : length l.lists.items ≡ l.counter;
  empty : (q : ℕ) → numbers_in l.lists.items q ≡ [];
}
