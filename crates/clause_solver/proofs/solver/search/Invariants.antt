use Rattle.std.proofs.Common.{◌≡◌}
use Rattle.clause_solver.specs.Searching.{IsSearch}
use Rattle.clause_solver.specs.Solving.{IsLog}
use Rattle.clause_solver.proofs.solver.search.Given as goal

abbrev pub invariant-loop : goal.invariant-loop
invariant-loop l = record {
  kept : IsSearch l.search;
  variables : l.search.trail.variables ≡ l.clauses.variables;
  run : IsLog l.clauses.clauses.items l.search.clauses.items l.log.items l.counter;
}
