use Rattle.std.proofs.Common.{◌≡◌, [], take}
use Rattle.clause_solver.specs.Searching.{IsSearch}
use Rattle.clause_solver.proofs.solver.start.Given as goal

-- the search has the clauses so far
abbrev pub invariant-loop-clause : goal.invariant-loop-clause
invariant-loop-clause l = record {
  kept : IsSearch l.search;
  variables : l.search.trail.variables ≡ l.clauses.variables;
  clauses : l.search.clauses.items ≡ take l.clause-index l.clauses.clauses.items;
  levels : l.search.levels.items ≡ [];
}
