use Rattle.std.proofs.Common.{◌≡◌, take}
use Rattle.std.specs.List.{All}
use Rattle.clause_form.specs.Clauses.{IsFull}
use Rattle.clause_solver.proofs.solver.first_empty.Given as goal

-- the clauses so far aren't empty
abbrev pub invariant-loop-clause : goal.invariant-loop-clause
invariant-loop-clause l = record {
  count : l.number ≡ l.clause-index;
  full : All IsFull (take l.clause-index l.clauses);
}
