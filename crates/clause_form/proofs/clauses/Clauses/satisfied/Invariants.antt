use Rattle.std.proofs.Common.{◌≡◌, take, true}
use Rattle.std.specs.List.{list_any, All}
use Rattle.clause_form.specs.Clauses.{value, listed}
use Rattle.clause_form.proofs.clauses.Clauses.satisfied.Given as goal

abbrev pub invariant-loop-clause : goal.invariant-loop-clause
invariant-loop-clause l = All (λ c. list_any (value (listed l.assignment)) c ≡ true) (take l.clause-index l.self.clauses.items)
