use Rattle.std.proofs.Common.{◌≤◌, length, take}
use Rattle.clause_form.specs.Clauses.{IsFull}
use Rattle.clause_solver.specs.Learning.{AllFalse, MakesClause}
use Rattle.clause_solver.proofs.learn.learn.Given as goal

abbrev pub invariant-back : goal.invariant-back
invariant-back l = record {
  made : MakesClause l.clauses l.conflict l.cuts.items l.clause;
  count : l.below ≤ length l.trail.literals;
  all_false : AllFalse l.clause (take l.below l.trail.literals);
  full : IsFull l.clause;
}

abbrev pub decreases-back : goal.decreases-back
decreases-back l = l.below
