use Rattle.std.proofs.Common.{◌≡◌, ◌-◌, None}
use Rattle.clause_solver.specs.Searching.{IsSearch, SearchesOn}
use Rattle.clause_solver.proofs.search.Search.propagate.Given as goal

abbrev pub invariant-loop-self : goal.invariant-loop-self
invariant-loop-self l = record {
  kept : IsSearch l.self;
  quiet : l.self.conflict ≡ None;
  continues : SearchesOn l.fn.self l.self;
}

abbrev pub decreases-loop-self : goal.decreases-loop-self
decreases-loop-self l = l.self.trail.variables - l.self.head
