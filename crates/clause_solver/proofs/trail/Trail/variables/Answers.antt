use Rattle.std.proofs.Common.{subst}
use Rattle.clause_solver.specs.Assigned.{IsConsistent}
use Rattle.clause_solver.proofs.Noted.{consistent_trail}
use Rattle.clause_solver.proofs.trail.Trail.variables.Goals as goal

pub returns-clause-consistent : goal.returns-clause-consistent
returns-clause-consistent c = subst (λ a. IsConsistent a) c.self.view_is (consistent_trail c.self.inside.literals.items c.self.inside.places.items c.self.invariant)
