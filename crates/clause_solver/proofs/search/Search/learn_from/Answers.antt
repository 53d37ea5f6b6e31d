use Rattle.std.proofs.Common.{refl, arith}
use Rattle.clause_solver.proofs.Returning.{latest-named, latest-at_levels}
use Rattle.clause_solver.proofs.search.Search.learn_from.Goals as goal

pub insert-requires-clause-named : goal.insert-requires-clause-named
insert-requires-clause-named c = λ m h.
    let facts = c.in_ok-learned.ensures in
    let named = latest-named c.args.self.now.trail facts.consistent c.in_ok-learned.learned.clause c.in_ok-learned.learned.latest facts.latest m h in
    (named.0, omega (arith, named.1, c.in_ok-backjump.ensures.variables))

pub insert-requires-clause-at_levels : goal.insert-requires-clause-at_levels
insert-requires-clause-at_levels c =
    let facts = c.in_ok-learned.ensures in
    latest-at_levels c.args.self.now.trail facts.consistent c.in_ok-learned.learned.clause c.in_ok-learned.learned.latest facts.latest _ _ refl c.in_ok-backjump.ensures.back
