use Rattle.clause_solver.proofs.solver.solve.Goals as goal

pub search-requires-clause-full : goal.search-requires-clause-full
search-requires-clause-full c = rw c.as_slice.ensures.value at c.in-None.ensures.none
