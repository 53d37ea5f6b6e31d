use Rattle.std.proofs.Common.{arith}
use Rattle.clause_solver.proofs.search.Search.descend.Goals as goal

pub loop-self-smaller : goal.loop-self-smaller
loop-self-smaller c =
    omega (arith, c.in_ok-decide.ensures.few, c.in_ok-decide.ensures.longer, c.in_ok-decide.ensures.continues.variables, c.in_ok-propagate.ensures.continues.variables, c.in_ok-propagate.ensures.continues.longer)
