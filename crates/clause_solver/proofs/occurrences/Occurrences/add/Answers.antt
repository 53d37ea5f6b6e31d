use Rattle.std.proofs.Common.{rules, w32}
use Rattle.std.specs.Prelude.{FitsSigned}
use Rattle.std.proofs.lemmas.Int.{to_z-of_z}
use Rattle.clause_solver.specs.Assigned.{at}
use Rattle.clause_solver.proofs.OccurrenceLists.{noted-next}
use Rattle.clause_solver.proofs.occurrences.Occurrences.add.Goals as goal

pub loop-literal-preserved : goal.loop-literal-preserved
loop-literal-preserved c =
    let literal = at c.args.literals.now c.loop-literal.literal-index in
    let fits : FitsSigned w32 literal = search rules in
    noted-next _ _ _ c.args.literals.now c.loop-literal.literal-index c.args.number c.loop-literal.invariant (simp (to_z-of_z w32 literal fits) at c.in_ok-push.ensures)
