use Rattle.std.proofs.Common.{take}
use Rattle.clause_solver.specs.Occurrences.{Noted}
use Rattle.clause_solver.proofs.occurrences.Occurrences.add.Given as goal

abbrev pub invariant-loop-literal : goal.invariant-loop-literal
invariant-loop-literal l = Noted l.fn.self.lists.items l.self.lists.items (take l.literal-index l.literals) l.number
