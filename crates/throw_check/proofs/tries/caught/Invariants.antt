use Rattle.std.proofs.Common.{◌≡◌, ◌++◌, drop}
use Rattle.throw_check.specs.Walks.{classes_of}
use Rattle.throw_check.proofs.tries.caught.Given as goal

abbrev pub invariant-loop-clause : goal.invariant-loop-clause
invariant-loop-clause l = classes_of l.symbols l.clauses ≡ l.classes ++ classes_of l.symbols (drop l.clause-index l.clauses)
