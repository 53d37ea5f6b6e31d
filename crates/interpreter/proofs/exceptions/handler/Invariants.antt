use Rattle.std.proofs.Common.{◌≡◌, drop}
use Rattle.evaluation.specs.Execute.{handler}
use Rattle.interpreter.proofs.exceptions.handler.Given as goal

abbrev pub invariant-loop-clause : goal.invariant-loop-clause
invariant-loop-clause l = handler l.fn.program (drop l.clause-index l.fn.clauses) l.fn.class ≡ handler l.fn.program l.fn.clauses l.fn.class
