use Rattle.std.proofs.Common.{◌≡◌, ◌++◌, map, drop}
use Rattle.java_exprs.specs.Checks.{attr, of_values}
use Rattle.java_exprs.proofs.expression.+expressions.Given as goal

abbrev pub invariant-values-loop-e : goal.invariant-values-loop-e
invariant-values-loop-e l = map (attr l.env l.scope) l.list ≡ of_values l.done ++ map (attr l.env l.scope) (drop l.e-index l.list)
