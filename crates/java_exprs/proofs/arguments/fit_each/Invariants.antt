use Rattle.std.proofs.Common.{◌≡◌, length}
use Rattle.java_exprs.specs.Checks.{of_values}
use Rattle.java_exprs.specs.Rules.{wants_each}
use Rattle.java_exprs.proofs.arguments.fit_each.Given as goal

abbrev pub invariant-loop-given : goal.invariant-loop-given
invariant-loop-given l = wants_each l.env (of_values l.fn.given) l.fn.params ≡ wants_each l.env (of_values l.given) l.params

abbrev pub decreases-loop-given : goal.decreases-loop-given
decreases-loop-given l = length l.given
