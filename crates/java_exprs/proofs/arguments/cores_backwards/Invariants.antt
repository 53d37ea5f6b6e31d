use Rattle.std.proofs.Common.{◌≡◌, ◌++◌, map, reverse, length}
use Rattle.java_exprs.proofs.arguments.cores_backwards.Given as goal

abbrev pub invariant-loop-value : goal.invariant-loop-value
invariant-loop-value l = reverse (map (λ v. v.core) l.fn.given) ≡ l.cores.items ++ reverse (map (λ v. v.core) l.given)

abbrev pub decreases-loop-value : goal.decreases-loop-value
decreases-loop-value l = length l.given
