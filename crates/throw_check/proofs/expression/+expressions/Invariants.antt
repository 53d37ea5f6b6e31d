use Rattle.std.proofs.Common.{◌≡◌, drop, flat_map}
use Rattle.throw_check.specs.Points.{expr_points}
use Rattle.throw_check.specs.Walks.{faults_left}
use Rattle.throw_check.proofs.expression.+expressions.Given as goal

abbrev pub invariant-each-loop-e : goal.invariant-each-loop-e
invariant-each-loop-e l =
    faults_left l.symbols l.handlers (flat_map (expr_points l.symbols l.scope) l.list)
    ≡ faults_left l.symbols l.handlers (flat_map (expr_points l.symbols l.scope) (drop l.e-index l.list))
