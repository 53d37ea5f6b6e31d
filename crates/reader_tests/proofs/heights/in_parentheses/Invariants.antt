use Rattle.std.proofs.Common.{◌≡◌, ◌+◌}
use Rattle.java_syntax.specs.Height.{expr_height}
use Rattle.reader_tests.proofs.heights.in_parentheses.Given as goal

abbrev pub invariant-loop-pair : goal.invariant-loop-pair
invariant-loop-pair l = expr_height l.expr ≡ l._pair + 1
