use Rattle.std.proofs.Common.{◌≡◌, max, map, drop}
use Rattle.token_reading.specs.Height.{highest}
use Rattle.java_syntax.specs.Height.{expr_height}
use Rattle.java_syntax.proofs.+expression_height.Given as goal

abbrev pub invariant-height::highest_expression-loop-expression : goal.invariant-height::highest_expression-loop-expression
invariant-height::highest_expression-loop-expression l =
    max l.height (highest (map expr_height (drop l.expression-index l.expressions))) ≡ highest (map expr_height l.expressions)
