use Rattle.std.proofs.Common.{◌≡◌, max, map, drop}
use Rattle.token_reading.specs.Height.{highest}
use Rattle.java_syntax.specs.Height.{stmt_height, catch_height}
use Rattle.java_syntax.proofs.+statement_height.Given as goal

abbrev pub invariant-height::highest_statement-loop-statement : goal.invariant-height::highest_statement-loop-statement
invariant-height::highest_statement-loop-statement l =
    max l.height (highest (map stmt_height (drop l.statement-index l.statements))) ≡ highest (map stmt_height l.statements)

abbrev pub invariant-height::highest_clause-loop-clause : goal.invariant-height::highest_clause-loop-clause
invariant-height::highest_clause-loop-clause l =
    max l.height (highest (map catch_height (drop l.clause-index l.clauses))) ≡ highest (map catch_height l.clauses)
