use Rattle.java_reading.proofs.Whole.{finds_expressions, gives_expressions, refuses_expressions, refuses_high_ones}
use Rattle.java_reading.proofs.expression_law.expressions_are_read.Goals as goal

pub returns-clause-finds : goal.returns-clause-finds
returns-clause-finds c = finds_expressions

pub returns-clause-gives : goal.returns-clause-gives
returns-clause-gives c = gives_expressions

pub returns-clause-refuses : goal.returns-clause-refuses
returns-clause-refuses c = refuses_expressions

pub returns-clause-too_high : goal.returns-clause-too_high
returns-clause-too_high c = refuses_high_ones
