use Rattle.std.proofs.Common.{◌≡◌, ℕ, ◌<◌, false, get_or}
use Rattle.java_tokens.specs.declared.operator.TheConstants.{OPERATORS}
use Rattle.java_tokens.specs.declared.token.Operator.TheVariants.{LeftParen}
use Rattle.java_tokens.specs.Spelling.{operator_text}
use Rattle.java_tokens.specs.Reading.{starts_with}
use Rattle.java_tokens.proofs.token.Operator.at_front.Given as goal

abbrev pub invariant-loop-operator : goal.invariant-loop-operator
invariant-loop-operator l = (i : ℕ) → i < l.operator-index → starts_with l.characters (operator_text (get_or OPERATORS i LeftParen)) ≡ false
