use Rattle.std.proofs.Common.{refl, sym}
use Rattle.java_reading.specs.ReadStmt.{otherwise}
use Rattle.token_reading.proofs.Sequence.{failed, first, kept, taken}
use Rattle.java_parse.proofs.statements.Statements.otherwise.Goals as goal

pub returns-else-eat_word : goal.returns-else-eat_word
unfolding otherwise
returns-else-eat_word g c =
    rw (sym c.if-eat_word.ensures.found, kept _ _ _ _ c.if-eat_word.ensures.found c.if-eat_word.ensures.after) refl

pub returns-in_err-part : goal.returns-in_err-part
unfolding otherwise
returns-in_err-part g c =
    failed _ _ _ _ c.from_residual.ensures.1 (rw (sym c.if-eat_word.ensures.found, taken _ _ _ _ c.if-eat_word.ensures.found c.if-eat_word.ensures.after) (first _ _ _ c.in_err-part.ensures))

pub returns-in_ok-part : goal.returns-in_ok-part
unfolding otherwise
returns-in_ok-part g c =
    rw (sym c.if-eat_word.ensures.found, taken _ _ _ _ c.if-eat_word.ensures.found c.if-eat_word.ensures.after, c.in_ok-part.ensures) refl
