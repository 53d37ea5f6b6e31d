use Rattle.std.proofs.Common.{refl}
use Rattle.java_reading.specs.ReadStmt.{do_stmt}
use Rattle.token_reading.proofs.Sequence.{failed, first}
use Rattle.java_parse.proofs.statements.Statements.do_stmt.Goals as goal

pub returns-in_err-expect_word : goal.returns-in_err-expect_word
unfolding do_stmt
returns-in_err-expect_word g c =
    failed _ _ _ _ c.from_residual-in_err-expect_word.ensures.1
    (rw c.in_ok-body.ensures (first _ _ _ c.in_err-expect_word.ensures))

pub returns-in_err-condition : goal.returns-in_err-condition
unfolding do_stmt
returns-in_err-condition g c =
    failed _ _ _ _ c.from_residual-in_err-condition.ensures.1
    (rw (c.in_ok-body.ensures, c.in_ok-expect_word.ensures) (first _ _ _ c.in_err-condition.ensures))

pub returns-in_err-expect : goal.returns-in_err-expect
unfolding do_stmt
returns-in_err-expect g c =
    failed _ _ _ _ c.from_residual-in_err-expect.ensures.1
    (rw (c.in_ok-body.ensures, c.in_ok-expect_word.ensures, c.in_ok-condition.ensures) (first _ _ _ c.in_err-expect.ensures))

pub returns : goal.returns
unfolding do_stmt
returns g c =
    rw (c.in_ok-body.ensures, c.in_ok-expect_word.ensures, c.in_ok-condition.ensures, c.in_ok-expect.ensures, c.in_ok-do_node.ensures) refl
