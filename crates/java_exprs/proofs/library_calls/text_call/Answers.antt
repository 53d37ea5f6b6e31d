use Rattle.java_exprs.proofs.CallLemmas.{text_clean}
use Rattle.java_exprs.proofs.library_calls.text_call.Goals as goal

pub returns : goal.returns
returns c =
    text_clean c.args.env.now c.args.o c.args.m.now _ _ _ c.in_ok-check_text.ensures.text c.text_answer-ty.ensures c.in_ok-core.ensures
    (rw c.as_slice.ensures at c.in_ok-check_text.ensures.allowed)
