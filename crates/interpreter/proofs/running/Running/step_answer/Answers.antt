use Rattle.std.proofs.Common.{arith, refl}
use Rattle.std.proofs.lemmas.Result.{err_from_is_err_and}
use Rattle.interpreter.proofs.Steps.{ends_answer, stops}
use Rattle.interpreter.proofs.running.Running.step_answer.Goals as goal

pub returns-in-None : goal.returns-in-None
returns-in-None g c = λ sink. ends_answer _ _ _ sink c.requires.within c.in-None.ensures.0 refl refl refl refl

pub returns-in_ok-resume-in-Some : goal.returns-in_ok-resume-in-Some
returns-in_ok-resume-in-Some g c = λ sink. c.in_ok-resume-in-Some.ensures.ok _ sink (rw c.in-Some.ensures refl)

pub returns-in_err-resume-in-Some : goal.returns-in_err-resume-in-Some
returns-in_err-resume-in-Some g c =
    let p = err_from_is_err_and c.from_residual.result c.from_residual.ensures.1 in
    let fails = c.in_err-resume-in-Some.ensures.err in
    rw (p.1, p.2) (λ sink. stops _ _ _ sink (omega (arith, fails.taken)) (omega (arith, fails.taken, c.requires.within)))
