use Rattle.interpreter.specs.Functions.{messaged}
use Rattle.interpreter.proofs.Moves.{unmade}
use Rattle.interpreter.proofs.running.Running.new_built_in.Goals as goal

pub returns-in-Ended-clause-ok : goal.returns-in-Ended-clause-ok
returns-in-Ended-clause-ok g c = unmade _ (λ part o. messaged part o c.args.message.now) _ _ _ (rw c.in-Ended.is at c.in_ok-o.ensures.ok)
