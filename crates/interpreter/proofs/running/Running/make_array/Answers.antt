use Rattle.heap_arena.specs.declared.cell.Cell.TheVariants as value
use Rattle.evaluation.specs.declared.outcome.Outcome.TheVariants as outcome
use Rattle.evaluation.specs.World.{gives}
use Rattle.interpreter.proofs.Moves.{made_answer, unmade}
use Rattle.interpreter.proofs.running.Running.make_array.Goals as goal

pub returns-in-Object-clause-ok : goal.returns-in-Object-clause-ok
returns-in-Object-clause-ok g c = made_answer _ (λ o. outcome.Value (value.Ref o)) _ _ _ (rw (c.in-Object.is, c.in_ok-copy.ensures) at c.in_ok-o.ensures.ok)

pub returns-in-Ended-clause-ok : goal.returns-in-Ended-clause-ok
returns-in-Ended-clause-ok g c = unmade _ (λ part o. gives (outcome.Value (value.Ref o))) _ _ _ (rw (c.in-Ended.is, c.in_ok-copy.ensures) at c.in_ok-o.ensures.ok)
