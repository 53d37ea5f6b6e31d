use Rattle.std.proofs.lemmas.Result.{IfOk-weaker}
use Rattle.interpreter.specs.Functions.{new_from}
use Rattle.interpreter.proofs.Moves.{news, unmade}
use Rattle.interpreter.proofs.running.Running.new_instance.Goals as goal

pub returns-in-Object-clause-ok : goal.returns-in-Object-clause-ok
returns-in-Object-clause-ok g c =
    IfOk-weaker c.arguments.result _ _ (λ y mv. news _ _ _ _ c.args.k c.in-Object.o c.args.given.now c.as_slice.result.now c.new-got.result y (rw c.in-Object.is at c.in_ok-o.ensures.ok) c.as_slice.ensures c.new-got.ensures mv) c.arguments.ensures.ok

pub returns-in-Ended-clause-ok : goal.returns-in-Ended-clause-ok
returns-in-Ended-clause-ok g c = unmade _ (λ part. new_from c.args.self.now.program.now part c.args.k c.args.given.now) _ _ _ (rw c.in-Ended.is at c.in_ok-o.ensures.ok)
