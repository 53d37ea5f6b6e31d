use Rattle.interpreter.proofs.running.Running.stop.Goals as goal

pub returns-in-Ok : goal.returns-in-Ok
returns-in-Ok g c = rw c.in-Ok.is c.stop_of.ensures
