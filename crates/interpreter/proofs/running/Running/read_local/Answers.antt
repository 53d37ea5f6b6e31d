use Rattle.std.proofs.Common.{false, refl, sym}
use Rattle.interpreter.proofs.Moves.{stays}
use Rattle.interpreter.proofs.running.Running.read_local.Goals as goal

pub returns-in_ok-copy-in-Some-clause-ok : goal.returns-in_ok-copy-in-Some-clause-ok
returns-in_ok-copy-in-Some-clause-ok g c = stays false _ _ _ _ tt refl refl refl refl (λ k f J. rw (sym c.in-Some.ensures.value, c.in_ok-copy-in-Some.ensures.value) refl)
