use Rattle.java_exprs.proofs.CleanLemmas.{call_clean}
use Rattle.java_exprs.proofs.calls.called.Goals as goal

pub returns : goal.returns
returns c =
    call_clean c.args.env.now c.args.scope.now c.args.receiver c.args.object c.args.m.now c.args.arguments c.as_slice.result.now
    c.in_ok-found.found.now c.get.result.now c.in_ok-denotes.denotes c.in_ok-core.core
    c.as_slice.ensures c.in_ok-found.ensures.found c.in_ok-found.ensures.fits c.get.ensures c.in_ok-denotes.ensures c.in_ok-core.ensures.call
