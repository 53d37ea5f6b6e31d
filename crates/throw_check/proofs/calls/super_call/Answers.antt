use Rattle.std.proofs.Common.{sym}
use Rattle.throw_check.proofs.CallLemmas.{super_points}
use Rattle.throw_check.proofs.calls.super_call.Goals as goal

pub returns-in-Some-clause-handled : goal.returns-in-Some-clause-handled
returns-in-Some-clause-handled c =
    rw (super_points c.args.symbols.now c.args.scope.now c.args.at c.args.m.now c.args.arguments.now c.in-Some.class (sym c.in-Some.ensures)) c.called.ensures.handled
