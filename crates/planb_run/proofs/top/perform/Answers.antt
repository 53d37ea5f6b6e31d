use Rattle.std.proofs.Common.{refl, sym}
use Rattle.pb_io.proofs.Counts.{Counts-ok}
use Rattle.planb_run.specs.Words.{command_of}
use Rattle.planb_run.proofs.Obeying.{obeys-run, obeys-refused}
use Rattle.planb_run.proofs.PlainWords.{texts_of}
use Rattle.planb_run.proofs.top.perform.Goals as goal

pub returns-in-Err : goal.returns-in-Err
returns-in-Err g c =
    obeys-refused _ _ _ (command_of c.in-Some.command) (sym c.in-Some.ensures) c.load.ensures.names c.in-Err.stop refl c.in-Err.ensures.err c.in-Err.ensures.faults

pub returns : goal.returns
returns g c =
    let executed = rw (texts_of c.in-Some.command.arguments.now) at c.execute-executed.ensures in
    obeys-run _ _ _ (command_of c.in-Some.command) (sym c.in-Some.ensures) c.load.ensures.names c.in-Ok.program
    c.execute-executed.result.stop c.execute-executed.result.steps c.in-Ok.ensures.ok (Counts-ok _ _ _ _ c.in-Ok.ensures.faults) executed
