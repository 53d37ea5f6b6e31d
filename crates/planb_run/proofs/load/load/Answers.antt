use Rattle.std.proofs.Common.{Err, ap}
use Rattle.std.proofs.lemmas.Result.{err_from_is_err_and}
use Rattle.planb_run.proofs.Loading.{unread}
use Rattle.planb_run.proofs.load.load.Goals as goal

pub returns-in_err-bytes-clause-err : goal.returns-in_err-bytes-clause-err
returns-in_err-bytes-clause-err g c =
    let told = c.in_err-bytes.ensures in
    let p = err_from_is_err_and c.from_residual.result c.from_residual.ensures.1 in
    rw (p.1, p.2) (unread (g.F.Files.state c.args.files.now) c.args.file.now _
    (λ e. told.too_long_there (ap Err e)) (λ e. told.too_long (ap Err e)))
