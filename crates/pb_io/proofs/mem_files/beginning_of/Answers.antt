use Rattle.std.proofs.Common.{sym}
use Rattle.pb_io.proofs.Places.{rest_at-found, bytes_of-absent}
use Rattle.pb_io.proofs.mem_files.beginning_of.Goals as goal

pub returns-in-Some-clause-rest : goal.returns-in-Some-clause-rest
returns-in-Some-clause-rest c = rest_at-found c.args.files.now c.args.name.now _ (sym c.in-Some.ensures)

pub returns-in-None-clause-rest : goal.returns-in-None-clause-rest
returns-in-None-clause-rest c = sym (bytes_of-absent c.args.files.now c.args.name.now (sym c.in-None.ensures))
