use Rattle.pb_int.proofs.Quotients.{truncates}
use Rattle.pb_int.proofs.law.rounding.Goals as goal

pub returns-clause-truncated : goal.returns-clause-truncated
returns-clause-truncated c = truncates
