use Rattle.pb_int.proofs.Wraps.{wrap_wraps, wrap_only}
use Rattle.pb_int.proofs.law.wrapping.Goals as goal

pub returns-clause-wraps : goal.returns-clause-wraps
returns-clause-wraps c = wrap_wraps

pub returns-clause-only : goal.returns-clause-only
returns-clause-only c = wrap_only
