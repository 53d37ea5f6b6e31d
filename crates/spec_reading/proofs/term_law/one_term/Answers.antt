use Rattle.spec_reading.proofs.TermWhole.{one_term}
use Rattle.spec_reading.proofs.term_law.one_term.Goals as goal

pub returns : goal.returns
returns c = one_term
