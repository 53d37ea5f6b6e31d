use Rattle.spec_reading.proofs.TermWhole.{term_height_is_least}
use Rattle.spec_reading.proofs.term_law.term_height_is_least.Goals as goal

pub returns : goal.returns
returns c = term_height_is_least
