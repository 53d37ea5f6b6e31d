use Rattle.spec_reading.proofs.SpecWhole.{spec_height_is_least}
use Rattle.spec_reading.proofs.contract_law.spec_height_is_least.Goals as goal

pub returns : goal.returns
returns c = spec_height_is_least
