use Rattle.spec_reading.proofs.ContractWhole.{contract_height_is_least}
use Rattle.spec_reading.proofs.contract_law.contract_height_is_least.Goals as goal

pub returns : goal.returns
returns c = contract_height_is_least
