use Rattle.spec_reading.proofs.ContractWhole.{one_contract}
use Rattle.spec_reading.proofs.contract_law.one_contract.Goals as goal

pub returns : goal.returns
returns c = one_contract
