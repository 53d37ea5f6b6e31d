use Rattle.spec_reading.proofs.ContractWhole.{finds_contracts, gives_contracts, refuses_contracts, refuses_high_contracts}
use Rattle.spec_reading.proofs.contract_law.contracts_are_read.Goals as goal

pub returns-clause-finds : goal.returns-clause-finds
returns-clause-finds c = finds_contracts

pub returns-clause-gives : goal.returns-clause-gives
returns-clause-gives c = gives_contracts

pub returns-clause-refuses : goal.returns-clause-refuses
returns-clause-refuses c = refuses_contracts

pub returns-clause-too_high : goal.returns-clause-too_high
returns-clause-too_high c = refuses_high_contracts
