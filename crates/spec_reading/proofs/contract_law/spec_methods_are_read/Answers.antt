use Rattle.spec_reading.proofs.SpecWhole.{finds_specs, gives_specs, refuses_specs, refuses_high_specs}
use Rattle.spec_reading.proofs.contract_law.spec_methods_are_read.Goals as goal

pub returns-clause-finds : goal.returns-clause-finds
returns-clause-finds c = finds_specs

pub returns-clause-gives : goal.returns-clause-gives
returns-clause-gives c = gives_specs

pub returns-clause-refuses : goal.returns-clause-refuses
returns-clause-refuses c = refuses_specs

pub returns-clause-too_high : goal.returns-clause-too_high
returns-clause-too_high c = refuses_high_specs
