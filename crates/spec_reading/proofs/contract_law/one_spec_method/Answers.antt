use Rattle.spec_reading.proofs.SpecWhole.{one_spec}
use Rattle.spec_reading.proofs.contract_law.one_spec_method.Goals as goal

pub returns : goal.returns
returns c = one_spec
