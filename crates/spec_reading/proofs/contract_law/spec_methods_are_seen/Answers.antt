use Rattle.spec_reading.proofs.Lookahead.{sees_specs, specs_begin_so}
use Rattle.spec_reading.proofs.contract_law.spec_methods_are_seen.Goals as goal

pub returns-clause-sees : goal.returns-clause-sees
returns-clause-sees c = sees_specs

pub returns-clause-begins : goal.returns-clause-begins
returns-clause-begins c = specs_begin_so
