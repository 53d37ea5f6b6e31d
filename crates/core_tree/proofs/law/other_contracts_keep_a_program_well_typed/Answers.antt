use Rattle.core_tree.proofs.OtherPrograms.{stays_well_typed}
use Rattle.core_tree.proofs.law.other_contracts_keep_a_program_well_typed.Goals as goal

pub returns : goal.returns
returns c p contracts w new = stays_well_typed p contracts w new
