-- A program with other contracts for its methods.
use Rattle.std.specs.Prelude.{Bool, true, ◌&&◌, List, [], ◌∷◌, Option, slice_get, is_none}
use Rattle.std.specs.Option.{option_map_or}
use Rattle.core_tree.specs.declared.contract.Contract.{Contract}
use Rattle.core_tree.specs.declared.program.Class.{Class}
use Rattle.core_tree.specs.declared.program.Method.{Method}
use Rattle.core_tree.specs.declared.program.Program.{Program}
use Rattle.core_tree.specs.TypedContracts.{is_contract}

-- the methods, each with the contract at its place in the list, or with none; a method beyond the list keeps its own
abbrev pub methods_with : List Method → List (Option Contract) → List Method
methods_with [] contracts = []
methods_with (m ∷ methods) [] = m ∷ methods
methods_with (m ∷ methods) (k ∷ contracts) = record m { contract = k } ∷ methods_with methods contracts

-- the program with these contracts for its methods, by their numbers
abbrev pub with_contracts : Program → List (Option Contract) → Program
with_contracts p contracts = record p { methods = methods_with p.methods contracts }

-- each contract is well typed for the method at its place
abbrev pub fit_methods : List Class → List Method → List (Option Contract) → Bool
fit_methods classes [] contracts = true
fit_methods classes (m ∷ methods) [] = true
fit_methods classes (m ∷ methods) (k ∷ contracts) = option_map_or (is_contract classes m) k true && fit_methods classes methods contracts

-- the contracts are well typed for the methods of the program, and the method that a run begins with gets none
abbrev pub are_contracts : Program → List (Option Contract) → Bool
are_contracts p contracts = fit_methods p.classes p.methods contracts && option_map_or is_none (slice_get contracts p.main) true
