-- What is claimed of contracts.
use Rattle.std.specs.Prelude.{◌≡◌, ℕ, ◌<◌, ◌≤◌, List, length, Ok, Err}
use Rattle.token_reading.specs.Lexeme.{Lexeme}
use Rattle.token_reading.specs.Outcome.{no_tree, too_high}
use Rattle.spec_trees.specs.declared.contract.ContractTree.{ContractTree}
use Rattle.spec_trees.specs.Clauses.{ContractWithin}
use Rattle.spec_trees.specs.Height.{contract_height}
use Rattle.spec_reading.specs.ReadContract.{read_contract}
use Rattle.spec_reading.specs.ReadTerm.{term_follows}

-- the contract, of some height, is written at the front, and no token that binds to its last term stands after it
abbrev pub ContractStands : ContractTree → List Lexeme → List Lexeme → Type 0
ContractStands c xs rest = (n : ℕ) × ContractWithin n c xs rest × (term_follows rest ≡ 0)

-- no tokens are two contracts
abbrev pub OneContract : Type 0
OneContract = (c d : ContractTree) (xs ys zs : List Lexeme) → ContractStands c xs ys → ContractStands d xs zs → (c ≡ d) × (ys ≡ zs)

-- A contract of height n or less that stands at the front is read.
abbrev pub FindsContracts : Type 0
FindsContracts = (n : ℕ) (c : ContractTree) (xs rest : List Lexeme) → ContractStands c xs rest → contract_height c ≤ n
    → read_contract n xs ≡ Ok (c, rest)

-- What is read is written, and its height is no greater than n.
abbrev pub GivesContracts : Type 0
GivesContracts = (n : ℕ) (c : ContractTree) (xs rest : List Lexeme) → read_contract n xs ≡ Ok (c, rest)
    → ContractWithin n c xs rest × (term_follows rest ≡ 0)

-- Where no tree is read none stands, of whatever height.
abbrev pub RefusesContracts : Type 0
RefusesContracts = (n : ℕ) (c : ContractTree) (xs rest : List Lexeme) → read_contract n xs ≡ Err no_tree → ContractStands c xs rest → ⊥

-- Where trees are too high, each that stands is higher than n, and there are as many tokens at least.
abbrev pub RefusesHighContracts : Type 0
RefusesHighContracts = (n : ℕ) (xs : List Lexeme) → read_contract n xs ≡ Err too_high
    → ((c : ContractTree) (rest : List Lexeme) → ContractStands c xs rest → n < contract_height c) × (n ≤ length xs)

-- The height of a contract is the least number with which it is written, and it is written with each greater one.
abbrev pub ContractHeightIsLeast : Type 0
ContractHeightIsLeast = (n : ℕ) (c : ContractTree) (xs rest : List Lexeme) → ContractWithin n c xs rest
    → (contract_height c ≤ n) × ((m : ℕ) → contract_height c ≤ m → ContractWithin m c xs rest)
