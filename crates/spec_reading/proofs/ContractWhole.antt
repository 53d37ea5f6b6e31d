-- What reading says of contracts of any height.
use Rattle.std.proofs.Common.{◌≡◌, ◌∙◌, ℕ, ◌≤◌, ◌<◌, max, List, [], length, Ok, Err, sym, ap, subst, arith}
use Rattle.token_reading.specs.Lexeme.{Lexeme}
use Rattle.token_reading.specs.Outcome.{no_tree, too_high, Outcome}
use Rattle.token_reading.proofs.Steps.{Or, found, higher, Gives, gives, gives_high}
use Rattle.spec_trees.specs.declared.contract.ContractTree.{ContractTree}
use Rattle.spec_trees.specs.Clauses.{ContractWithin}
use Rattle.spec_trees.specs.Height.{contract_height}
use Rattle.spec_reading.specs.ReadContract.{read_contract}
use Rattle.spec_reading.specs.ReadTerm.{term_follows}
use Rattle.spec_reading.specs.ContractLaws.{ContractStands, OneContract, FindsContracts, GivesContracts, RefusesContracts, RefusesHighContracts, ContractHeightIsLeast}
use Rattle.spec_reading.proofs.ContractFound.{contract_or}
use Rattle.spec_reading.proofs.ContractSound.{contract_sound}
use Rattle.spec_reading.proofs.ContractTrees.{contract_at_most, contract_fitting}

abbrev tree_of : ContractTree → Outcome ContractTree → ContractTree
tree_of c (Ok p) = p.0
tree_of c (Err f) = c

abbrev rest_of : Outcome ContractTree → List Lexeme
rest_of (Ok p) = p.1
rest_of (Err f) = []

-- A contract that stands is found within the budget, or it is higher.
stands_found : (n : ℕ) (c : ContractTree) (xs rest : List Lexeme) → ContractStands c xs rest
    → Or (contract_height c) n (read_contract n xs) (Ok (c, rest))
stands_found n c xs rest s =
    contract_or (contract_height c) n c xs rest (contract_fitting s.0 (contract_height c) c xs rest (omega arith) s.1) s.2

finds_by : (n h : ℕ) (o good : Outcome ContractTree) → h ≤ n → Or h n o good → o ≡ good
finds_by n h o good low (found is) = is
finds_by n h o good low (higher high is) = absurd (omega arith)

pub finds_contracts : FindsContracts
finds_contracts n c xs rest s low = finds_by n (contract_height c) _ _ low (stands_found n c xs rest s)

given : (n : ℕ) (c : ContractTree) (xs rest : List Lexeme)
    → Gives (λ d zs. ContractWithin n d xs zs × (term_follows zs ≡ 0)) (n ≤ length xs) (Ok (c, rest))
    → ContractWithin n c xs rest × (term_follows rest ≡ 0)
given n c xs rest (gives a ys w) = w

pub gives_contracts : GivesContracts
gives_contracts n c xs rest is =
    let P : Outcome ContractTree → Type 0 = λ o. Gives (λ d zs. ContractWithin n d xs zs × (term_follows zs ≡ 0)) (n ≤ length xs) o in
    given n c xs rest (subst P is (contract_sound n xs))

none_by : (n h : ℕ) (o : Outcome ContractTree) (p : ContractTree × List Lexeme) → o ≡ Err no_tree → Or h n o (Ok p) → ⊥
none_by n h o p is (found that) = cc
none_by n h o p is (higher high that) = cc

pub refuses_contracts : RefusesContracts
refuses_contracts n c xs rest is s = none_by n (contract_height c) _ _ is (stands_found n c xs rest s)

high_by : (n h : ℕ) (o : Outcome ContractTree) (p : ContractTree × List Lexeme) → o ≡ Err too_high → Or h n o (Ok p) → n < h
high_by n h o p is (found that) = absurd (cc)
high_by n h o p is (higher high that) = high

high_given : (n : ℕ) (xs : List Lexeme)
    → Gives (λ d zs. ContractWithin n d xs zs × (term_follows zs ≡ 0)) (n ≤ length xs) (Err too_high) → n ≤ length xs
high_given n xs (gives_high h) = h

pub refuses_high_contracts : RefusesHighContracts
refuses_high_contracts n xs is =
    let P : Outcome ContractTree → Type 0 = λ o. Gives (λ d zs. ContractWithin n d xs zs × (term_follows zs ≡ 0)) (n ≤ length xs) o in (
      λ c rest s. high_by n (contract_height c) _ _ is (stands_found n c xs rest s),
      high_given n xs (subst P is (contract_sound n xs)),
    )

pub one_contract : OneContract
one_contract c d xs ys zs s t =
    let n = max (contract_height c) (contract_height d) in
    let p = finds_contracts n c xs ys s (omega arith) in
    let q = finds_contracts n d xs zs t (omega arith) in
    (ap (tree_of c) (sym p ∙ q), ap rest_of (sym p ∙ q))

pub contract_height_is_least : ContractHeightIsLeast
contract_height_is_least n c xs rest w = (contract_at_most n c xs rest w, λ m low. contract_fitting n m c xs rest low w)
