-- The height of a contract or spec method is the least number with which it is written, and it is written with each
-- greater one.
use Rattle.std.proofs.Common.{ℕ, zero, suc, ◌≤◌, List, [], ◌∷◌, map, arith}
use Rattle.token_reading.specs.Height.{highest}
use Rattle.token_reading.specs.Lexeme.{Lexeme}
use Rattle.spec_trees.specs.declared.contract.ContractTree.{ContractTree}
use Rattle.spec_trees.specs.declared.contract.SpecTree.{SpecTree}
use Rattle.spec_trees.specs.declared.term.TermTree.{TermTree}
use Rattle.spec_trees.specs.declared.word.ContractWord.{ContractWord}
use Rattle.spec_trees.specs.declared.word.ContractWord.TheVariants as word
use Rattle.spec_trees.specs.Clauses.{MoreItems, ListClause, IsPlace, ContractWithin, SpecWithin}
use Rattle.spec_trees.specs.Height.{term_height, contract_height, spec_height}
use Rattle.spec_trees.specs.Terms.{TermWithin}
use Rattle.spec_reading.proofs.TermTrees.{term_positive, term_at_most, term_fitting}

-- ---- places

more_low : (n : ℕ) (all : List TermTree) (xs rest : List Lexeme) → MoreItems (IsPlace (TermWithin n)) all xs rest → highest (map term_height all) ≤ n
more_low n [] xs rest w = omega arith
more_low n (a ∷ more) xs rest w = omega (arith, term_at_most n a 11 w.0 w.2 w.3, more_low n more w.2 rest w.4)

places_low : (n : ℕ) (name : ContractWord) (all : List TermTree) (xs rest : List Lexeme) → ListClause name (IsPlace (TermWithin n)) all xs rest
    → highest (map term_height all) ≤ n
places_low n name [] xs rest w = omega arith
places_low n name (a ∷ more) xs rest w = omega (arith, term_at_most n a 11 w.0 w.2 w.3, more_low n more w.2 rest w.4)

more_fit : (n m : ℕ) (all : List TermTree) (xs rest : List Lexeme) → highest (map term_height all) ≤ m
    → MoreItems (IsPlace (TermWithin n)) all xs rest → MoreItems (IsPlace (TermWithin m)) all xs rest
more_fit n m [] xs rest low w = w
more_fit n m (a ∷ more) xs rest low w =
    (w.0, w.1, w.2, term_fitting n m a 11 w.0 w.2 (omega arith) w.3, more_fit n m more w.2 rest (omega arith) w.4)

places_fit : (n m : ℕ) (name : ContractWord) (all : List TermTree) (xs rest : List Lexeme) → highest (map term_height all) ≤ m
    → ListClause name (IsPlace (TermWithin n)) all xs rest → ListClause name (IsPlace (TermWithin m)) all xs rest
places_fit n m name [] xs rest low w = w
places_fit n m name (a ∷ more) xs rest low w =
    (w.0, w.1, w.2, term_fitting n m a 11 w.0 w.2 (omega arith) w.3, more_fit n m more w.2 rest (omega arith) w.4)

-- ---- contracts

pub contract_at_most : (n : ℕ) (c : ContractTree) (xs rest : List Lexeme) → ContractWithin n c xs rest → contract_height c ≤ n
unfolding ContractWithin
contract_at_most zero c xs rest w = absurd w
contract_at_most (suc n) c xs rest w =
    omega (arith, places_low n word.Modifies c.modifies w.0 w.2 w.3, term_at_most n c.ensured 1 w.6 rest w.8)

pub contract_fitting : (n m : ℕ) (c : ContractTree) (xs rest : List Lexeme) → contract_height c ≤ m → ContractWithin n c xs rest
    → ContractWithin m c xs rest
unfolding ContractWithin
contract_fitting zero m c xs rest low w = absurd w
contract_fitting (suc n) zero c xs rest low w = absurd (omega (arith, term_positive c.ensured))
contract_fitting (suc n) (suc m) c xs rest low w = (
  w.0,
  w.1,
  w.2,
  places_fit n m word.Modifies c.modifies w.0 w.2 (omega arith) w.3,
  w.4,
  w.5,
  w.6,
  w.7,
  term_fitting n m c.ensured 1 w.6 rest (omega arith) w.8,
)

-- ---- spec methods

pub spec_at_most : (n : ℕ) (t : SpecTree) (xs rest : List Lexeme) → SpecWithin n t xs rest → spec_height t ≤ n
unfolding SpecWithin
spec_at_most zero t xs rest w = absurd w
spec_at_most (suc n) t xs rest w = omega (arith, w.1, w.2, term_at_most n t.term 1 w.0.10 w.0.12 w.0.13)

pub spec_fitting : (n m : ℕ) (t : SpecTree) (xs rest : List Lexeme) → spec_height t ≤ m → SpecWithin n t xs rest → SpecWithin m t xs rest
unfolding SpecWithin
spec_fitting zero m t xs rest low w = absurd w
spec_fitting (suc n) zero t xs rest low w = absurd (omega (arith, term_positive t.term))
spec_fitting (suc n) (suc m) t xs rest low w =
    let s = w.0 in (
      (
        s.0,
        s.1,
        s.2,
        s.3,
        s.4,
        s.5,
        s.6,
        s.7,
        s.8,
        s.9,
        s.10,
        s.11,
        s.12,
        term_fitting n m t.term 1 s.10 s.12 (omega arith) s.13,
        s.14,
      ),
      omega arith,
      omega arith,
    )
