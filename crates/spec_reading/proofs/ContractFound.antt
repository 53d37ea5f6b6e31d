-- A contract that is written is read.
use Rattle.std.proofs.Common.{◌≡◌, ℕ, zero, suc, ◌+◌, ◌≤◌, ◌<◌, List, [], ◌∷◌, ◌++◌, length, Bool, true, false, Option, Some, None, Ok, refl, sym, ap, subst, arith, append_assoc}
use Rattle.java_tokens.specs.declared.token.Operator.TheVariants as o
use Rattle.token_reading.specs.Lexeme.{Lexeme, lexeme, same_operator, sees}
use Rattle.token_reading.specs.Outcome.{Outcome, Parser}
use Rattle.token_reading.proofs.Found.{none_or}
use Rattle.token_reading.proofs.Lexemes.{then_length, sees_it, expect_it}
use Rattle.token_reading.proofs.Steps.{Or, found, higher, or_then, raise}
use Rattle.spec_trees.specs.declared.contract.AddedTree.{AddedTree}
use Rattle.spec_trees.specs.declared.contract.BoundTree.{BoundTree}
use Rattle.spec_trees.specs.declared.contract.ContractTree.{ContractTree}
use Rattle.spec_trees.specs.declared.contract.IntsTree.{IntsTree}
use Rattle.spec_trees.specs.declared.contract.NumberTree.{NumberTree}
use Rattle.spec_trees.specs.declared.term.TermTree.{TermTree}
use Rattle.spec_trees.specs.declared.word.ContractWord.{ContractWord}
use Rattle.spec_trees.specs.declared.word.ContractWord.TheVariants as word
use Rattle.spec_trees.specs.Clauses.{MinusIf, IsBound, IntsClause, MoreItems, ListClause, IsAdded, IsPlace, IsContract, ContractWithin}
use Rattle.spec_trees.specs.Terms.{IsNumber, TermWithin}
use Rattle.spec_trees.specs.Words.{word_kind, word_text}
use Rattle.spec_trees.proofs.WordLemmas.{word_read}
use Rattle.spec_reading.specs.ReadContract.{sees_text, expect_text, number, signed, bound, interval, ints, added, more_items, list_clause, term_from, ensures_clause, contract_node, read_contract}
use Rattle.spec_reading.specs.ReadTerm.{term_follows}
use Rattle.spec_reading.proofs.Claims as claims
use Rattle.spec_reading.proofs.LinkFound.{name_read}
use Rattle.spec_reading.proofs.TermFound.{every_term}
use Rattle.spec_reading.proofs.TermTrees.{term_length}

from_found : {A : Type 0} {n b h : ℕ} {o good : Outcome A} → claims.Found n b h o good → Or n b o good
from_found (claims.found low is) = found is
from_found (claims.over high is) = higher high is

pub term_or : (n b : ℕ) (e : TermTree) (l : ℕ) (xs rest : List Lexeme) → TermWithin n e l xs rest → 1 ≤ l → l ≤ 11 → term_follows rest < l
    → Or n b (term_from b l xs) (Ok (e, rest))
unfolding term_from
term_or n b e l xs rest w one high stop = or_then _ (from_found (every_term n b e l xs rest w one high stop)) (found refl)

-- ---- numbers

number_read : (x : NumberTree) (xs rest : List Lexeme) → IsNumber x xs rest → number xs ≡ Ok (x, rest)
unfolding number
number_read x xs rest is = rw is refl

signed_read : (b : Bool) (x : NumberTree) (xs rest : List Lexeme) → IsNumber x xs rest
    → signed b xs ≡ Ok (record { is_negative = b; number = x }, rest)
unfolding signed
signed_read b x xs rest is = rw (number_read x xs rest is) refl

number_no_minus : (x : NumberTree) (xs rest : List Lexeme) → IsNumber x xs rest → sees o.Minus xs ≡ false
number_no_minus x xs rest is = rw is refl

bound_by : (b : Bool) (x : NumberTree) (xs ys rest : List Lexeme) → MinusIf b xs ys → IsNumber x ys rest
    → bound xs ≡ Ok (record { is_negative = b; number = x }, rest)
unfolding bound
bound_by true x xs ys rest u is = rw (u.1, sees_it o.Minus u.0 ys) (signed_read true x ys rest is)
bound_by false x xs ys rest u is = rw (u, number_no_minus x ys rest is) (signed_read false x ys rest is)

bound_read : (b : BoundTree) (xs rest : List Lexeme) → IsBound b xs rest → bound xs ≡ Ok (b, rest)
bound_read b xs rest w = bound_by b.is_negative b.number xs w.0 rest w.1 w.2

-- ---- clauses

pub ints_read : (t : Option IntsTree) (xs rest : List Lexeme) → IntsClause t xs rest → sees_text (word_text word.Ints) rest ≡ false
    → ints xs ≡ Ok (t, rest)
unfolding ints interval
ints_read None xs rest w none = rw (w, none) refl
ints_read (Some t) xs rest w none =
    rw (w.1.1, bound_read t.low w.0 w.2 w.3, w.5.1, expect_it o.DotDot w.5.0 w.4, bound_read t.high w.4 rest w.6) refl

added_read : (a : AddedTree) (xs rest : List Lexeme) → IsAdded a xs rest → added xs ≡ Ok (a, rest)
unfolding added
added_read a xs rest w = rw (number_read a.count xs w.0 w.1, name_read a.class w.0 rest w.2) refl

added_length : (a : AddedTree) (xs rest : List Lexeme) → IsAdded a xs rest → length rest < length xs
added_length a xs rest w = omega (arith, ap length w.1, ap length w.2.0)

-- A fact that holds of the clause's word and of what stands after the clause holds where the clause begins.
at_clause : {A : Type 0} (P : List Lexeme → Type 0) (name : ContractWord) (Item : A → List Lexeme → List Lexeme → Type 0)
    (all : List A) (xs rest : List Lexeme) → ListClause name Item all xs rest
    → ((at : ℕ) (ys : List Lexeme) → P (lexeme at (word_kind name) ∷ ys)) → P rest → P xs
at_clause P name Item [] xs rest w first later = subst P (sym w) later
at_clause P name Item (a ∷ more) xs rest w first later = subst P (sym w.1.1) (first w.1.0 w.0)

more_length : {A : Type 0} (Item : A → List Lexeme → List Lexeme → Type 0) → ((a : A) (xs ys : List Lexeme) → Item a xs ys → length ys < length xs)
    → (all : List A) (xs rest : List Lexeme) → MoreItems Item all xs rest → length all + length rest ≤ length xs
more_length Item shorter [] xs rest w = omega (arith, ap length w)
more_length Item shorter (a ∷ more) xs rest w =
    omega (arith, then_length _ xs w.0 w.1, shorter a w.0 w.2 w.3, more_length Item shorter more w.2 rest w.4)

module _ {A : Type 0} (n b : ℕ) (item : Parser A) (Item : A → List Lexeme → List Lexeme → Type 0)
    (item_or : (a : A) (xs ys : List Lexeme) → Item a xs ys → term_follows ys ≡ 0 → Or n b (item xs) (Ok (a, ys)))
    (shorter : (a : A) (xs ys : List Lexeme) → Item a xs ys → length ys < length xs) where
  more_or : (more : List A) (fuel : ℕ) (done : List A) (a : A) (xs ys rest : List Lexeme) → length more < fuel → Item a xs ys
      → MoreItems Item more ys rest → sees o.Comma rest ≡ false → term_follows rest ≡ 0
      → Or n b (more_items item fuel done xs) (Ok (done ++ a ∷ more, rest))
  unfolding more_items
  more_or more zero done a xs ys rest room w ws shut stop = absurd (omega arith)
  more_or [] (suc fuel) done a xs ys rest room w ws shut stop =
      or_then _ (item_or a xs ys w (rw ws stop)) (rw (ws, shut) (found refl))
  more_or (c ∷ more) (suc fuel) done a xs ys rest room w ws shut stop =
      let h = more_or more fuel (done ++ a ∷ []) c ws.0 ws.2 rest (omega arith) ws.3 ws.4 shut stop in
      or_then _ (item_or a xs ys w (rw ws.1.1 refl)) (rw (ws.1.1, sees_it o.Comma ws.1.0 ws.0) (rw append_assoc at h))

  list_or : (name : ContractWord) → ((at : ℕ) (ys : List Lexeme) → sees_text (word_text name) (lexeme at (word_kind name) ∷ ys) ≡ true)
      → (all : List A) (xs rest : List Lexeme) → ListClause name Item all xs rest → sees_text (word_text name) rest ≡ false
      → sees o.Comma rest ≡ false → term_follows rest ≡ 0 → Or n b (list_clause item name xs) (Ok (all, rest))
  unfolding list_clause
  list_or name some [] xs rest w none shut stop = rw (w, none) (found refl)
  list_or name some (a ∷ more) xs rest w none shut stop =
      rw (w.1.1, some w.1.0 w.0)
      (more_or more (suc (length w.0)) [] a w.0 w.2 rest
      (omega (arith, shorter a w.0 w.2 w.3, more_length Item shorter more w.2 rest w.4)) w.3 w.4 shut stop)

-- ---- lengths

minus_length : (b : Bool) (xs rest : List Lexeme) → MinusIf b xs rest → length rest ≤ length xs
minus_length true xs rest u = omega (arith, then_length _ xs rest u)
minus_length false xs rest u = omega (arith, ap length u)

bound_length : (b : BoundTree) (xs rest : List Lexeme) → IsBound b xs rest → length rest ≤ length xs
bound_length b xs rest w = omega (arith, minus_length b.is_negative xs w.0 w.1, ap length w.2)

-- ---- contracts

module _ (n b : ℕ) where
  place_or : (a : TermTree) (xs ys : List Lexeme) → IsPlace (TermWithin n) a xs ys → term_follows ys ≡ 0 → Or n b (term_from b 11 xs) (Ok (a, ys))
  place_or a xs ys w stop = term_or n b a 11 xs ys w (omega arith) (omega arith) (omega (arith, stop))

  ensures_or : (at : ℕ) (e : TermTree) (xs ys rest : List Lexeme) → xs ≡ lexeme at (word_kind word.Ensures) ∷ ys → TermWithin n e 1 ys rest
      → term_follows rest ≡ 0 → Or n b (ensures_clause b xs) (Ok (e, rest))
  unfolding ensures_clause expect_text
  ensures_or at e xs ys rest is w stop = rw is (term_or n b e 1 ys rest w (omega arith) (omega arith) (omega (arith, stop)))

  contract_by : (c : ContractTree) (xs ys zs us vs rest : List Lexeme) → IntsClause c.ints xs ys
      → ListClause word.Modifies (IsPlace (TermWithin n)) c.modifies ys zs → ListClause word.Adds IsAdded c.adds zs us
      → us ≡ lexeme c.at (word_kind word.Ensures) ∷ vs → TermWithin n c.ensured 1 vs rest → term_follows rest ≡ 0
      → Or n b (contract_node b xs) (Ok (c, rest))
  unfolding contract_node same_operator
  contract_by c xs ys zs us vs rest i ms cs is w stop =
      let bare : term_follows us ≡ 0 = rw (is, word_read word.Ensures) refl in
      let shut : sees o.Comma us ≡ false = rw is refl in
      let bare_before : term_follows zs ≡ 0 =
      at_clause (λ l. term_follows l ≡ 0) word.Adds IsAdded c.adds zs us cs (λ at l. rw (word_read word.Adds) refl) bare in
      let shut_before : sees o.Comma zs ≡ false = at_clause (λ l. sees o.Comma l ≡ false) word.Adds IsAdded c.adds zs us cs (λ at l. refl) shut in
      let no_adds : sees_text (word_text word.Adds) us ≡ false = rw is refl in
      let no_modifies : sees_text (word_text word.Modifies) zs ≡ false =
      at_clause (λ l. sees_text (word_text word.Modifies) l ≡ false) word.Adds IsAdded c.adds zs us cs (λ at l. refl) (rw is refl) in
      let no_ints : sees_text (word_text word.Ints) ys ≡ false =
      at_clause (λ l. sees_text (word_text word.Ints) l ≡ false) word.Modifies (IsPlace (TermWithin n)) c.modifies ys zs ms (λ at l. refl)
      (at_clause (λ l. sees_text (word_text word.Ints) l ≡ false) word.Adds IsAdded c.adds zs us cs (λ at l. refl) (rw is refl)) in
      or_then _ (found (ints_read c.ints xs ys i no_ints))
      (or_then _ (list_or n b (term_from b 11) (IsPlace (TermWithin n)) place_or (λ a. term_length n a 11) word.Modifies (λ at l. refl)
      c.modifies ys zs ms no_modifies shut_before bare_before)
      (or_then _ (list_or n b added IsAdded (λ a l m v stop'. found (added_read a l m v)) added_length word.Adds (λ at l. refl)
      c.adds zs us cs no_adds shut bare)
      (or_then _ (ensures_or c.at c.ensured us vs rest is w stop) (rw is (found refl)))))

ints_length : (t : Option IntsTree) (xs rest : List Lexeme) → IntsClause t xs rest → length rest ≤ length xs
ints_length None xs rest w = omega (arith, ap length w)
ints_length (Some t) xs rest w =
    omega (
      arith,
      then_length _ xs w.0 w.1,
      bound_length t.low w.0 w.2 w.3,
      then_length _ w.2 w.4 w.5,
      bound_length t.high w.4 rest w.6,
    )

list_length : {A : Type 0} (name : ContractWord) (Item : A → List Lexeme → List Lexeme → Type 0)
    → ((a : A) (xs ys : List Lexeme) → Item a xs ys → length ys < length xs)
    → (all : List A) (xs rest : List Lexeme) → ListClause name Item all xs rest → length rest ≤ length xs
list_length name Item shorter [] xs rest w = omega (arith, ap length w)
list_length name Item shorter (a ∷ more) xs rest w =
    omega (arith, then_length _ xs w.0 w.1, shorter a w.0 w.2 w.3, more_length Item shorter more w.2 rest w.4)

contract_length : (n : ℕ) (c : ContractTree) (xs rest : List Lexeme) → IsContract (TermWithin n) c xs rest → length rest < length xs
contract_length n c xs rest w =
    omega (
      arith,
      ints_length c.ints xs w.0 w.1,
      list_length word.Modifies (IsPlace (TermWithin n)) (λ a. term_length n a 11) c.modifies w.0 w.2 w.3,
      list_length word.Adds IsAdded added_length c.adds w.2 w.4 w.5,
      ap length w.7,
      term_length n c.ensured 1 w.6 rest w.8,
    )

pub contract_or : (n b : ℕ) (c : ContractTree) (xs rest : List Lexeme) → ContractWithin n c xs rest → term_follows rest ≡ 0
    → Or n b (read_contract b xs) (Ok (c, rest))
unfolding ContractWithin read_contract
contract_or zero b c xs rest w stop = absurd w
contract_or (suc n) zero c xs rest w stop = none_or n xs (Ok (c, rest)) (omega (arith, contract_length n c xs rest w))
contract_or (suc n) (suc b) c xs rest w stop = raise (contract_by n b c xs w.0 w.2 w.4 w.6 rest w.1 w.3 w.5 w.7 w.8 stop)
