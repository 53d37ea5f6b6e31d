-- A contract that is read is written.
use Rattle.std.proofs.Common.{◌≡◌, ◌∙◌, ℕ, zero, suc, ◌≤◌, ◌<◌, List, [], ◌∷◌, ◌++◌, length, Bool, true, false, Some, None, refl, sym, ap, subst, arith, append_assoc}
use Rattle.std.specs.Cmp.Lexicographic.{same_text}
use Rattle.java_tokens.specs.declared.token.Operator.TheVariants as o
use Rattle.java_tokens.specs.declared.token.TokenKind.{TokenKind}
use Rattle.java_tokens.specs.declared.token.TokenKind.TheVariants as k
use Rattle.token_reading.specs.Lexeme.{Lexeme, lexeme, place, Then, sees}
use Rattle.token_reading.specs.Outcome.{Parser}
use Rattle.token_reading.specs.ReadType.{next}
use Rattle.token_reading.proofs.Given.{Takes, MayTake, op_gives, none_gives}
use Rattle.token_reading.proofs.Lexemes.{then_length, from_sees}
use Rattle.token_reading.proofs.Steps.{Gives, gives, gives_none, gives_then, gives_map, gives_if}
use Rattle.spec_trees.specs.declared.term.TermTree.{TermTree}
use Rattle.spec_trees.specs.declared.word.ContractWord.{ContractWord}
use Rattle.spec_trees.specs.declared.word.ContractWord.TheVariants as word
use Rattle.spec_trees.specs.Clauses.{MinusIf, IsBound, IntsClause, MoreItems, ListClause, IsAdded, IsPlace, IsContract, ContractWithin}
use Rattle.spec_trees.specs.Terms.{IsNumber, TermWithin}
use Rattle.spec_trees.specs.Words.{word_kind, word_text}
use Rattle.spec_reading.specs.ReadContract.{is_text_kind, sees_text, expect_text, number_by, number, signed, bound, interval, ints, added, more_items, list_clause, contract_of, term_from, ensures_clause, contract_node, read_contract}
use Rattle.spec_reading.specs.ReadTerm.{term_follows, number_of}
use Rattle.spec_reading.proofs.LinkSound.{name_gives}
use Rattle.spec_reading.proofs.TermSound.{term_sound}
use Rattle.spec_reading.proofs.TermTrees.{term_length, term_grown}

-- ---- identifiers with a text of their own

text_kind : (s : List ℕ) (x : Lexeme) (xs : List Lexeme) (kd : TokenKind) → x.kind ≡ kd → is_text_kind s kd ≡ true → Then (k.Ident s) (x ∷ xs) xs
text_kind s x xs (k.Ident y) is h = (x.at, ap (λ kd. lexeme x.at kd ∷ xs) (is ∙ ap k.Ident (same_text y s (sym h))))
text_kind s x xs _ is h = absurd (cc)

pub from_text : (s : List ℕ) (xs : List Lexeme) → sees_text s xs ≡ true → Then (k.Ident s) xs (next xs)
from_text s [] h = absurd (cc)
from_text s (x ∷ xs) h = text_kind s x xs x.kind refl h

pub text_gives : (s : List ℕ) (xs : List Lexeme) → Takes (λ _ ys zs. ys ≡ lexeme (place ys) (k.Ident s) ∷ zs) xs ⊥ (expect_text s xs)
unfolding expect_text
text_gives s xs =
    gives_if (sees_text s xs)
    (λ h. let u = from_text s xs h in
    gives tt (next xs) (let same : place xs ≡ u.0 = ap place u.1 in rw (← same) at u.1, omega (arith, then_length _ xs (next xs) u)))
    (λ h. gives_none)

-- ---- numbers

number_kind : (x : Lexeme) (xs : List Lexeme) (kd : TokenKind) → x.kind ≡ kd → Takes IsNumber (x ∷ xs) ⊥ (number_by x.at kd xs)
number_kind x xs (k.Number v) is = gives (number_of x.at v) xs (ap (λ kd. lexeme x.at kd ∷ xs) is, omega arith)
number_kind x xs _ is = gives_none

number_gives : (xs : List Lexeme) → Takes IsNumber xs ⊥ (number xs)
unfolding number
number_gives [] = gives_none
number_gives (x ∷ xs) = number_kind x xs x.kind refl

signed_gives : (b : Bool) (xs ys : List Lexeme) → MinusIf b xs ys → length ys ≤ length xs → Takes IsBound xs ⊥ (signed b ys)
unfolding signed
signed_gives b xs ys u long =
    gives_then (number_gives ys) (λ h. h) (λ v zs w.
    gives (record { is_negative = b; number = v }) zs ((ys, u, w.0), omega (arith, w.1)))

bound_gives : (xs : List Lexeme) → Takes IsBound xs ⊥ (bound xs)
unfolding bound
bound_gives xs =
    gives_if (sees o.Minus xs)
    (λ h. let u = from_sees o.Minus xs h in signed_gives true xs (next xs) u (omega (arith, then_length _ xs (next xs) u)))
    (λ h. signed_gives false xs xs refl (omega arith))

-- ---- clauses

interval_gives : (xs ys : List Lexeme) → Then (word_kind word.Ints) xs ys
    → Gives (λ t rest. IntsClause (Some t) xs rest × (length rest ≤ length xs)) ⊥ (interval ys)
unfolding interval
interval_gives xs ys u =
    gives_then (bound_gives ys) (λ h. h) (λ lo zs w. gives_then (op_gives o.DotDot zs) (λ h. h) (λ _ us v.
    gives_then (bound_gives us) (λ h. h) (λ hi vs w'.
    gives (record { low = lo; high = hi }) vs ((ys, u, zs, w.0, us, v.0, w'.0), omega (arith, then_length _ xs ys u, w.1, v.1, w'.1)))))

ints_gives : (xs : List Lexeme) → MayTake IntsClause xs ⊥ (ints xs)
unfolding ints
ints_gives xs =
    gives_if (sees_text (word_text word.Ints) xs)
    (λ h. gives_then (interval_gives xs (next xs) (from_text (word_text word.Ints) xs h)) (λ g. g) (λ t rest w. gives (Some t) rest w))
    (λ h. gives None xs (refl, omega arith))

added_gives : (xs : List Lexeme) → Takes IsAdded xs ⊥ (added xs)
unfolding added
added_gives xs =
    gives_then (number_gives xs) (λ h. h) (λ n ys w. gives_then (name_gives ys) (λ h. h) (λ x zs v.
    gives (record { count = n; class = x }) zs ((ys, w.0, v.0), omega (arith, w.1, v.1))))

-- Reading an item may fail for want of height in the way H says, which holds the more of longer lists.
module _ {A : Type 0} (item : Parser A) (Item : A → List Lexeme → List Lexeme → Type 0) (H : ℕ → Type 0)
    (up : (m n : ℕ) → m ≤ n → H m → H n) (item_gives : (xs : List Lexeme) → Takes Item xs (H (length xs)) (item xs)) where
  more_gives : (fuel : ℕ) (done : List A) (xs : List Lexeme)
      → MayTake (λ all ys rest. (a : A) × (more : List A) × (all ≡ done ++ a ∷ more) × (zs : List Lexeme) × Item a ys zs × MoreItems Item more zs rest)
      xs (H (length xs)) (more_items item fuel done xs)
  unfolding more_items
  more_gives zero done xs = gives_none
  more_gives (suc fuel) done xs =
      gives_then (item_gives xs) (λ h. h) (λ a ys w. gives_if (sees o.Comma ys)
      (λ h. let u = from_sees o.Comma ys h in
      gives_map (λ all us v. (
        (a, v.0.0 ∷ v.0.1, v.0.2 ∙ append_assoc done (a ∷ []) (v.0.0 ∷ v.0.1), ys, w.0, (next ys, u, v.0.3, v.0.4, v.0.5)),
        omega (arith, w.1, v.1, then_length _ ys (next ys) u),
      ))
      (up (length (next ys)) (length xs) (omega (arith, w.1, then_length _ ys (next ys) u))) (more_gives fuel (done ++ a ∷ []) (next ys)))
      (λ h. gives (done ++ a ∷ []) ys ((a, [], refl, ys, w.0, refl), omega (arith, w.1))))

  list_gives : (name : ContractWord) (xs : List Lexeme) → MayTake (ListClause name Item) xs (H (length xs)) (list_clause item name xs)
  unfolding list_clause
  list_gives name xs =
      gives_if (sees_text (word_text name) xs)
      (λ h. let u = from_text (word_text name) xs h in
      gives_map (λ all us v. (
        subst (λ (l : List A). ListClause name Item l xs us) (sym v.0.2) (next xs, u, v.0.3, v.0.4, v.0.5),
        omega (arith, v.1, then_length _ xs (next xs) u),
      ))
      (up (length (next xs)) (length xs) (omega (arith, then_length _ xs (next xs) u))) (more_gives (length xs) [] (next xs)))
      (λ h. gives [] xs (refl, omega arith))

-- ---- contracts

module _ (n : ℕ) where
  -- a term of this level, and a token after it that doesn't bind to it
  abbrev pub Ended : ℕ → TermTree → List Lexeme → List Lexeme → Type 0
  Ended l t xs rest = TermWithin n t l xs rest × (term_follows rest < l)

  pub term_gives : (l : ℕ) (xs : List Lexeme) → 1 ≤ l → l ≤ 11 → Takes (Ended l) xs (n < length xs) (term_from n l xs)
  unfolding term_from
  term_gives l xs one high =
      gives_then (term_sound n l xs one high) (λ h. h) (λ t rest s.
      let w = term_grown t.1 n s.0.low t.0 l xs rest s.0.tree in
      gives t.0 rest ((w, s.1), omega (arith, term_length n t.0 l xs rest w)))

  place_gives : (xs : List Lexeme) → Takes (IsPlace (TermWithin n)) xs (n < length xs) (term_from n 11 xs)
  place_gives xs = gives_map (λ t rest w. (w.0.0, w.1)) (λ h. h) (term_gives 11 xs (omega arith) (omega arith))

  ensures_gives : (xs : List Lexeme)
      → Takes (λ t ys rest. (zs : List Lexeme) × (ys ≡ lexeme (place ys) (word_kind word.Ensures) ∷ zs) × Ended 1 t zs rest)
      xs (n < length xs) (ensures_clause n xs)
  unfolding ensures_clause
  ensures_gives xs =
      gives_then (text_gives (word_text word.Ensures) xs) (λ h. absurd h) (λ _ ys u.
      gives_map (λ t rest w. ((ys, u.0, w.0), omega (arith, u.1, w.1))) (λ h. omega (arith, u.1))
      (term_gives 1 ys (omega arith) (omega arith)))

  contract_node_gives : (xs : List Lexeme)
      → Takes (λ c ys rest. IsContract (TermWithin n) c ys rest × (term_follows rest ≡ 0)) xs (n < length xs) (contract_node n xs)
  unfolding contract_node
  contract_node_gives xs =
      gives_then (ints_gives xs) (λ h. absurd h) (λ i ys wi.
      gives_then (list_gives (term_from n 11) (IsPlace (TermWithin n)) (λ m. n < m) (λ m m' up h. omega arith) place_gives word.Modifies ys)
      (λ h. omega (arith, wi.1)) (λ ms zs wm.
      gives_then (list_gives added IsAdded (λ m. ⊥) (λ m m' up h. h) added_gives word.Adds zs) (λ h. absurd h) (λ cs us wa.
      gives_then (ensures_gives us) (λ h. omega (arith, wi.1, wm.1, wa.1)) (λ t vs w.
      gives (contract_of i ms cs (place us) t) vs (
        ((ys, wi.0, zs, wm.0, us, wa.0, w.0.0, w.0.1, w.0.2.0), omega (arith, w.0.2.1)),
        omega (arith, wi.1, wm.1, wa.1, w.1),
      )))))

-- what is read of a contract, or that there are too many tokens for the height that is allowed
pub contract_sound : (n : ℕ) (xs : List Lexeme)
    → Gives (λ c rest. ContractWithin n c xs rest × (term_follows rest ≡ 0)) (n ≤ length xs) (read_contract n xs)
unfolding ContractWithin read_contract
contract_sound zero xs = gives_map (λ c rest w. w) (λ h. omega arith) (none_gives {P = λ c rest. ContractWithin zero c xs rest × (term_follows rest ≡ 0)} xs)
contract_sound (suc n) xs = gives_map (λ c rest w. w.0) (λ h. omega arith) (contract_node_gives n xs)
