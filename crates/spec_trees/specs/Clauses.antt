-- Which contracts and spec methods the tokens are.
--
--     Contract = [ "ints" Bound ".." Bound ] [ "modifies" TPost { "," TPost } ]
--                [ "adds" Number Ident { "," Number Ident } ] "ensures" Term
--     Bound    = [ "-" ] Number
--     Spec     = "spec" Type Ident "(" [ Params ] ")" "=" Term ";"
--
-- An Ident of a contract is no word of contracts; those before the `=` of a spec method may be.
use Rattle.std.specs.Prelude.{◌≡◌, ℕ, zero, suc, ◌≤◌, List, [], ◌∷◌, Bool, true, false, Option, Some, None, codes}
use Rattle.java_tokens.specs.declared.token.Operator.TheVariants as o
use Rattle.java_tokens.specs.declared.token.TokenKind.TheVariants as k
use Rattle.token_reading.specs.Height.{type_height, params_height}
use Rattle.token_reading.specs.Lexeme.{Lexeme, lexeme, Then}
use Rattle.token_reading.specs.Types.{IsIdent, IsType, Params}
use Rattle.spec_trees.specs.declared.contract.AddedTree.{AddedTree}
use Rattle.spec_trees.specs.declared.contract.BoundTree.{BoundTree}
use Rattle.spec_trees.specs.declared.contract.ContractTree.{ContractTree}
use Rattle.spec_trees.specs.declared.contract.IntsTree.{IntsTree}
use Rattle.spec_trees.specs.declared.contract.SpecTree.{SpecTree}
use Rattle.spec_trees.specs.declared.term.TermTree.{TermTree}
use Rattle.spec_trees.specs.declared.word.ContractWord.{ContractWord}
use Rattle.spec_trees.specs.declared.word.ContractWord.TheVariants as word
use Rattle.spec_trees.specs.Terms.{IsNumber, TermWithin}
use Rattle.spec_trees.specs.Words.{word_kind, IsName}

-- ---- clauses

-- a `-` or nothing
abbrev pub MinusIf : Bool → List Lexeme → List Lexeme → Type 0
MinusIf true xs rest = Then (k.Op o.Minus) xs rest
MinusIf false xs rest = xs ≡ rest

abbrev pub IsBound : BoundTree → List Lexeme → List Lexeme → Type 0
IsBound b xs rest = (ys : List Lexeme) × MinusIf b.is_negative xs ys × IsNumber b.number ys rest

-- the clause `ints`, or nothing
abbrev pub IntsClause : Option IntsTree → List Lexeme → List Lexeme → Type 0
IntsClause None xs rest = xs ≡ rest
IntsClause (Some t) xs rest =
    (ys : List Lexeme) × Then (word_kind word.Ints) xs ys × (zs : List Lexeme) × IsBound t.low ys zs
    × (us : List Lexeme) × Then (k.Op o.DotDot) zs us × IsBound t.high us rest

-- further items with commas before them
abbrev pub MoreItems : {A : Type 0} → (A → List Lexeme → List Lexeme → Type 0) → List A → List Lexeme → List Lexeme → Type 0
MoreItems Item [] xs rest = xs ≡ rest
MoreItems Item (a ∷ more) xs rest =
    (ys : List Lexeme) × Then (k.Op o.Comma) xs ys × (zs : List Lexeme) × Item a ys zs × MoreItems Item more zs rest

-- the word and items with commas between them, or nothing
abbrev pub ListClause : {A : Type 0} → ContractWord → (A → List Lexeme → List Lexeme → Type 0) → List A → List Lexeme → List Lexeme → Type 0
ListClause name Item [] xs rest = xs ≡ rest
ListClause name Item (a ∷ more) xs rest =
    (ys : List Lexeme) × Then (word_kind name) xs ys × (zs : List Lexeme) × Item a ys zs × MoreItems Item more zs rest

-- `n C`
abbrev pub IsAdded : AddedTree → List Lexeme → List Lexeme → Type 0
IsAdded a xs rest = (ys : List Lexeme) × IsNumber a.count xs ys × IsName a.class ys rest

-- ---- contracts and spec methods. `Part t l xs rest` says that the term t, of level l or above, is written at the front
-- of xs, and that the rest stands after it.

module _ (Part : TermTree → ℕ → List Lexeme → List Lexeme → Type 0) where
  -- a place of `modifies`
  abbrev pub IsPlace : TermTree → List Lexeme → List Lexeme → Type 0
  IsPlace t xs rest = Part t 11 xs rest

  -- the clauses in their order
  abbrev pub IsContract : ContractTree → List Lexeme → List Lexeme → Type 0
  IsContract c xs rest =
      (ys : List Lexeme) × IntsClause c.ints xs ys × (zs : List Lexeme) × ListClause word.Modifies IsPlace c.modifies ys zs
      × (us : List Lexeme) × ListClause word.Adds IsAdded c.adds zs us
      × (vs : List Lexeme) × (us ≡ lexeme c.at (word_kind word.Ensures) ∷ vs) × Part c.ensured 1 vs rest

  -- `spec` is an identifier like any other.
  abbrev pub IsSpec : SpecTree → List Lexeme → List Lexeme → Type 0
  IsSpec t xs rest =
      (ys : List Lexeme) × (xs ≡ lexeme t.at (k.Ident (codes "spec")) ∷ ys) × (zs : List Lexeme) × IsType t.ty ys zs
      × (us : List Lexeme) × IsIdent t.name zs us × (vs : List Lexeme) × Then (k.Op o.LeftParen) us vs
      × (ws : List Lexeme) × Params t.params vs ws × (xs' : List Lexeme) × Then (k.Op o.Assign) ws xs'
      × (ys' : List Lexeme) × Part t.term 1 xs' ys' × Then (k.Op o.Semicolon) ys' rest

-- The contract, of at most this height, is written at the front of the first list, and the second stands after it.
unfoldable pub ContractWithin : ℕ → ContractTree → List Lexeme → List Lexeme → Type 0
ContractWithin zero c xs rest = ⊥
ContractWithin (suc n) c xs rest = IsContract (TermWithin n) c xs rest

-- The same of a spec method.
unfoldable pub SpecWithin : ℕ → SpecTree → List Lexeme → List Lexeme → Type 0
SpecWithin zero t xs rest = ⊥
SpecWithin (suc n) t xs rest =
    IsSpec (TermWithin n) t xs rest × (type_height t.ty ≤ n) × (params_height t.params ≤ n)
