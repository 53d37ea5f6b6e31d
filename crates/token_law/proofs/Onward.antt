-- Numbered tokens: what is left after a part of the tree is numbered on.
use Rattle.std.proofs.Common.{◌≡◌, ℕ, zero, suc, ◌+◌, ◌≤◌, List, [], ◌∷◌, refl, subst, arith}
use Rattle.java_tokens.specs.declared.token.TokenKind.{TokenKind}
use Rattle.java_tokens.specs.declared.token.Token.{Token}
use Rattle.token_reading.specs.declared.name.BaseType.{BaseType}
use Rattle.token_reading.specs.declared.name.BaseType.TheVariants as base
use Rattle.token_reading.specs.declared.name.TypeTree.{TypeTree}
use Rattle.token_reading.specs.Lexeme.{Lexeme, lexeme, numbered, Then}
use Rattle.token_reading.specs.Types.{Brackets, IsBase, IsType}

infixr 20 ◌>>◌
-- the tokens bear the numbers from n on
abbrev pub From : ℕ → List Lexeme → Type 0
From n [] = Unit {0}
From n (x ∷ xs) = (x.at ≡ n) × From (n + 1) xs

pub numbered_from : (n : ℕ) (tokens : List Token) → From n (numbered n tokens)
numbered_from n [] = tt
numbered_from n (t ∷ more) = (refl, numbered_from (n + 1) more)

-- Where the first tokens are numbered on, the others are too, and from no smaller a number.
pub record Onward (xs rest : List Lexeme) : Type 0 where
  pub go : (n : ℕ) → From n xs → (m : ℕ) × (n ≤ m) × From m rest

pub ◌>>◌ : {xs ys zs : List Lexeme} → Onward xs ys → Onward ys zs → Onward xs zs
(first >> second) =
    record { go = λ n from. let here = first.go n from in let there = second.go here.0 here.2 in (there.0, omega (arith, here.1, there.1), there.2) }

pub stay : {xs rest : List Lexeme} → xs ≡ rest → Onward xs rest
stay same = record { go = λ n from. (n, omega arith, subst (From n) same from) }

-- after one token
pub past : {at : ℕ} {kind : TokenKind} {xs rest : List Lexeme} → xs ≡ lexeme at kind ∷ rest → (n : ℕ) → From n xs → (at ≡ n) × From (n + 1) rest
past same n from = subst (From n) same from

pub token : {at : ℕ} {kind : TokenKind} {xs rest : List Lexeme} → xs ≡ lexeme at kind ∷ rest → Onward xs rest
token same = record { go = λ n from. (n + 1, omega arith, (past same n from).1) }

pub then_onward : (kind : TokenKind) (xs rest : List Lexeme) → Then kind xs rest → Onward xs rest
then_onward kind xs rest t = token t.1

-- ---- types

pub brackets_onward : (n : ℕ) (xs rest : List Lexeme) → Brackets n xs rest → Onward xs rest
brackets_onward zero xs rest w = stay w
brackets_onward (suc n) xs rest w = then_onward _ xs w.0 w.1 >> then_onward _ w.0 w.2 w.3 >> brackets_onward n w.2 rest w.4

pub base_onward : (b : BaseType) (xs rest : List Lexeme) → IsBase b xs rest → Onward xs rest
base_onward base.Int xs rest t = then_onward _ xs rest t
base_onward base.Boolean xs rest t = then_onward _ xs rest t
base_onward (base.Class x) xs rest w = token w

pub type_onward : (t : TypeTree) (xs rest : List Lexeme) → IsType t xs rest → Onward xs rest
type_onward t xs rest w = base_onward t.base xs w.0 w.1 >> brackets_onward t.dimensions w.0 rest w.2
