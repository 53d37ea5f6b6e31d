-- Tokens with their numbers, the list that a tree is written on.
use Rattle.std.specs.Prelude.{◌≡◌, ℕ, ◌+◌, List, [], ◌∷◌, Bool, false}
use denote.Enum.Bare.{sameb}
use Rattle.java_tokens.specs.declared.token.Keyword.{Keyword}
use Rattle.java_tokens.specs.contracts.token.Keyword.{the_type as keyword_type}
use Rattle.java_tokens.specs.declared.token.Operator.{Operator}
use Rattle.java_tokens.specs.contracts.token.Operator.{the_type as operator_type}
use Rattle.java_tokens.specs.declared.token.Token.{Token}
use Rattle.java_tokens.specs.declared.token.TokenKind.{TokenKind}
use Rattle.java_tokens.specs.declared.token.TokenKind.TheVariants as k

-- a token's number, from 0, and what it is
pub record Lexeme : Type 0 where
  pub at : ℕ
  pub kind : TokenKind

abbrev pub lexeme : ℕ → TokenKind → Lexeme
lexeme at kind = record { at = at; kind = kind }

-- the tokens, numbered from this number on
abbrev pub numbered : ℕ → List Token → List Lexeme
numbered n [] = []
numbered n (t ∷ ts) = lexeme n t.kind ∷ numbered (n + 1) ts

-- the number of the first token
abbrev pub place : List Lexeme → ℕ
place [] = 0
place (x ∷ xs) = x.at

-- a token of this kind comes first, and these after it
abbrev pub Then : TokenKind → List Lexeme → List Lexeme → Type 0
Then kind xs rest = (at : ℕ) × (xs ≡ lexeme at kind ∷ rest)

-- ---- tests on the first token

unfoldable pub same_operator : Operator → Operator → Bool
same_operator = sameb operator_type

unfoldable pub same_keyword : Keyword → Keyword → Bool
same_keyword = sameb keyword_type

abbrev pub is_operator : Operator → TokenKind → Bool
is_operator s (k.Op t) = same_operator t s
is_operator s _ = false

abbrev pub is_keyword : Keyword → TokenKind → Bool
is_keyword s (k.Word t) = same_keyword t s
is_keyword s _ = false

-- this operator or separator comes first
abbrev pub sees : Operator → List Lexeme → Bool
sees s [] = false
sees s (x ∷ xs) = is_operator s x.kind

-- this keyword comes first
abbrev pub sees_word : Keyword → List Lexeme → Bool
sees_word s [] = false
sees_word s (x ∷ xs) = is_keyword s x.kind
