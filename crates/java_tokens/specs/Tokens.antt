-- When a list of tokens is that of the bytes: a relation on the whole text.
use Rattle.std.specs.Prelude.{◌≡◌, ℕ, ◌+◌, true, List, [], ◌∷◌, ◌++◌, encode_utf8_all}
use Rattle.std.specs.Str.{all_scalars}
use Rattle.java_tokens.specs.declared.lexeme.Lexeme.{Lexeme}
use Rattle.java_tokens.specs.declared.lexeme.Lexeme.TheVariants as lexeme
use Rattle.java_tokens.specs.declared.token.Token.{Token}
use Rattle.java_tokens.specs.declared.token.TokenKind.{TokenKind}
use Rattle.java_tokens.specs.declared.token.TokenKind.TheVariants.{End}
use Rattle.java_tokens.specs.Lexemes.{IsLexeme, IsLongest}
use Rattle.java_tokens.specs.Places.{offset, line, column}

-- a part of a source: its text, and what it is
pub record Piece : Type 0 where
  pub lexeme : Lexeme
  pub text : List ℕ

abbrev pub IsWellFormed : Lexeme → Type 0
IsWellFormed (lexeme.Malformed flaw) = ⊥
IsWellFormed _ = Unit {0}

-- the characters are these pieces, each well formed and the longest that begins at its place, and then the rest
abbrev pub ArePieces : List Piece → List ℕ → List ℕ → Type 0
ArePieces [] characters rest = characters ≡ rest
ArePieces (piece ∷ pieces) characters rest =
    (behind : List ℕ) × (characters ≡ piece.text ++ behind) × IsLexeme piece.lexeme piece.text × IsWellFormed piece.lexeme
    × IsLongest piece.text behind × ArePieces pieces behind rest

-- a token with this text, after these characters
abbrev pub token_at : List ℕ → List ℕ → TokenKind → Token
token_at front text kind = record {
  kind = kind;
  start = offset front;
  end = offset front + offset text;
  line = line front;
  column = column front;
}

-- the token that a piece after these characters is, if it is one
abbrev pub token_of : List ℕ → List ℕ → Lexeme → List Token
token_of front text (lexeme.Token kind) = token_at front text kind ∷ []
token_of front text _ = []

-- the tokens among pieces that stand after these characters
abbrev pub tokens_of : List ℕ → List Piece → List Token
tokens_of front [] = []
tokens_of front (piece ∷ pieces) = token_of front piece.text piece.lexeme ++ tokens_of (front ++ piece.text) pieces

-- the tokens of the bytes: they are UTF-8, and their characters are pieces, whose tokens these are, with that of the
-- end
pub record AreTokens (bytes : List ℕ) (tokens : List Token) : Type 0 where
  pub characters : List ℕ
  pub scalars : all_scalars characters ≡ true
  pub encoded : bytes ≡ encode_utf8_all characters
  pub pieces : List Piece
  pub reached : ArePieces pieces characters []
  pub all : tokens ≡ tokens_of [] pieces ++ token_at characters [] End ∷ []
