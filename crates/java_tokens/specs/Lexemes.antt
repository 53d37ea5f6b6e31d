-- What can stand at a place of a source: white space, a comment, a token, or something malformed; and the longest of
-- these (JLS 3.2).
use Rattle.std.specs.Prelude.{◌≡◌, ◌≢◌, ◌⊎◌, ℕ, ◌+◌, IsTrue, false, None, List, [], ◌∷◌, ◌++◌, slice_index}
use Rattle.std.specs.List.{list_all}
use Rattle.java_tokens.specs.declared.lexeme.Lexeme.{Lexeme}
use Rattle.java_tokens.specs.declared.lexeme.Lexeme.TheVariants.{White, Comment, Token, Malformed}
use Rattle.java_tokens.specs.declared.lexeme.Flaw.{Flaw}
use Rattle.java_tokens.specs.declared.lexeme.Flaw.TheVariants as flaw
use Rattle.java_tokens.specs.declared.token.Operator.{Operator}
use Rattle.java_tokens.specs.Characters.{is_white, is_in_line, is_digit, is_identifier_start, is_identifier_part, escaped, first_passes}
use Rattle.java_tokens.specs.Spelling.{operator_text, IsNumber, SpellsCharacters, IsSpelled}

-- one character of white space
pub record IsWhite (text : List ℕ) : Type 0 where
  pub character : ℕ
  pub alone : text ≡ character ∷ []
  pub white : IsTrue (is_white character)

-- `//`, and characters of the line after it (JLS 3.7)
pub record IsLineComment (text : List ℕ) : Type 0 where
  pub body : List ℕ
  pub is : text ≡ 47 ∷ 47 ∷ body
  pub in_line : IsTrue (list_all is_in_line body)

-- `/*`, and then characters among which no `*/` stands
pub record IsOpenComment (text : List ℕ) : Type 0 where
  pub body : List ℕ
  pub is : text ≡ 47 ∷ 42 ∷ body
  pub no_end : (i : ℕ) → slice_index body i ≡ 42 → slice_index body (i + 1) ≢ 47

-- such a text, and the first `*/` after it
pub record IsBlockComment (text : List ℕ) : Type 0 where
  pub front : List ℕ
  pub is : text ≡ front ++ 42 ∷ 47 ∷ []
  pub opened : IsOpenComment front

-- a character that begins no token and isn't white space
pub record IsBadCharacter (text : List ℕ) : Type 0 where
  pub character : ℕ
  pub alone : text ≡ character ∷ []
  pub not_white : is_white character ≡ false
  pub not_digit : is_digit character ≡ false
  pub not_start : is_identifier_start character ≡ false
  pub not_quote : character ≢ 34
  pub not_operator : (o : Operator) → operator_text o ≢ text

-- a digit, and what goes on from it as an identifier does, that is no number
pub record IsBadNumber (text : List ℕ) : Type 0 where
  pub start : IsTrue (first_passes is_digit text)
  pub parts : IsTrue (list_all is_identifier_part text)
  pub no_number : IsNumber text → ⊥

-- `"` and characters of a string, with no `"` after them; a backslash may stand last
pub record IsOpenString (text : List ℕ) : Type 0 where
  pub characters : List ℕ
  pub body : List ℕ
  pub spelled : SpellsCharacters characters body
  pub is : (text ≡ 34 ∷ body) ⊎ (text ≡ 34 ∷ (body ++ 92 ∷ []))

-- `"`, characters of a string, and then a backslash with a character that makes no escape with it
pub record IsBadEscape (text : List ℕ) : Type 0 where
  pub characters : List ℕ
  pub body : List ℕ
  pub letter : ℕ
  pub spelled : SpellsCharacters characters body
  pub is : text ≡ 34 ∷ (body ++ 92 ∷ letter ∷ [])
  pub no_escape : escaped letter ≡ None

-- the text is malformed in this way
abbrev pub HasFlaw : Flaw → List ℕ → Type 0
HasFlaw flaw.Character text = IsBadCharacter text
HasFlaw flaw.Number text = IsBadNumber text
HasFlaw flaw.Escape text = IsBadEscape text
HasFlaw flaw.OpenString text = IsOpenString text
HasFlaw flaw.OpenComment text = IsOpenComment text

-- the text is one of this
abbrev pub IsLexeme : Lexeme → List ℕ → Type 0
IsLexeme White text = IsWhite text
IsLexeme Comment text = IsLineComment text ⊎ IsBlockComment text
IsLexeme (Token kind) text = IsSpelled kind text
IsLexeme (Malformed flaw) text = HasFlaw flaw text

-- Nothing longer begins where this text stands: whatever follows of the rest, the longer text is none. So `>>` is no
-- two tokens, `12a` no number and a name, and `/` no token where `/*` begins.
abbrev pub IsLongest : List ℕ → List ℕ → Type 0
IsLongest text rest = (lexeme : Lexeme) (more behind : List ℕ) → rest ≡ more ++ behind → IsLexeme lexeme (text ++ more) → more ≡ []
