-- Where bytes have no tokens: the faults that are met in them, and the first of these.
use Rattle.std.specs.Prelude.{◌≡◌, ◌≤◌, ◌<◌, ◌⊎◌, ℕ, ◌-◌, true, IsTrue, List, [], ◌∷◌, ◌++◌, length, take, encode_utf8_all}
use Rattle.std.specs.Str.{all_scalars, StartsWithNoChar}
use Rattle.java_tokens.specs.declared.lexeme.Lexeme.TheVariants as lexeme
use Rattle.java_tokens.specs.declared.lexeme.Flaw.{Flaw}
use Rattle.java_tokens.specs.declared.lexeme.Flaw.TheVariants as flaw
use Rattle.java_tokens.specs.declared.error.TokenError.{TokenError}
use Rattle.java_tokens.specs.declared.error.TokenError.TheVariants.{BadUtf8, BadChar, BadNumber, Unclosed, OutOfMemory}
use Rattle.java_tokens.specs.Characters.{is_line_end, first_passes}
use Rattle.java_tokens.specs.Lexemes.{IsLexeme, IsLongest}
use Rattle.java_tokens.specs.Places.{offset}
use Rattle.java_tokens.specs.Tokens.{Piece, ArePieces}

-- the bytes are the UTF-8 of these characters, and then those that are left, with which no character begins
pub record HasText (bytes characters left : List ℕ) : Type 0 where
  pub scalars : all_scalars characters ≡ true
  pub split : bytes ≡ encode_utf8_all characters ++ left
  pub stuck : StartsWithNoChar left

-- the characters of the pieces
abbrev pub text_of : List Piece → List ℕ
text_of [] = []
text_of (piece ∷ pieces) = piece.text ++ text_of pieces

-- a bad escape but for its last two characters, the backslash and what follows it
abbrev pub before_escape : List ℕ → List ℕ
before_escape text = take (length text - 2) text

-- the error that a malformed text after these characters is
abbrev pub error_of : Flaw → List ℕ → List ℕ → TokenError
error_of flaw.Character front text = BadChar (offset front)
error_of flaw.Number front text = BadNumber (offset front)
error_of flaw.Escape front text = BadChar (offset (front ++ before_escape text))
error_of flaw.OpenString front text = Unclosed (offset front)
error_of flaw.OpenComment front text = Unclosed (offset front)

-- the place at which it is met: what isn't closed where its line or the file ends, all else at the place that is named
abbrev pub met_at : Flaw → List ℕ → List ℕ → ℕ
met_at flaw.Character front text = offset front
met_at flaw.Number front text = offset front
met_at flaw.Escape front text = offset (front ++ before_escape text)
met_at flaw.OpenString front text = offset (front ++ text)
met_at flaw.OpenComment front text = offset (front ++ text)

-- what isn't closed is a fault where the line, or the file, ends after it
abbrev pub IsOver : Flaw → List ℕ → List ℕ → Type 0
IsOver flaw.OpenString rest left = IsTrue (first_passes is_line_end rest) ⊎ ((rest ≡ []) × (left ≡ []))
IsOver flaw.OpenComment rest left = (rest ≡ []) × (left ≡ [])
IsOver _ rest left = Unit {0}

-- a malformed text stands after pieces
pub record MeetsFlaw (bytes : List ℕ) (error : TokenError) (place : ℕ) : Type 0 where
  pub characters : List ℕ
  pub left : List ℕ
  pub read : HasText bytes characters left
  pub front : List Piece
  pub flaw : Flaw
  pub text : List ℕ
  pub rest : List ℕ
  pub reached : ArePieces front characters (text ++ rest)
  pub is : IsLexeme (lexeme.Malformed flaw) text
  pub longest : IsLongest text rest
  pub over : IsOver flaw rest left
  pub named : error ≡ error_of flaw (text_of front) text
  pub met : place ≡ met_at flaw (text_of front) text

-- a byte with which no character begins stands after the characters
pub record MeetsBadByte (bytes : List ℕ) (error : TokenError) (place : ℕ) : Type 0 where
  pub characters : List ℕ
  pub left : List ℕ
  pub read : HasText bytes characters left
  pub some : 0 < length left
  pub named : error ≡ BadUtf8 place
  pub met : place ≡ offset characters

-- this fault is met at this place
abbrev pub Meets : List ℕ → TokenError → ℕ → Type 0
Meets bytes error place = MeetsFlaw bytes error place ⊎ MeetsBadByte bytes error place

-- the fault that is met at the least place
pub record IsFirstFault (bytes : List ℕ) (error : TokenError) : Type 0 where
  pub place : ℕ
  pub meets : Meets bytes error place
  pub least : (other : TokenError) (later : ℕ) → Meets bytes other later → place ≤ later

-- the fault that an error names is the first of the bytes; running out of memory names none
abbrev pub HasFault : List ℕ → TokenError → Type 0
HasFault bytes OutOfMemory = Unit {0}
HasFault bytes error = IsFirstFault bytes error
