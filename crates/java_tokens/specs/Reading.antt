-- What the functions of the reader say to one another; no public contract speaks of it.
use Rattle.std.specs.Prelude.{◌≡◌, ◌≢◌, ◌≤◌, ◌⊎◌, ℕ, ◌-◌, Bool, ◌&&◌, ◌==◌, ◌<◌, nat_le, true, false, List, [], ◌∷◌, ◌++◌, length, take, drop, bytes_eq, slice_index}
use Rattle.java_tokens.specs.Characters.{is_white, is_digit, is_identifier_start, first_passes}
use Rattle.java_tokens.specs.declared.lexeme.Lexeme.{Lexeme}
use Rattle.java_tokens.specs.declared.lexeme.Lexeme.TheVariants as lexeme
use Rattle.java_tokens.specs.declared.lexeme.Flaw.{Flaw}
use Rattle.java_tokens.specs.declared.lexeme.Flaw.TheVariants as flaw
use Rattle.java_tokens.specs.declared.place.Place.{Place}
use Rattle.java_tokens.specs.declared.token.Operator.{Operator}
use Rattle.java_tokens.specs.declared.token.Token.{Token}
use Rattle.java_tokens.specs.declared.token.TokenKind.TheVariants.{End}
use Rattle.java_tokens.specs.declared.error.TokenError.{TokenError}
use Rattle.java_tokens.specs.declared.error.TokenError.TheVariants.{BadUtf8, OutOfMemory}
use Rattle.java_tokens.specs.Spelling.{operator_text}
use Rattle.java_tokens.specs.Lexemes.{IsLexeme, IsLongest}
use Rattle.java_tokens.specs.Places.{offset, line, column}
use Rattle.java_tokens.specs.Tokens.{Piece, ArePieces, token_at, tokens_of}
use Rattle.java_tokens.specs.Faults.{IsOver, text_of, error_of}

-- the characters begin with this text
abbrev pub starts_with : List ℕ → List ℕ → Bool
starts_with xs text = nat_le (length text) (length xs) && bytes_eq (take (length text) xs) text

-- they begin with this operator, and with none that is longer
pub record IsLongestOperator (xs : List ℕ) (operator : Operator) : Type 0 where
  pub starts : starts_with xs (operator_text operator) ≡ true
  pub longest : (other : Operator) → starts_with xs (operator_text other) ≡ true → length (operator_text other) ≤ length (operator_text operator)

-- the front of the characters, of this length, is this, and nothing longer begins with them
pub record IsScanned (xs : List ℕ) (what : Lexeme) (len : ℕ) : Type 0 where
  pub within : len ≤ length xs
  pub is : IsLexeme what (take len xs)
  pub longest : IsLongest (take len xs) (drop len xs)

-- the place of what stands after these characters
pub record IsPlace (front : List ℕ) (place : Place) : Type 0 where
  pub offset_is : place.offset ≡ offset front
  pub line_is : place.line ≡ line front
  pub column_is : place.column ≡ column front

-- these two characters stand at the front
abbrev pub begins_pair : ℕ → ℕ → List ℕ → Bool
begins_pair first second [] = false
begins_pair first second (c ∷ cs) = c == first && first_passes (λ d. d == second) cs

-- the first character begins neither white space nor a number, a word, a string or a comment
pub record IsOther (xs : List ℕ) : Type 0 where
  pub some : 0 < length xs
  pub not_white : first_passes is_white xs ≡ false
  pub not_digit : first_passes is_digit xs ≡ false
  pub not_start : first_passes is_identifier_start xs ≡ false
  pub not_quote : slice_index xs 0 ≢ 34
  pub not_line : begins_pair 47 47 xs ≡ false
  pub not_block : begins_pair 47 42 xs ≡ false

-- what isn't closed, at the end of the characters
abbrev pub IsOpen : Flaw → Type 0
IsOpen flaw.OpenString = Unit {0}
IsOpen flaw.OpenComment = Unit {0}
IsOpen _ = ⊥

-- a text that is open where characters end, after which a bad byte stands; and any other that is malformed
pub record IsCutOff (flaw : Flaw) (characters : List ℕ) (whole : Bool) (to : ℕ) (error : TokenError) : Type 0 where
  pub is_open : IsOpen flaw
  pub end : to ≡ length characters
  pub more : whole ≡ false
  pub named : error ≡ BadUtf8 (offset characters)

pub record IsFlawed (flaw : Flaw) (characters : List ℕ) (whole : Bool) (from to : ℕ) (error : TokenError) : Type 0 where
  pub named : error ≡ error_of flaw (take from characters) (take (to - from) (drop from characters))
  pub over : IsOpen flaw → to ≡ length characters → whole ≡ true

abbrev pub IsFaultOf : Flaw → List ℕ → Bool → ℕ → ℕ → TokenError → Type 0
IsFaultOf flaw characters whole from to error = IsFlawed flaw characters whole from to error ⊎ IsCutOff flaw characters whole to error

-- the characters are all of a file, and these are its tokens
pub record HasTokens (characters : List ℕ) (whole : Bool) (tokens : List Token) : Type 0 where
  pub all : whole ≡ true
  pub pieces : List Piece
  pub reached : ArePieces pieces characters []
  pub are : tokens ≡ tokens_of [] pieces ++ token_at characters [] End ∷ []

-- a malformed text stands after pieces
pub record StopsInFlaw (characters : List ℕ) (whole : Bool) (error : TokenError) : Type 0 where
  pub front : List Piece
  pub flaw : Flaw
  pub text : List ℕ
  pub rest : List ℕ
  pub reached : ArePieces front characters (text ++ rest)
  pub is : IsLexeme (lexeme.Malformed flaw) text
  pub longest : IsLongest text rest
  pub over : (left : List ℕ) → (whole ≡ true → left ≡ []) → IsOver flaw rest left
  pub named : error ≡ error_of flaw (text_of front) text

-- all is read, or open to the end, and a bad byte stands after
pub record StopsInBadByte (characters : List ℕ) (whole : Bool) (error : TokenError) : Type 0 where
  pub front : List Piece
  pub rest : List ℕ
  pub reached : ArePieces front characters rest
  pub is_open : (rest ≡ []) ⊎ ((flaw : Flaw) × IsOpen flaw × IsLexeme (lexeme.Malformed flaw) rest)
  pub more : whole ≡ false
  pub named : error ≡ BadUtf8 (offset characters)

-- why the characters have no tokens
abbrev pub StopsAt : List ℕ → Bool → TokenError → Type 0
StopsAt characters whole OutOfMemory = Unit {0}
StopsAt characters whole error = StopsInFlaw characters whole error ⊎ StopsInBadByte characters whole error
