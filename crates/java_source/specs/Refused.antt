-- What each refusal says of a source.
use Rattle.std.specs.Prelude.{◌≡◌, ℕ, ◌<◌, ◌≤◌, List, ◌∷◌, ◌++◌, length}
use Rattle.std.specs.List.{slice_get}
use Rattle.std.specs.Option.{option_map_or}
use Rattle.java_tokens.specs.declared.token.Token.{Token}
use Rattle.java_tokens.specs.declared.error.TokenError.{TokenError}
use Rattle.java_tokens.specs.declared.error.TokenError.TheVariants as token
use Rattle.java_tokens.specs.Tokens.{AreTokens}
use Rattle.java_tokens.specs.Faults.{HasFault}
use Rattle.token_reading.specs.declared.fault.Fault.{Fault}
use Rattle.java_syntax.specs.declared.class.FileTree.{FileTree}
use Rattle.java_syntax.specs.Height.{file_height}
use Rattle.java_syntax.specs.Spells.{Spells}
use Rattle.token_reading.specs.declared.error.ParseError.{ParseError}
use Rattle.token_reading.specs.declared.error.ParseError.TheVariants as parse
use Rattle.java_parse.specs.Answer.{IsOnlyTree, SpellsNothing, SpellsHighOnes}
use Rattle.java_source.specs.declared.place.SourcePlace.{SourcePlace}
use Rattle.java_source.specs.declared.refusal.SourceError.{SourceError}
use Rattle.java_source.specs.declared.refusal.SourceError.TheVariants as error
use Rattle.java_source.specs.declared.refusal.SourceRefusal.{SourceRefusal}
use Rattle.java_source.specs.declared.refusal.SourceRefusal.TheVariants as refusal
use Rattle.java_source.specs.declared.refusal.TokenKindError.{TokenKindError}
use Rattle.java_source.specs.declared.refusal.TokenKindError.TheVariants as kind
use Rattle.java_source.specs.Accepted.{IsBroken, most_bytes}

-- ---- places

abbrev pub place_at : Token → SourcePlace
place_at t = record { line = t.line; column = t.column }

-- the place of the token with this number; the file's beginning where no token has it
abbrev pub place_of : List Token → ℕ → SourcePlace
place_of tokens at = option_map_or place_at (slice_get tokens at) (record { line = 1; column = 1 })

-- one of the tokens stands at this place
pub record IsPlaceAmong (tokens : List Token) (place : SourcePlace) : Type 0 where
  pub front : List Token
  pub token : Token
  pub behind : List Token
  pub is : tokens ≡ front ++ token ∷ behind
  pub place_is : place ≡ place_at token

-- ---- tokens

-- the error that a kind of fault at a byte is
abbrev pub lexical_error : TokenKindError → ℕ → TokenError
lexical_error kind.Utf8 at = token.BadUtf8 at
lexical_error kind.Character at = token.BadChar at
lexical_error kind.Number at = token.BadNumber at
lexical_error kind.Unclosed at = token.Unclosed at

-- and the refusal that an error is
abbrev pub token_refusal : TokenError → SourceError
token_refusal (token.BadUtf8 at) = error.Refused (refusal.Lexical kind.Utf8 at)
token_refusal (token.BadChar at) = error.Refused (refusal.Lexical kind.Character at)
token_refusal (token.BadNumber at) = error.Refused (refusal.Lexical kind.Number at)
token_refusal (token.Unclosed at) = error.Refused (refusal.Lexical kind.Unclosed at)
token_refusal token.OutOfMemory = error.OutOfMemory

-- not for their number, and this is the first fault of the bytes
pub record HasLexicalFault (bytes : List ℕ) (what : TokenKindError) (at : ℕ) : Type 0 where
  pub few : length bytes ≤ most_bytes
  pub fault : HasFault bytes (lexical_error what at)

-- ---- trees

-- the refusal of tokens that have no tree; that of a syntax error has the place of one of them
abbrev pub TellsNoTree : List Token → ParseError → SourceError → Type 0
TellsNoTree tokens (parse.Syntax at) (error.Refused (refusal.Syntax line column)) = IsPlaceAmong tokens (record { line = line; column = column })
TellsNoTree tokens parse.TooDeep made = made ≡ error.Refused refusal.TooDeep
TellsNoTree tokens parse.OutOfMemory made = made ≡ error.OutOfMemory
TellsNoTree tokens _ _ = ⊥

-- the bytes have tokens, which no tree spells, and one of which stands at this place
pub record IsMalformed (bytes : List ℕ) (line column : ℕ) : Type 0 where
  pub few : length bytes ≤ most_bytes
  pub tokens : List Token
  pub read : AreTokens bytes tokens
  pub none : SpellsNothing tokens
  pub place : IsPlaceAmong tokens (record { line = line; column = column })

-- or no tree spells them, or only such as are too high
pub record IsTooHigh (bytes : List ℕ) : Type 0 where
  pub few : length bytes ≤ most_bytes
  pub tokens : List Token
  pub read : AreTokens bytes tokens
  pub high : SpellsHighOnes tokens
  pub many : 200 ≤ length tokens

-- ---- rules

abbrev pub refusal_at : ℕ → SourcePlace → SourceRefusal
refusal_at rule place = refusal.Fault rule place.line place.column

abbrev pub rule_refusal : List Token → Fault → SourceRefusal
rule_refusal tokens f = refusal_at f.rule (place_of tokens f.at)

-- the bytes have one tree, which isn't too high and breaks this rule at the token that stands at this place
pub record BreaksRule (bytes : List ℕ) (rule line column : ℕ) : Type 0 where
  pub few : length bytes ≤ most_bytes
  pub tokens : List Token
  pub read : AreTokens bytes tokens
  pub tree : FileTree
  pub spelled : Spells tree tokens
  pub low : file_height tree ≤ 200
  pub only : IsOnlyTree tree tokens
  pub fault : Fault
  pub broken : IsBroken tree fault
  pub told : refusal.Fault rule line column ≡ rule_refusal tokens fault

-- ---- all refusals

abbrev pub RefusesFor : List ℕ → SourceRefusal → Type 0
RefusesFor bytes refusal.TooLong = most_bytes < length bytes
RefusesFor bytes (refusal.Lexical what at) = HasLexicalFault bytes what at
RefusesFor bytes (refusal.Syntax line column) = IsMalformed bytes line column
RefusesFor bytes refusal.TooDeep = IsTooHigh bytes
RefusesFor bytes (refusal.Fault rule line column) = BreaksRule bytes rule line column

-- why a source has no program; nothing is said of memory that runs out
abbrev pub IsRefused : List ℕ → SourceError → Type 0
IsRefused bytes (error.Refused why) = RefusesFor bytes why
IsRefused bytes error.OutOfMemory = Unit {0}
