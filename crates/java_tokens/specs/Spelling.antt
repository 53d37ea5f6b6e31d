-- The texts of keywords and operators, and which texts are those of a token of each kind.
use Rattle.std.specs.Prelude.{◌≡◌, ◌≢◌, ◌≤◌, ◌⊎◌, ℕ, ◌+◌, ◌*◌, ◌-◌, true, IsTrue, List, [], ◌∷◌, ◌++◌, length, fold, codes, Some}
use Rattle.std.specs.List.{list_all}
use Rattle.java_tokens.specs.declared.token.TokenKind.{TokenKind}
use Rattle.java_tokens.specs.declared.token.TokenKind.TheVariants.{Ident, Number, Text, Word, Op, End}
use Rattle.java_tokens.specs.declared.token.Keyword.{Keyword}
use Rattle.java_tokens.specs.declared.token.Keyword.TheVariants as keyword
use Rattle.java_tokens.specs.declared.token.Operator.{Operator}
use Rattle.java_tokens.specs.declared.token.Operator.TheVariants as operator
use Rattle.java_tokens.specs.Characters.{is_digit, is_identifier_start, is_identifier_part, is_plain, escaped, first_passes}

-- the keywords (JLS 3.9, but for `_`, which is an identifier here), and the three literals that are spelled like
-- them (JLS 3.10)
abbrev pub keyword_text : Keyword → List ℕ
keyword_text keyword.Abstract = codes "abstract"
keyword_text keyword.Assert = codes "assert"
keyword_text keyword.Boolean = codes "boolean"
keyword_text keyword.Break = codes "break"
keyword_text keyword.Byte = codes "byte"
keyword_text keyword.Case = codes "case"
keyword_text keyword.Catch = codes "catch"
keyword_text keyword.Char = codes "char"
keyword_text keyword.Class = codes "class"
keyword_text keyword.Const = codes "const"
keyword_text keyword.Continue = codes "continue"
keyword_text keyword.Default = codes "default"
keyword_text keyword.Do = codes "do"
keyword_text keyword.Double = codes "double"
keyword_text keyword.Else = codes "else"
keyword_text keyword.Enum = codes "enum"
keyword_text keyword.Extends = codes "extends"
keyword_text keyword.Final = codes "final"
keyword_text keyword.Finally = codes "finally"
keyword_text keyword.Float = codes "float"
keyword_text keyword.For = codes "for"
keyword_text keyword.Goto = codes "goto"
keyword_text keyword.If = codes "if"
keyword_text keyword.Implements = codes "implements"
keyword_text keyword.Import = codes "import"
keyword_text keyword.Instanceof = codes "instanceof"
keyword_text keyword.Int = codes "int"
keyword_text keyword.Interface = codes "interface"
keyword_text keyword.Long = codes "long"
keyword_text keyword.Native = codes "native"
keyword_text keyword.New = codes "new"
keyword_text keyword.Package = codes "package"
keyword_text keyword.Private = codes "private"
keyword_text keyword.Protected = codes "protected"
keyword_text keyword.Public = codes "public"
keyword_text keyword.Return = codes "return"
keyword_text keyword.Short = codes "short"
keyword_text keyword.Static = codes "static"
keyword_text keyword.Strictfp = codes "strictfp"
keyword_text keyword.Super = codes "super"
keyword_text keyword.Switch = codes "switch"
keyword_text keyword.Synchronized = codes "synchronized"
keyword_text keyword.This = codes "this"
keyword_text keyword.Throw = codes "throw"
keyword_text keyword.Throws = codes "throws"
keyword_text keyword.Transient = codes "transient"
keyword_text keyword.Try = codes "try"
keyword_text keyword.Void = codes "void"
keyword_text keyword.Volatile = codes "volatile"
keyword_text keyword.While = codes "while"
keyword_text keyword.True = codes "true"
keyword_text keyword.False = codes "false"
keyword_text keyword.Null = codes "null"

-- the separators and operators (JLS 3.11, 3.12), and the signs of the contract language: `..`, `#`, `=>`, `<=>`
abbrev pub operator_text : Operator → List ℕ
operator_text operator.LeftParen = codes "("
operator_text operator.RightParen = codes ")"
operator_text operator.LeftBrace = codes "{"
operator_text operator.RightBrace = codes "}"
operator_text operator.LeftBracket = codes "["
operator_text operator.RightBracket = codes "]"
operator_text operator.Semicolon = codes ";"
operator_text operator.Comma = codes ","
operator_text operator.Dot = codes "."
operator_text operator.DotDot = codes ".."
operator_text operator.Assign = codes "="
operator_text operator.Greater = codes ">"
operator_text operator.Less = codes "<"
operator_text operator.Not = codes "!"
operator_text operator.Tilde = codes "~"
operator_text operator.Question = codes "?"
operator_text operator.Colon = codes ":"
operator_text operator.Hash = codes "#"
operator_text operator.Equal = codes "=="
operator_text operator.LessEqual = codes "<="
operator_text operator.GreaterEqual = codes ">="
operator_text operator.NotEqual = codes "!="
operator_text operator.AndAnd = codes "&&"
operator_text operator.OrOr = codes "||"
operator_text operator.Increment = codes "++"
operator_text operator.Decrement = codes "--"
operator_text operator.Plus = codes "+"
operator_text operator.Minus = codes "-"
operator_text operator.Star = codes "*"
operator_text operator.Slash = codes "/"
operator_text operator.And = codes "&"
operator_text operator.Or = codes "|"
operator_text operator.Xor = codes "^"
operator_text operator.Percent = codes "%"
operator_text operator.ShiftLeft = codes "<<"
operator_text operator.ShiftRight = codes ">>"
operator_text operator.UnsignedShiftRight = codes ">>>"
operator_text operator.PlusAssign = codes "+="
operator_text operator.MinusAssign = codes "-="
operator_text operator.StarAssign = codes "*="
operator_text operator.SlashAssign = codes "/="
operator_text operator.AndAssign = codes "&="
operator_text operator.OrAssign = codes "|="
operator_text operator.XorAssign = codes "^="
operator_text operator.PercentAssign = codes "%="
operator_text operator.ShiftLeftAssign = codes "<<="
operator_text operator.ShiftRightAssign = codes ">>="
operator_text operator.UnsignedShiftRightAssign = codes ">>>="
operator_text operator.Implies = codes "=>"
operator_text operator.Iff = codes "<=>"

-- an identifier: a start character, then parts of identifiers, and no keyword (JLS 3.8)
pub record IsIdentifier (text : List ℕ) : Type 0 where
  pub start : IsTrue (first_passes is_identifier_start text)
  pub parts : IsTrue (list_all is_identifier_part text)
  pub not_keyword : (k : Keyword) → text ≢ keyword_text k

-- the number that decimal digits spell
abbrev pub number_of : List ℕ → ℕ
number_of text = fold (λ sum digit. sum * 10 + (digit - 48)) 0 text

-- a decimal number: one to ten digits, the first of them a zero only where it is alone (JLS 3.10.1)
pub record IsNumber (text : List ℕ) : Type 0 where
  pub start : IsTrue (first_passes is_digit text)
  pub digits : IsTrue (list_all is_digit text)
  pub few : length text ≤ 10
  pub no_leading_zero : (rest : List ℕ) → text ≡ 48 ∷ rest → rest ≡ []

-- a character of a string is spelled by itself, or by an escape (JLS 3.10.5, 3.10.7)
abbrev pub SpellsCharacter : ℕ → List ℕ → Type 0
SpellsCharacter c text =
    ((text ≡ c ∷ []) × (is_plain c ≡ true))
    ⊎ ((letter : ℕ) × (text ≡ 92 ∷ letter ∷ []) × (escaped letter ≡ Some c))

-- the characters of a string are spelled one after another
abbrev pub SpellsCharacters : List ℕ → List ℕ → Type 0
SpellsCharacters [] text = text ≡ []
SpellsCharacters (c ∷ cs) text = (first rest : List ℕ) × (text ≡ first ++ rest) × SpellsCharacter c first × SpellsCharacters cs rest

-- a string with these characters: their spellings between two `"`
abbrev pub IsString : List ℕ → List ℕ → Type 0
IsString characters text = (body : List ℕ) × (text ≡ 34 ∷ (body ++ 34 ∷ [])) × SpellsCharacters characters body

-- the text is one of a token of this kind
abbrev pub IsSpelled : TokenKind → List ℕ → Type 0
IsSpelled (Ident name) text = (text ≡ name) × IsIdentifier text
IsSpelled (Number n) text = (n ≡ number_of text) × IsNumber text
IsSpelled (Text characters) text = IsString characters text
IsSpelled (Word k) text = text ≡ keyword_text k
IsSpelled (Op o) text = text ≡ operator_text o
IsSpelled End text = ⊥
