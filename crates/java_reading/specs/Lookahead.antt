-- Whether a declaration or an expression comes next.
use Rattle.std.specs.Prelude.{◌&&◌, List, [], ◌∷◌, Bool, true, false}
use Rattle.java_tokens.specs.declared.token.Keyword.TheVariants as w
use Rattle.java_tokens.specs.declared.token.Operator.TheVariants as o
use Rattle.java_tokens.specs.declared.token.TokenKind.{TokenKind}
use Rattle.java_tokens.specs.declared.token.TokenKind.TheVariants as k
use Rattle.token_reading.specs.Lexeme.{Lexeme, sees, sees_word}
use Rattle.token_reading.specs.ReadType.{next}

-- what makes a name before it the type of a declaration: another name, or a pair of brackets
abbrev pub declares_by : TokenKind → List Lexeme → Bool
declares_by (k.Ident x) xs = true
declares_by (k.Op o.LeftBracket) xs = sees o.RightBracket xs
declares_by _ xs = false

abbrev pub declares : List Lexeme → Bool
declares [] = false
declares (x ∷ xs) = declares_by x.kind xs

abbrev pub local_by : TokenKind → List Lexeme → Bool
local_by (k.Ident x) xs = declares xs
local_by (k.Word w.Int) xs = true
local_by (k.Word w.Boolean) xs = true
local_by _ xs = false

-- The list begins as a declaration does: with `int` or `boolean`, two names, or a name and a pair of brackets.
abbrev pub is_local : List Lexeme → Bool
is_local [] = false
is_local (x ∷ xs) = local_by x.kind xs

-- `super` and `(`, with which a constructor's call begins
abbrev pub is_super_call : List Lexeme → Bool
is_super_call xs = sees_word w.Super xs && sees o.LeftParen (next xs)
