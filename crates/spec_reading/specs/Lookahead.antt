-- Whether a spec method comes next.
use Rattle.std.specs.Prelude.{◌&&◌, List, [], ◌∷◌, Bool, true, false, codes}
use Rattle.java_tokens.specs.declared.token.Keyword.{Keyword}
use Rattle.java_tokens.specs.declared.token.Keyword.TheVariants as w
use Rattle.java_tokens.specs.declared.token.TokenKind.{TokenKind}
use Rattle.java_tokens.specs.declared.token.TokenKind.TheVariants as k
use Rattle.token_reading.specs.Lexeme.{Lexeme}
use Rattle.token_reading.specs.ReadType.{next, sees_name}
use Rattle.token_reading.specs.Types.{past_brackets}
use Rattle.spec_reading.specs.ReadContract.{sees_text}

abbrev pub is_base_keyword : Keyword → Bool
is_base_keyword w.Int = true
is_base_keyword w.Boolean = true
is_base_keyword _ = false

abbrev pub is_base : TokenKind → Bool
is_base (k.Ident x) = true
is_base (k.Word s) = is_base_keyword s
is_base _ = false

-- the base of a type comes first
abbrev pub sees_base : List Lexeme → Bool
sees_base [] = false
sees_base (x ∷ xs) = is_base x.kind

-- `spec`, a type and an identifier come first
abbrev pub is_spec : List Lexeme → Bool
is_spec xs = sees_text (codes "spec") xs && (sees_base (next xs) && sees_name (past_brackets (next (next xs))))
