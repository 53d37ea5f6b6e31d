-- Reading of single tokens, identifiers, types and parameters, as functions on lists.
use Rattle.std.specs.Prelude.{ℕ, zero, suc, ◌+◌, ◌&&◌, nat_lt, if◌then◌else◌, List, [], ◌∷◌, ◌++◌, length, Bool, true, false, Ok, Err}
use Rattle.java_tokens.specs.declared.token.Keyword.{Keyword}
use Rattle.java_tokens.specs.declared.token.Keyword.TheVariants as w
use Rattle.java_tokens.specs.declared.token.Operator.{Operator}
use Rattle.java_tokens.specs.declared.token.Operator.TheVariants as o
use Rattle.java_tokens.specs.declared.token.TokenKind.{TokenKind}
use Rattle.java_tokens.specs.declared.token.TokenKind.TheVariants as k
use Rattle.token_reading.specs.declared.name.BaseType.{BaseType}
use Rattle.token_reading.specs.declared.name.BaseType.TheVariants as base
use Rattle.token_reading.specs.declared.name.Ident.{Ident}
use Rattle.token_reading.specs.declared.name.ParamTree.{ParamTree}
use Rattle.token_reading.specs.declared.name.TypeTree.{TypeTree}
use Rattle.token_reading.specs.Lexeme.{Lexeme, sees, sees_word}
use Rattle.token_reading.specs.Outcome.{no_tree, too_high, Parser, ◌>>=◌}

-- without the first token
abbrev pub next : List Lexeme → List Lexeme
next [] = []
next (x ∷ xs) = xs

-- the operator or separator
unfoldable pub expect : Operator → Parser (Unit {0})
expect s xs = if sees s xs then Ok (tt, next xs) else Err no_tree

-- the keyword
unfoldable pub expect_word : Keyword → Parser (Unit {0})
expect_word s xs = if sees_word s xs then Ok (tt, next xs) else Err no_tree

-- where no height is left: too high before a token, and no tree at the end of the tokens
unfoldable pub none_fits : {A : Type 0} → Parser A
none_fits [] = Err no_tree
none_fits (x ∷ xs) = Err too_high

-- ---- identifiers

abbrev pub is_name : TokenKind → Bool
is_name (k.Ident x) = true
is_name _ = false

-- an identifier comes first
abbrev pub sees_name : List Lexeme → Bool
sees_name [] = false
sees_name (x ∷ xs) = is_name x.kind

abbrev pub ident_at : ℕ → List ℕ → Ident
ident_at at name = record { at = at; name = name }

abbrev pub ident_by : ℕ → TokenKind → Parser Ident
ident_by at (k.Ident x) xs = Ok (ident_at at x, xs)
ident_by at _ xs = Err no_tree

unfoldable pub ident : Parser Ident
ident [] = Err no_tree
ident (x ∷ xs) = ident_by x.at x.kind xs

-- ---- types

-- pairs of brackets, beyond those that are found; the first number bounds the turns
unfoldable pub brackets : ℕ → ℕ → Parser ℕ
brackets zero found xs = Ok (found, xs)
brackets (suc n) found xs =
    if sees o.LeftBracket xs then (expect o.RightBracket (next xs) >>= (λ _ ys. brackets n (found + 1) ys))
    else Ok (found, xs)

-- a pair of brackets comes first
abbrev pub sees_pair : List Lexeme → Bool
sees_pair xs = sees o.LeftBracket xs && sees o.RightBracket (next xs)

-- all pairs of brackets that come first, at most this many
unfoldable pub pairs : ℕ → Parser ℕ
pairs most xs = brackets (length xs) 0 xs >>= (λ n ys. if nat_lt most n then Err too_high else Ok (n, ys))

abbrev pub base_keyword : Keyword → Parser BaseType
base_keyword w.Int xs = Ok (base.Int, xs)
base_keyword w.Boolean xs = Ok (base.Boolean, xs)
base_keyword _ xs = Err no_tree

abbrev pub base_by : ℕ → TokenKind → Parser BaseType
base_by at (k.Ident x) xs = Ok (base.Class (ident_at at x), xs)
base_by at (k.Word s) xs = base_keyword s xs
base_by at _ xs = Err no_tree

-- `int`, `boolean` or the name of a class
unfoldable pub base_type : Parser BaseType
base_type [] = Err no_tree
base_type (x ∷ xs) = base_by x.at x.kind xs

abbrev pub type_of : BaseType → ℕ → TypeTree
type_of b n = record { base = b; dimensions = n }

-- a type of at most this height
unfoldable pub type_tree : ℕ → Parser TypeTree
type_tree most xs = base_type xs >>= (λ b ys. pairs most ys >>= (λ n zs. Ok (type_of b n, zs)))

-- ---- parameters whose types have at most this height

abbrev pub param_of : TypeTree → Ident → ParamTree
param_of t x = record { ty = t; name = x }

unfoldable pub param : ℕ → Parser ParamTree
param most xs = type_tree most xs >>= (λ t ys. ident ys >>= (λ x zs. Ok (param_of t x, zs)))

-- further parameters and the closing parenthesis, after those that are found; the second number bounds the turns
unfoldable pub more_params : ℕ → ℕ → List ParamTree → Parser (List ParamTree)
more_params most zero found xs = Err no_tree
more_params most (suc n) found xs =
    param most xs >>= (λ t ys.
    if sees o.Comma ys then more_params most n (found ++ t ∷ []) (next ys)
    else (expect o.RightParen ys >>= (λ _ zs. Ok (found ++ t ∷ [], zs))))

-- the parameters in their parentheses
unfoldable pub params : ℕ → Parser (List ParamTree)
params most xs =
    expect o.LeftParen xs >>= (λ _ ys.
    if sees o.RightParen ys then Ok ([], next ys) else more_params most (length ys) [] ys)
