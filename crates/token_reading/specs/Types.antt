-- Which identifiers, types and parameters the tokens are (JLS 3.8, 4.2, 4.3, 8.4.1).
use Rattle.std.specs.Prelude.{◌≡◌, ℕ, zero, suc, ◌&&◌, if◌then◌else◌, List, [], ◌∷◌, Bool, true, false}
use Rattle.java_tokens.specs.declared.token.Keyword.TheVariants as w
use Rattle.java_tokens.specs.declared.token.Operator.TheVariants as o
use Rattle.java_tokens.specs.declared.token.TokenKind.TheVariants as k
use Rattle.token_reading.specs.declared.name.BaseType.{BaseType}
use Rattle.token_reading.specs.declared.name.BaseType.TheVariants as base
use Rattle.token_reading.specs.declared.name.Ident.{Ident}
use Rattle.token_reading.specs.declared.name.ParamTree.{ParamTree}
use Rattle.token_reading.specs.declared.name.TypeTree.{TypeTree}
use Rattle.token_reading.specs.Lexeme.{Lexeme, lexeme, Then, is_operator}

-- the identifier comes first, and the rest stands after it
abbrev pub IsIdent : Ident → List Lexeme → List Lexeme → Type 0
IsIdent x xs rest = xs ≡ lexeme x.at (k.Ident x.name) ∷ rest

-- that many pairs of brackets
abbrev pub Brackets : ℕ → List Lexeme → List Lexeme → Type 0
Brackets zero xs rest = xs ≡ rest
Brackets (suc n) xs rest =
    (ys : List Lexeme) × Then (k.Op o.LeftBracket) xs ys
    × (zs : List Lexeme) × Then (k.Op o.RightBracket) ys zs × Brackets n zs rest

-- `int`, `boolean` or the name of a class
abbrev pub IsBase : BaseType → List Lexeme → List Lexeme → Type 0
IsBase base.Int xs rest = Then (k.Word w.Int) xs rest
IsBase base.Boolean xs rest = Then (k.Word w.Boolean) xs rest
IsBase (base.Class x) xs rest = IsIdent x xs rest

-- a base, and pairs of brackets after it
abbrev pub IsType : TypeTree → List Lexeme → List Lexeme → Type 0
IsType t xs rest = (ys : List Lexeme) × IsBase t.base xs ys × Brackets t.dimensions ys rest

-- a type to which casts are: all but `int` and `boolean` alone
abbrev pub castable_by : BaseType → ℕ → Bool
castable_by (base.Class x) n = true
castable_by _ zero = false
castable_by _ (suc n) = true

abbrev pub castable : TypeTree → Bool
castable t = castable_by t.base t.dimensions

-- what stands after pairs of brackets
abbrev pub past_brackets : List Lexeme → List Lexeme
past_brackets [] = []
past_brackets (x ∷ []) = x ∷ []
past_brackets (x ∷ y ∷ xs) =
    if is_operator o.LeftBracket x.kind && is_operator o.RightBracket y.kind then past_brackets xs else x ∷ y ∷ xs

-- ---- parameters

-- a type and a name (JLS 8.4.1)
abbrev pub Param : ParamTree → List Lexeme → List Lexeme → Type 0
Param t xs rest = (ys : List Lexeme) × IsType t.ty xs ys × IsIdent t.name ys rest

-- further parameters, and the closing parenthesis
abbrev pub MoreParams : List ParamTree → List Lexeme → List Lexeme → Type 0
MoreParams [] xs rest = Then (k.Op o.RightParen) xs rest
MoreParams (t ∷ more) xs rest =
    (ys : List Lexeme) × Then (k.Op o.Comma) xs ys × (zs : List Lexeme) × Param t ys zs × MoreParams more zs rest

-- the parameters after the opening parenthesis
abbrev pub Params : List ParamTree → List Lexeme → List Lexeme → Type 0
Params [] xs rest = Then (k.Op o.RightParen) xs rest
Params (t ∷ more) xs rest = (ys : List Lexeme) × Param t xs ys × MoreParams more ys rest
