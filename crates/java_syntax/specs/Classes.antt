-- Which members and classes the tokens are (JLS 8).
use Rattle.std.specs.Prelude.{◌≡◌, ℕ, zero, suc, ◌≤◌, max, List, [], ◌∷◌, Bool, true, false, Option, Some, None}
use Rattle.java_tokens.specs.declared.token.Keyword.{Keyword}
use Rattle.java_tokens.specs.declared.token.Keyword.TheVariants as w
use Rattle.java_tokens.specs.declared.token.Operator.TheVariants as o
use Rattle.java_tokens.specs.declared.token.TokenKind.TheVariants as k
use Rattle.java_syntax.specs.declared.class.ClassTree.{ClassTree}
use Rattle.java_syntax.specs.declared.class.FieldTree.{FieldTree}
use Rattle.java_syntax.specs.declared.class.MakerTree.{MakerTree}
use Rattle.java_syntax.specs.declared.class.Member.{Member}
use Rattle.java_syntax.specs.declared.class.Member.TheVariants as member
use Rattle.java_syntax.specs.declared.class.MethodTree.{MethodTree}
use Rattle.java_syntax.specs.declared.class.Modifier.{Modifier}
use Rattle.java_syntax.specs.declared.class.Modifier.TheVariants as modifier
use Rattle.token_reading.specs.declared.name.ParamTree.{ParamTree}
use Rattle.java_syntax.specs.declared.expression.Expr.{Expr}
use Rattle.token_reading.specs.declared.name.Ident.{Ident}
use Rattle.token_reading.specs.declared.name.TypeTree.{TypeTree}
use Rattle.java_syntax.specs.declared.statement.Stmt.{Stmt}
use Rattle.token_reading.specs.Lexeme.{Lexeme, Then}
use Rattle.token_reading.specs.Types.{IsIdent, IsType, Params}
use Rattle.token_reading.specs.Height.{type_height, params_height}
use Rattle.java_syntax.specs.Exprs.{Within}
use Rattle.java_syntax.specs.Stmts.{Initial, UnendedWithin, Stmts, StmtWithin}

-- ---- parts of a member

-- the keyword of a modifier
abbrev pub modifier_word : Modifier → Keyword
modifier_word modifier.Public = w.Public
modifier_word modifier.Protected = w.Protected
modifier_word modifier.Private = w.Private
modifier_word modifier.Static = w.Static
modifier_word modifier.Final = w.Final

-- any modifiers in any order, repeated ones included
abbrev pub Modifiers : List Modifier → List Lexeme → List Lexeme → Type 0
Modifiers [] xs rest = xs ≡ rest
Modifiers (m ∷ more) xs rest = (ys : List Lexeme) × Then (k.Word (modifier_word m)) xs ys × Modifiers more ys rest

-- further names
abbrev pub MoreNames : List Ident → List Lexeme → List Lexeme → Type 0
MoreNames [] xs rest = xs ≡ rest
MoreNames (x ∷ more) xs rest =
    (ys : List Lexeme) × Then (k.Op o.Comma) xs ys × (zs : List Lexeme) × IsIdent x ys zs × MoreNames more zs rest

-- the exceptions that are declared, or nothing (JLS 8.4.6)
abbrev pub Throws : List Ident → List Lexeme → List Lexeme → Type 0
Throws [] xs rest = xs ≡ rest
Throws (x ∷ more) xs rest =
    (ys : List Lexeme) × Then (k.Word w.Throws) xs ys × (zs : List Lexeme) × IsIdent x ys zs × MoreNames more zs rest

-- the type of a method's result, or `void` (JLS 8.4.5)
abbrev pub Answer : Option TypeTree → List Lexeme → List Lexeme → Type 0
Answer None xs rest = Then (k.Word w.Void) xs rest
Answer (Some t) xs rest = IsType t xs rest

-- ---- members. `Part` is of expressions, and `Body all xs rest` says that these statements and a closing brace are written
-- at the front of xs, and that the rest stands after them.

module _ (Part : Expr → ℕ → List Lexeme → List Lexeme → Type 0) (Body : List Stmt → List Lexeme → List Lexeme → Type 0) where
  -- parameters, exceptions and body of a method or constructor
  abbrev pub Invocable : List ParamTree → List Ident → List Stmt → List Lexeme → List Lexeme → Type 0
  Invocable params throws body xs rest =
      (ys : List Lexeme) × Then (k.Op o.LeftParen) xs ys × (zs : List Lexeme) × Params params ys zs
      × (us : List Lexeme) × Throws throws zs us × (vs : List Lexeme) × Then (k.Op o.LeftBrace) us vs × Body body vs rest

  -- a field or a constant (JLS 8.3)
  abbrev pub IsField : FieldTree → List Lexeme → List Lexeme → Type 0
  IsField t xs rest =
      (ys : List Lexeme) × Modifiers t.mods.words xs ys × (zs : List Lexeme) × IsType t.ty ys zs
      × (us : List Lexeme) × IsIdent t.name zs us × (vs : List Lexeme) × Initial Part t.value us vs × Then (k.Op o.Semicolon) vs rest

  -- a method (JLS 8.4)
  abbrev pub IsMethod : MethodTree → List Lexeme → List Lexeme → Type 0
  IsMethod t xs rest =
      (ys : List Lexeme) × Modifiers t.mods.words xs ys × (zs : List Lexeme) × Answer t.answer ys zs
      × (us : List Lexeme) × IsIdent t.name zs us × Invocable t.params t.throws t.body us rest

  -- a constructor (JLS 8.8)
  abbrev pub IsMaker : MakerTree → List Lexeme → List Lexeme → Type 0
  IsMaker t xs rest =
      (ys : List Lexeme) × Modifiers t.mods.words xs ys × (zs : List Lexeme) × IsIdent t.name ys zs
      × Invocable t.params t.throws t.body zs rest

  -- one production for each kind of member
  abbrev pub MemberNode : Member → List Lexeme → List Lexeme → Type 0
  MemberNode (member.Field t) xs rest = IsField t xs rest
  MemberNode (member.Method t) xs rest = IsMethod t xs rest
  MemberNode (member.Maker t) xs rest = IsMaker t xs rest
  MemberNode member.Empty xs rest = Then (k.Op o.Semicolon) xs rest

-- the height of the type of a method's result, and 0 of `void`
abbrev pub answer_height : Option TypeTree → ℕ
answer_height None = 0
answer_height (Some t) = type_height t

-- the greatest height of the types before a member's body or value
abbrev pub member_type_height : Member → ℕ
member_type_height (member.Field t) = type_height t.ty
member_type_height (member.Method t) = max (answer_height t.answer) (params_height t.params)
member_type_height (member.Maker t) = params_height t.params
member_type_height member.Empty = 0

-- the member, of at most this height
abbrev pub MemberWithin : ℕ → Member → List Lexeme → List Lexeme → Type 0
MemberWithin zero t xs rest = ⊥
MemberWithin (suc n) t xs rest =
    MemberNode (Within n) (Stmts (Within n) (UnendedWithin n) (StmtWithin n)) t xs rest × (member_type_height t ≤ n)

-- ---- classes

-- `public`, or nothing
abbrev pub Public : Bool → List Lexeme → List Lexeme → Type 0
Public false xs rest = xs ≡ rest
Public true xs rest = Then (k.Word w.Public) xs rest

-- the superclass, or nothing (JLS 8.1.4)
abbrev pub Extends : Option Ident → List Lexeme → List Lexeme → Type 0
Extends None xs rest = xs ≡ rest
Extends (Some x) xs rest = (ys : List Lexeme) × Then (k.Word w.Extends) xs ys × IsIdent x ys rest

module _ (Part : Member → List Lexeme → List Lexeme → Type 0) where
  -- members and the closing brace
  abbrev pub Members : List Member → List Lexeme → List Lexeme → Type 0
  Members [] xs rest = Then (k.Op o.RightBrace) xs rest
  Members (t ∷ more) xs rest = (ys : List Lexeme) × Part t xs ys × Members more ys rest

  -- a class (JLS 8.1)
  abbrev pub IsClass : ClassTree → List Lexeme → List Lexeme → Type 0
  IsClass t xs rest =
      (ys : List Lexeme) × Public t.is_public xs ys × (zs : List Lexeme) × Then (k.Word w.Class) ys zs
      × (us : List Lexeme) × IsIdent t.name zs us × (vs : List Lexeme) × Extends t.parent us vs
      × (ws : List Lexeme) × Then (k.Op o.LeftBrace) vs ws × Members t.members ws rest

-- the class, of at most this height
abbrev pub ClassWithin : ℕ → ClassTree → List Lexeme → List Lexeme → Type 0
ClassWithin zero t xs rest = ⊥
ClassWithin (suc n) t xs rest = IsClass (MemberWithin n) t xs rest
