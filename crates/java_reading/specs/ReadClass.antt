-- Reading of members, classes and files, as functions on lists.
use Rattle.std.specs.Prelude.{ℕ, zero, suc, ◌&&◌, if◌then◌else◌, List, [], ◌∷◌, ◌++◌, length, Bool, true, false, Option, Some, None, Ok, Err}
use Rattle.java_tokens.specs.declared.token.Keyword.{Keyword}
use Rattle.java_tokens.specs.declared.token.Keyword.TheVariants as w
use Rattle.java_tokens.specs.declared.token.Operator.TheVariants as o
use Rattle.java_tokens.specs.declared.token.TokenKind.{TokenKind}
use Rattle.java_tokens.specs.declared.token.TokenKind.TheVariants as k
use Rattle.java_syntax.specs.declared.class.ClassTree.{ClassTree}
use Rattle.java_syntax.specs.declared.class.FieldTree.{FieldTree}
use Rattle.java_syntax.specs.declared.class.MakerTree.{MakerTree}
use Rattle.java_syntax.specs.declared.class.Member.{Member}
use Rattle.java_syntax.specs.declared.class.Member.TheVariants as kinds
use Rattle.java_syntax.specs.declared.class.MethodTree.{MethodTree}
use Rattle.java_syntax.specs.declared.class.Modifier.{Modifier}
use Rattle.java_syntax.specs.declared.class.Modifier.TheVariants as modifier
use Rattle.java_syntax.specs.declared.class.Mods.{Mods}
use Rattle.token_reading.specs.declared.name.ParamTree.{ParamTree}
use Rattle.java_syntax.specs.declared.expression.Expr.{Expr}
use Rattle.token_reading.specs.declared.name.Ident.{Ident}
use Rattle.token_reading.specs.declared.name.TypeTree.{TypeTree}
use Rattle.java_syntax.specs.declared.statement.Stmt.{Stmt}
use Rattle.token_reading.specs.Lexeme.{Lexeme, sees, sees_word}
use Rattle.token_reading.specs.Outcome.{no_tree, Parser, ◌>>=◌}
use Rattle.token_reading.specs.ReadType.{next, expect, expect_word, none_fits, sees_name, ident, type_tree, params}
use Rattle.java_reading.specs.ReadStmt.{value, initial, body}

-- ---- modifiers

abbrev pub modifier_keyword : Keyword → Option Modifier
modifier_keyword w.Public = Some modifier.Public
modifier_keyword w.Protected = Some modifier.Protected
modifier_keyword w.Private = Some modifier.Private
modifier_keyword w.Static = Some modifier.Static
modifier_keyword w.Final = Some modifier.Final
modifier_keyword _ = None

abbrev pub modifier_by : TokenKind → Option Modifier
modifier_by (k.Word word) = modifier_keyword word
modifier_by _ = None

-- the modifier that comes first
abbrev pub modifier_at : List Lexeme → Option Modifier
modifier_at [] = None
modifier_at (x ∷ xs) = modifier_by x.kind

abbrev pub on : {A B : Type 0} → Option A → (A → B) → B → B
on (Some a) some none = some a
on None some none = none

-- all modifiers that stand there, after those that are found; the number bounds the turns
unfoldable pub modifiers : ℕ → List Modifier → Parser (List Modifier)
modifiers zero found xs = on (modifier_at xs) (λ m. Err no_tree) (Ok (found, xs))
modifiers (suc n) found xs = on (modifier_at xs) (λ m. modifiers n (found ++ m ∷ []) (next xs)) (Ok (found, xs))

-- ---- exceptions

-- names with commas between them, after those that are found
unfoldable pub names : ℕ → List Ident → Parser (List Ident)
names zero found xs = Err no_tree
names (suc n) found xs =
    ident xs >>= (λ x ys. if sees o.Comma ys then names n (found ++ x ∷ []) (next ys) else Ok (found ++ x ∷ [], ys))

-- the exceptions that are declared, or nothing
unfoldable pub throws : Parser (List Ident)
throws xs = if sees_word w.Throws xs then names (length xs) [] (next xs) else Ok ([], xs)

-- ---- members. Their types have the height n at most; `value` reads an expression and `body` a body that are lower than
-- the whole.

abbrev pub mods_of : List Modifier → Mods
mods_of words = record { words = words }

abbrev pub maker_of : Mods → Ident → List ParamTree → List Ident → List Stmt → MakerTree
maker_of mods name params throws body = record { mods = mods; name = name; params = params; throws = throws; body = body }

abbrev pub method_of : Option TypeTree → MakerTree → MethodTree
method_of answer t =
    record { mods = t.mods; answer = answer; name = t.name; params = t.params; throws = t.throws; body = t.body }

abbrev pub field_of : Mods → TypeTree → Ident → Option Expr → FieldTree
field_of mods t name value = record { mods = mods; ty = t; name = name; value = value }

-- a name and a `(`
abbrev pub is_maker : List Lexeme → Bool
is_maker xs = sees_name xs && sees o.LeftParen (next xs)

module _ (n : ℕ) (value : Parser Expr) (body : Parser (List Stmt)) where
  -- a constructor after its name
  unfoldable pub maker : Mods → Ident → Parser MakerTree
  maker mods name xs =
      params n xs >>= (λ ps ys. throws ys >>= (λ ts zs. expect o.LeftBrace zs >>= (λ _ us. body us >>= (λ all vs.
      Ok (maker_of mods name ps ts all, vs)))))

  -- a method after its name, where the same stands
  unfoldable pub method : Mods → Option TypeTree → Ident → Parser Member
  method mods answer name xs = maker mods name xs >>= (λ t ys. Ok (kinds.Method (method_of answer t), ys))

  -- a field after its name
  unfoldable pub field : Mods → TypeTree → Ident → Parser Member
  field mods t name xs = initial value xs >>= (λ e ys. expect o.Semicolon ys >>= (λ _ zs. Ok (kinds.Field (field_of mods t name e), zs)))

  -- after the modifiers and `void`
  unfoldable pub void_method : Mods → Parser Member
  void_method mods xs = ident xs >>= (λ x ys. method mods None x ys)

  -- after the modifiers of a constructor
  unfoldable pub constructor : Mods → Parser Member
  constructor mods xs = ident xs >>= (λ x ys. maker mods x ys >>= (λ t zs. Ok (kinds.Maker t, zs)))

  -- after the modifiers of another method or of a field
  unfoldable pub typed : Mods → Parser Member
  typed mods xs =
      type_tree n xs >>= (λ t ys. ident ys >>= (λ x zs. if sees o.LeftParen zs then method mods (Some t) x zs else field mods t x zs))

  -- after the modifiers
  unfoldable pub declared : Mods → Parser Member
  declared mods xs =
      if sees_word w.Void xs then void_method mods (next xs) else (if is_maker xs then constructor mods xs else typed mods xs)

  unfoldable pub member_node : Parser Member
  member_node xs =
      if sees o.Semicolon xs then Ok (kinds.Empty, next xs)
      else (modifiers (length xs) [] xs >>= (λ words ys. declared (mods_of words) ys))

-- a member of at most this height
unfoldable pub member : ℕ → Parser Member
member zero xs = none_fits xs
member (suc n) xs = member_node n (value n) (body n) xs

-- ---- classes. `part` reads a member that is lower than the whole.

unfoldable pub public : Parser Bool
public xs = if sees_word w.Public xs then Ok (true, next xs) else Ok (false, xs)

-- the superclass, or nothing
unfoldable pub extends : Parser (Option Ident)
extends xs = if sees_word w.Extends xs then (ident (next xs) >>= (λ x ys. Ok (Some x, ys))) else Ok (None, xs)

abbrev pub class_of : Bool → Ident → Option Ident → List Member → ClassTree
class_of is_public name parent members = record { is_public = is_public; name = name; parent = parent; members = members }

module _ (part : Parser Member) where
  -- members and the closing brace, after those that are found
  unfoldable pub members : ℕ → List Member → Parser (List Member)
  members zero found xs = Err no_tree
  members (suc n) found xs =
      if sees o.RightBrace xs then Ok (found, next xs) else (part xs >>= (λ t ys. members n (found ++ t ∷ []) ys))

  unfoldable pub class_node : Parser ClassTree
  class_node xs =
      public xs >>= (λ p ys. expect_word w.Class ys >>= (λ _ zs. ident zs >>= (λ name us. extends us >>= (λ parent vs.
      expect o.LeftBrace vs >>= (λ _ ws. members (length ws) [] ws >>= (λ all ts. Ok (class_of p name parent all, ts)))))))

-- a class of at most this height
unfoldable pub class : ℕ → Parser ClassTree
class zero xs = none_fits xs
class (suc n) xs = class_node (member n) xs

-- ---- files

abbrev pub is_end : TokenKind → Bool
is_end k.End = true
is_end _ = false

-- the end of the source comes first
abbrev pub sees_end : List Lexeme → Bool
sees_end [] = false
sees_end (x ∷ xs) = is_end x.kind

-- classes of at most this height and the end, after those that are found
unfoldable pub classes : ℕ → ℕ → List ClassTree → Parser (List ClassTree)
classes n zero found xs = Err no_tree
classes n (suc fuel) found xs =
    if sees_end xs then Ok (found, next xs) else (class n xs >>= (λ t ys. classes n fuel (found ++ t ∷ []) ys))

-- nothing stands after the end
abbrev pub whole : List ClassTree → Parser (List ClassTree)
whole all [] = Ok (all, [])
whole all (x ∷ xs) = Err no_tree

-- the classes of a file of at most this height on the whole list
unfoldable pub file : ℕ → Parser (List ClassTree)
file n xs = classes n (length xs) [] xs >>= whole
