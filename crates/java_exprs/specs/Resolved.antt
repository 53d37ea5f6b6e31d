-- What an expression resolves to. Where a name is unknown, and where nothing is denoted that has a value or is called,
-- it means nothing.
use Rattle.std.specs.Prelude.{ℕ, pos, Bool, ◌||◌, List, [], ◌∷◌, map, length, Option, Some, None, slice_get, unwrap_or, if◌then◌else◌}
use Rattle.std.specs.Option.{option_map_or}
use Rattle.pb_int.specs.Int32.{wrap}
use Rattle.core_tree.specs.declared.ty.Ty.TheVariants as ty
use Rattle.core_tree.specs.declared.operator.UnOp.{UnOp}
use Rattle.core_tree.specs.declared.operator.UnOp.TheVariants as un
use Rattle.core_tree.specs.declared.operator.BinOp.{BinOp}
use Rattle.core_tree.specs.declared.operator.BinOp.TheVariants as bin
use Rattle.core_tree.specs.declared.expr.Site.{Site}
use Rattle.core_tree.specs.declared.expr.Expr.{Expr as Core}
use Rattle.core_tree.specs.declared.expr.Expr.TheVariants as core
use Rattle.core_tree.specs.declared.expr.Expr.TheViews as view
use Rattle.token_reading.specs.declared.name.Ident.{Ident}
use Rattle.java_syntax.specs.declared.operator.UnaryOp.{UnaryOp}
use Rattle.java_syntax.specs.declared.operator.UnaryOp.TheVariants as unary
use Rattle.java_syntax.specs.declared.operator.BinaryOp.{BinaryOp}
use Rattle.java_syntax.specs.declared.operator.BinaryOp.TheVariants as binary
use Rattle.token_reading.specs.declared.place.TokenPlace.{TokenPlace}
use Rattle.java_syntax.specs.declared.expression.Expr.TheOpen.{Expr-F}
use Rattle.class_table.specs.Names.{Name}
use Rattle.java_names.specs.declared.scope.Scope.{Scope}
use Rattle.java_names.specs.declared.symbol.MethodSymbol.{MethodSymbol}
use Rattle.java_exprs.specs.declared.environment.Environment.{Environment}
use Rattle.primitive_operators.specs.declared.scalar.Scalar.{Scalar}
use Rattle.primitive_operators.specs.declared.scalar.Scalar.TheVariants as scalar
use Rattle.java_denotes.specs.declared.denotation.Denotation.{Denotation}
use Rattle.java_denotes.specs.declared.denotation.Denotation.TheVariants as denotes
use Rattle.java_denotes.specs.declared.through.Through.TheVariants as through
use Rattle.java_exprs.specs.Attr.{Attr, Node}
use Rattle.java_denotes.specs.Members.{value_type, called_method, named_member}
use Rattle.java_exprs.specs.Members.{Naming, Calling, naming, calling}
use Rattle.java_denotes.specs.Denotes.{is_text}
use Rattle.java_exprs.specs.Lookups.{method_of, class_named, local_named, maker_of, type_named, elements_named, constant_at}

abbrev pub cores : List Attr → List Core
cores es = map (λ e. e.core) es

abbrev pub first_core : List Attr → Option Core
first_core [] = None
first_core (e ∷ es) = Some e.core

-- where a token begins; line 1 and column 1 where there is no such token
abbrev pub site_at : List TokenPlace → ℕ → Site
site_at places at = option_map_or (λ p. record { line = p.line; column = p.column }) (slice_get places at) (record { line = 1; column = 1 })

-- the value of a constant
abbrev pub literal_core : Scalar → Core
literal_core (scalar.Int n) = core.Int n
literal_core (scalar.Bool b) = core.Bool b
literal_core (scalar.Text t) = core.Text t
literal_core scalar.Null = core.Null

-- a field is read from its object; a constant is its value
abbrev pub member_core : Environment → Naming → Core
member_core env k =
    option_map_or (λ m. option_map_or (λ place. view.Field k.object place) m.place (option_map_or literal_core (constant_at env m.at) core.Null))
    (named_member env.symbols k) core.Null

-- a call on an object is chosen by its class; through `super` it isn't, and the built-in `getMessage` reads the message
abbrev pub instance_call : Calling → MethodSymbol → Site → Core
instance_call k m site = elim k.through [
  | through.Super ↦ option_map_or (λ number. view.Super number (cores k.arguments) site) m.number (view.Message core.This)
  | _ ↦ view.Chosen k.object (unwrap_or m.selector 0) (cores k.arguments) site
]

abbrev pub method_core : Environment → Calling → MethodSymbol → Core
method_core env k m =
    if m.is_static then view.Static (unwrap_or m.number 0) (cores k.arguments) (site_at env.places k.name.at)
    else instance_call k m (site_at env.places k.name.at)

abbrev pub call_core : Environment → Calling → Core
call_core env k = option_map_or (method_core env k) (called_method env.symbols k) core.Null

abbrev pub name_core : Environment → Scope → Ident → Option Naming → Core
name_core env s x k = option_map_or core.Local (local_named s x.name) (option_map_or (member_core env) k core.Null)

-- a constructor of the file, or one of a built-in class
abbrev pub new_core : Environment → Ident → List Attr → Core
new_core env c xs =
    option_map_or (λ class. option_map_or (λ m. option_map_or (λ number. view.New number (cores xs)) m.number (view.NewBuilt class (first_core xs)))
    (maker_of env class (length xs)) core.Null)
    (class_named env c.name) core.Null

-- a print's argument, and the methods of a String
abbrev pub text_core : Attr → Name → List Core → Core
text_core o m [] = view.TextLength o.core
text_core o m (x ∷ xs) = view.TextEquals o.core x

abbrev pub library_core : Attr → Name → List Attr → Option Denotation → Core
library_core o m xs (Some denotes.Output) = unwrap_or (first_core xs) core.Null
library_core o m xs _ = text_core o m (cores xs)

abbrev pub un_op : UnaryOp → UnOp
un_op unary.Plus = un.Plus
un_op unary.Minus = un.Neg
un_op unary.Not = un.Not
un_op unary.Complement = un.Flip

-- the operator on the values of its operands; `||` and `&&` are none
abbrev pub strict_op : BinaryOp → Option BinOp
strict_op binary.Or = None
strict_op binary.And = None
strict_op binary.BitOr = Some bin.BitOr
strict_op binary.BitXor = Some bin.BitXor
strict_op binary.BitAnd = Some bin.BitAnd
strict_op binary.Equal = Some bin.Eq
strict_op binary.NotEqual = Some bin.Ne
strict_op binary.Less = Some bin.Lt
strict_op binary.Greater = Some bin.Gt
strict_op binary.LessEqual = Some bin.Le
strict_op binary.GreaterEqual = Some bin.Ge
strict_op binary.ShiftLeft = Some bin.Shl
strict_op binary.ShiftRight = Some bin.Shr
strict_op binary.UnsignedShiftRight = Some bin.Ushr
strict_op binary.Add = Some bin.Add
strict_op binary.Subtract = Some bin.Sub
strict_op binary.Multiply = Some bin.Mul
strict_op binary.Divide = Some bin.Div
strict_op binary.Remainder = Some bin.Rem

abbrev pub value_core : BinaryOp → Core → Core → Core
value_core op l r = option_map_or (λ strict. view.Binary strict l r) (strict_op op) core.Null

-- `||` and `&&`, `+` where it joins texts, and the operators on values
abbrev pub binary_core : BinaryOp → Bool → Core → Core → Core
binary_core binary.Or text l r = view.Or l r
binary_core binary.And text l r = view.And l r
binary_core binary.Add text l r = if text then view.Concat l r else view.Binary bin.Add l r
binary_core op text l r = value_core op l r

-- one of the operands is a String
abbrev pub joins : Attr → Attr → Bool
joins l r = is_text (value_type l.denotes) || is_text (value_type r.denotes)

abbrev pub core_of : Environment → Scope → Node → Core
core_of env s (Expr-F.Number at n) = core.Int (wrap (pos n))
core_of env s (Expr-F.Text at t) = core.Text t
core_of env s (Expr-F.Bool at b) = core.Bool b
core_of env s (Expr-F.Null at) = core.Null
core_of env s (Expr-F.This at) = core.This
core_of env s (Expr-F.Name x) = name_core env s x (naming env s (Expr-F.Name x))
core_of env s (Expr-F.Call m xs) = option_map_or (call_core env) (calling env s (Expr-F.Call m xs)) core.Null
core_of env s (Expr-F.Paren at e) = e.core
core_of env s (Expr-F.Super at m xs) = option_map_or (call_core env) (calling env s (Expr-F.Super at m xs)) core.Null
core_of env s (Expr-F.New at c xs) = new_core env c xs
core_of env s (Expr-F.NewArray at base e dimensions) = view.NewArray (unwrap_or (elements_named env base dimensions) ty.Int) e.core
core_of env s (Expr-F.Field o f) = option_map_or (member_core env) (naming env s (Expr-F.Field o f)) (view.Length o.core)
core_of env s (Expr-F.Method o m xs) = option_map_or (call_core env) (calling env s (Expr-F.Method o m xs)) (library_core o m.name xs o.denotes)
core_of env s (Expr-F.Element a i) = view.Element a.core i.core
core_of env s (Expr-F.Unary at op e) = view.Unary (un_op op) e.core
core_of env s (Expr-F.Cast at t e) = view.Cast (unwrap_or (type_named env t) ty.Int) e.core
core_of env s (Expr-F.Binary op l r) = binary_core op (joins l r) l.core r.core
core_of env s (Expr-F.InstanceOf e t) = view.Is (unwrap_or (type_named env t) ty.Int) e.core
core_of env s (Expr-F.Conditional c a b) = view.Cond c.core a.core b.core
