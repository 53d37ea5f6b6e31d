-- The values of constants: what an initialiser is, by what its parts are (JLS 15.29). It is made of literals, constants
-- that are declared earlier in the file, and operators, casts and `instanceof` being no such operators.
use Rattle.std.specs.Prelude.{pos, nat_le, if◌then◌else◌, ◌==◌, [], ◌∷◌, Option, Some, None, find, option_map}
use Rattle.pb_int.specs.Int32.{wrap}
use Rattle.java_syntax.specs.declared.expression.Expr.{Expr}
use Rattle.java_syntax.specs.declared.expression.Expr.TheOpen.{Expr-F}
use Rattle.java_syntax.specs.declared.expression.Expr.TheFolds.{fold-Expr}
use Rattle.class_table.specs.Names.{Name}
use Rattle.java_names.specs.declared.scope.Scope.{Scope}
use Rattle.java_names.specs.declared.symbol.FieldSymbol.{FieldSymbol}
use Rattle.java_names.specs.Scope.{Denoted, Local, Field, Class, Unknown, meaning_of}
use Rattle.java_exprs.specs.declared.environment.Environment.{Environment}
use Rattle.primitive_operators.specs.declared.scalar.Scalar.{Scalar}
use Rattle.primitive_operators.specs.declared.scalar.Scalar.TheVariants as scalar
use Rattle.java_exprs.specs.declared.folded.Folded.{Folded}
use Rattle.java_exprs.specs.declared.folded.Folded.TheVariants as folded
use Rattle.java_exprs.specs.Lookups.{member_of}
use Rattle.java_exprs.specs.Operators.{gives_int, gives_bool, text_folded, of_parts, unary_folded, binary_folded, choice_folded}

-- a constant that was read, with its value or without one; a field, and a constant that comes later, is no part
abbrev pub read_folded : Option (Option Scalar) → Folded
read_folded (Some (Some v)) = folded.Gives v
read_folded (Some None) = folded.Unknown
read_folded None = folded.Other

-- an instance field isn't among the constants
abbrev pub field_folded : Environment → FieldSymbol → Folded
field_folded env f = read_folded (option_map (λ c. c.1) (find (λ c. c.0 == f.at) env.constants))

abbrev pub found_folded : Environment → Option FieldSymbol → Folded
found_folded env (Some f) = field_folded env f
found_folded env None = folded.Other

-- a name is a constant, or a class before a dot
abbrev pub name_folded : Environment → Denoted → Folded
name_folded env (Field f) = field_folded env f
name_folded env (Class c) = folded.Class c
name_folded env (Local n) = folded.Other
name_folded env Unknown = folded.Other

-- a constant after a class
abbrev pub behind_folded : Environment → Folded → Name → Folded
behind_folded env (folded.Class c) x = found_folded env (member_of env c x)
behind_folded env _ x = folded.Other

abbrev pub folded_at : Environment → Scope → Expr-F Folded → Folded
folded_at env s (Expr-F.Number at n) = if nat_le n 2_147_483_648 then gives_int (wrap (pos n)) else folded.Unknown
folded_at env s (Expr-F.Text at t) = text_folded t
folded_at env s (Expr-F.Bool at b) = gives_bool b
folded_at env s (Expr-F.Null at) = folded.Gives scalar.Null
folded_at env s (Expr-F.Name x) = name_folded env (meaning_of env.symbols s x.name)
folded_at env s (Expr-F.Paren at e) = of_parts (e ∷ []) e
folded_at env s (Expr-F.Field o f) = behind_folded env o f.name
folded_at env s (Expr-F.Unary at op e) = of_parts (e ∷ []) (unary_folded op e)
folded_at env s (Expr-F.Binary op l r) = of_parts (l ∷ r ∷ []) (binary_folded op l r)
folded_at env s (Expr-F.Conditional c a b) = of_parts (c ∷ a ∷ b ∷ []) (choice_folded c a b)
folded_at env s _ = folded.Other

-- what an expression is as an initialiser, or as a part of one
unfoldable pub folded_of : Environment → Scope → Expr → Folded
folded_of env s = fold-Expr Folded (folded_at env s)

-- the value of a constant whose initialiser this is, where it breaks no rule
abbrev pub literal_of : Folded → Option Scalar
literal_of (folded.Gives v) = Some v
literal_of _ = None
