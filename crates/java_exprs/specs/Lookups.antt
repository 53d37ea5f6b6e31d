-- What is known beside an expression: what the file declares, and the values of its constants.
use Rattle.std.specs.Prelude.{ℕ, ◌==◌, Bool, List, Option, find, option_map, option_and_then}
use Rattle.core_tree.specs.declared.ty.Ty.{Ty}
use Rattle.token_reading.specs.declared.name.TypeTree.{TypeTree}
use Rattle.token_reading.specs.declared.name.BaseType.{BaseType}
use Rattle.class_table.specs.Names.{Name}
use Rattle.java_names.specs.declared.symbol.FieldSymbol.{FieldSymbol}
use Rattle.java_names.specs.declared.symbol.MethodSymbol.{MethodSymbol}
use Rattle.java_names.specs.declared.symbol.MakerSymbol.{MakerSymbol}
use Rattle.java_names.specs.declared.scope.Scope.{Scope}
use Rattle.java_names.specs.Types as types
use Rattle.java_names.specs.Lookups as names
use Rattle.java_names.specs.Scope.{local_of}
use Rattle.primitive_operators.specs.declared.scalar.Scalar.{Scalar}
use Rattle.java_exprs.specs.declared.environment.Environment.{Environment}
use Rattle.java_denotes.specs.Lookups.{method_named}

-- ---- types

-- the type that is spelled
abbrev pub type_named : Environment → TypeTree → Option Ty
type_named env t = types.type_of env.symbols.names t

-- the type of the elements of an array that is made
abbrev pub elements_named : Environment → BaseType → ℕ → Option Ty
elements_named env base dimensions = option_map (types.arrays dimensions) (types.base_type env.symbols.names base)

abbrev pub unknown_type : Environment → TypeTree → List ℕ
unknown_type env t = types.unknown_type env.symbols.names t

abbrev pub unknown_base : Environment → BaseType → List ℕ
unknown_base env base = types.unknown_base env.symbols.names base

-- ---- names

abbrev pub class_named : Environment → Name → Option ℕ
class_named env x = names.class_number env.symbols x

abbrev pub superclass_of : Environment → ℕ → Option ℕ
superclass_of env c = names.parent_of env.symbols c

abbrev pub member_of : Environment → ℕ → Name → Option FieldSymbol
member_of env c x = names.field_of env.symbols c x

abbrev pub has_method : Environment → ℕ → Name → Bool
has_method env c m = names.has_method env.symbols c m

abbrev pub method_of : Environment → ℕ → Name → ℕ → Option MethodSymbol
method_of env c m arity = method_named env.symbols c m arity

abbrev pub maker_of : Environment → ℕ → ℕ → Option MakerSymbol
maker_of env c arity = names.maker_of env.symbols c arity

-- a local, by its number
abbrev pub local_named : Scope → Name → Option ℕ
local_named s x = local_of s x

-- the value of the constant whose name is this token
abbrev pub constant_at : Environment → ℕ → Option Scalar
constant_at env at = option_and_then (λ c. c.1) (find (λ c. c.0 == at) env.constants)
