-- What variables and the results of methods denote, and which methods and constructors are found.
use Rattle.std.specs.Prelude.{ℕ, Option, Some, None, option_and_then, slice_get, if◌then◌else◌}
use Rattle.core_tree.specs.declared.ty.Ty.{Ty}
use Rattle.core_tree.specs.Types.{is_void}
use Rattle.class_table.specs.Names.{Name}
use Rattle.java_names.specs.declared.symbol.MethodSymbol.{MethodSymbol}
use Rattle.java_names.specs.declared.symbol.MakerSymbol.{MakerSymbol}
use Rattle.java_names.specs.declared.symbol.Symbols.{Symbols}
use Rattle.java_names.specs.declared.scope.Scope.{Scope}
use Rattle.java_names.specs.Lookups.{class_number, maker_of, method_of}
use Rattle.java_denotes.specs.declared.denotation.Denotation.{Denotation}
use Rattle.java_denotes.specs.declared.denotation.Denotation.TheVariants as denotes

-- the value of a variable; nothing is known of one whose type has an unknown name
abbrev pub variable_denotes : Ty → Option Denotation
variable_denotes t = if is_void t then None else Some (denotes.Value t)

-- what a call of a method gives
abbrev pub answer_denotes : Ty → Denotation
answer_denotes t = if is_void t then denotes.Nothing else denotes.Value t

-- a local, by its number
abbrev pub local_denotes : Scope → ℕ → Option Denotation
local_denotes s n = option_and_then variable_denotes (slice_get s.slots n)

-- the method of class c with that name and number of parameters, its own or inherited
abbrev pub method_named : Symbols → ℕ → Name → ℕ → Option MethodSymbol
method_named s c m arity = method_of s c (record { name = m; arity = arity })

-- the constructor with that number of parameters of the class with that name
abbrev pub maker_named : Symbols → Name → ℕ → Option MakerSymbol
maker_named s name arity = option_and_then (λ c. maker_of s c arity) (class_number s name)
