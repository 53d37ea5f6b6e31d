-- What is known of a `new` of an object whose class is known.
use Rattle.std.specs.Prelude.{ℕ, List, [], length, is_some}
use Rattle.std.specs.Option.{option_map_or}
use Rattle.core_tree.specs.declared.expr.Expr.{Expr as Core}
use Rattle.core_tree.specs.declared.expr.Expr.TheViews as view
use Rattle.token_reading.specs.declared.fault.Fault.{Fault}
use Rattle.token_reading.specs.declared.name.Ident.{Ident}
use Rattle.java_names.specs.declared.scope.Scope.{Scope}
use Rattle.java_names.specs.declared.symbol.MakerSymbol.{MakerSymbol}
use Rattle.java_exprs.specs.declared.environment.Environment.{Environment}
use Rattle.java_exprs.specs.Attr.{Attr, of_rule, unless}
use Rattle.java_exprs.specs.Lookups.{maker_of}
use Rattle.java_exprs.specs.Resolved.{cores, first_core}
use Rattle.java_exprs.specs.Rules.{new_11, new_13}

-- what is broken by the constructor and its arguments
abbrev pub new_faults : Environment → Scope → Ident → ℕ → List Attr → List Fault
new_faults env s c class xs =
    of_rule 11 (new_11 env xs class) (of_rule 12 (unless (is_some (maker_of env class (length xs))) c.at) (of_rule 13 (new_13 env s c xs class) []))

-- a constructor of the file, or one of a built-in class
abbrev pub maker_core : ℕ → MakerSymbol → List Attr → Core
maker_core class m xs = option_map_or (λ number. view.New number (cores xs)) m.number (view.NewBuilt class (first_core xs))
