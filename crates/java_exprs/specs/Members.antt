-- Through what a field or a method is named, with what the object before the dot resolves to (JLS 15.11, 15.12).
use Rattle.std.specs.Prelude.{List, Option}
use Rattle.core_tree.specs.declared.expr.Expr.{Expr as Core}
use Rattle.core_tree.specs.declared.expr.Expr.TheVariants as core
use Rattle.token_reading.specs.declared.name.Ident.{Ident}
use Rattle.java_names.specs.declared.scope.Scope.{Scope}
use Rattle.java_denotes.specs.declared.denotation.Denotation.{Denotation}
use Rattle.java_denotes.specs.Members as denoted
use Rattle.java_exprs.specs.declared.environment.Environment.{Environment}
use Rattle.java_exprs.specs.Attr.{Attr, Node}

-- the parts of a node, as they are seen here
abbrev pub of_attrs : denoted.Seen Attr Core
of_attrs = record { denotes = λ e. e.denotes; object = λ e. e.core; this = core.This }

-- a field or constant that a node names
abbrev pub Naming : Type 0
Naming = denoted.Naming Core

abbrev pub naming_behind : Attr → Ident → Option Denotation → Option Naming
naming_behind o f d = denoted.naming_behind of_attrs o f d

abbrev pub naming : Environment → Scope → Node → Option Naming
naming env s n = denoted.naming of_attrs s n

-- a method that a node calls
abbrev pub Calling : Type 0
Calling = denoted.Calling Attr Core

abbrev pub calling_behind : Attr → Ident → List Attr → Option Denotation → Option Calling
calling_behind o m xs d = denoted.calling_behind of_attrs o m xs d

abbrev pub calling : Environment → Scope → Node → Option Calling
calling env s n = denoted.calling of_attrs env.symbols s n
