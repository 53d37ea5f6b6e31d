-- Through what a field or a method is named: `this`, `super`, a class or an object (JLS 15.11, 15.12).
use Rattle.std.specs.Prelude.{ℕ, Bool, true, false, not, ◌||◌, List, length, Option, Some, None, option_map, option_and_then, is_some, if◌then◌else◌}
use Rattle.core_tree.specs.declared.ty.Ty.{Ty}
use Rattle.core_tree.specs.Types.{class_of}
use Rattle.token_reading.specs.declared.name.Ident.{Ident}
use Rattle.java_syntax.specs.declared.expression.Expr.TheOpen.{Expr-F}
use Rattle.class_table.specs.Names.{Name}
use Rattle.java_names.specs.declared.scope.Scope.{Scope}
use Rattle.java_names.specs.declared.symbol.FieldSymbol.{FieldSymbol}
use Rattle.java_names.specs.declared.symbol.MethodSymbol.{MethodSymbol}
use Rattle.java_names.specs.declared.symbol.Symbols.{Symbols}
use Rattle.java_names.specs.Lookups.{field_of, parent_of}
use Rattle.java_names.specs.Scope.{local_of}
use Rattle.java_denotes.specs.declared.denotation.Denotation.{Denotation}
use Rattle.java_denotes.specs.declared.denotation.Denotation.TheVariants as denotes
use Rattle.java_denotes.specs.declared.through.Through.{Through}
use Rattle.java_denotes.specs.declared.through.Through.TheVariants as through
use Rattle.java_denotes.specs.Lookups.{method_named}

-- the type of a value
abbrev pub value_type : Option Denotation → Option Ty
value_type (Some (denotes.Value t)) = Some t
value_type _ = None

-- the class of an object
abbrev pub object_class : Option Denotation → Option ℕ
object_class d = option_and_then class_of (value_type d)

-- how the parts X of a node are seen: what they denote, and as which object O what stands before a dot is kept, and
-- `this`
pub record Seen (X O : Type 0) : Type 0 where
  pub denotes : X → Option Denotation
  pub object : X → O
  pub this : O

-- ---- fields and constants

-- a field or constant that a node names: where it is looked up, by which name, and the object before the dot
pub record Naming (O : Type 0) : Type 0 where
  pub through : Through
  pub class : ℕ
  pub object : O
  pub name : Ident

-- what stands before the dot: a class, an object of a class, or something else
abbrev pub naming_behind : {X O : Type 0} → Seen X O → X → Ident → Option Denotation → Option (Naming O)
naming_behind as_seen o f (Some (denotes.Class c)) = Some (record { through = through.Class; class = c; object = as_seen.this; name = f })
naming_behind as_seen o f d = option_map (λ c. record { through = through.Object; class = c; object = as_seen.object o; name = f }) (object_class d)

-- a name that isn't a local is looked up in the class
abbrev pub where_no_local : {O : Type 0} → Scope → Ident → Naming O → Option (Naming O)
where_no_local s x k = if is_some (local_of s x.name) then None else Some k

abbrev pub naming : {X O : Type 0} → Seen X O → Scope → Expr-F X → Option (Naming O)
naming as_seen s (Expr-F.Name x) = where_no_local s x (record { through = through.This; class = s.class; object = as_seen.this; name = x })
naming as_seen s (Expr-F.Field o f) = naming_behind as_seen o f (as_seen.denotes o)
naming as_seen s _ = None

abbrev pub is_behind_object : Through → Bool
is_behind_object through.Object = true
is_behind_object _ = false

-- through an object only instance fields are found
abbrev pub is_found : Through → FieldSymbol → Bool
is_found through m = is_some m.place || not (is_behind_object through)

-- the field or constant of class c that is found through it or through an object of it
abbrev pub found_through : Symbols → Through → ℕ → Name → Option FieldSymbol
found_through s through c x = option_and_then (λ m. if is_found through m then Some m else None) (field_of s c x)

-- the field or constant that a node names
abbrev pub named_member : {O : Type 0} → Symbols → Naming O → Option FieldSymbol
named_member s k = found_through s k.through k.class k.name.name

-- ---- methods

-- the class in which a method after a dot is looked up; none where the library's are meant
abbrev pub receiver : Option Denotation → Option ℕ
receiver (Some (denotes.Class c)) = Some c
receiver d = object_class d

-- a method that a node calls: where it is looked up, by which name, the object before the dot, and the arguments
pub record Calling (X O : Type 0) : Type 0 where
  pub through : Through
  pub class : ℕ
  pub object : O
  pub name : Ident
  pub arguments : List X

abbrev pub calling_behind : {X O : Type 0} → Seen X O → X → Ident → List X → Option Denotation → Option (Calling X O)
calling_behind as_seen o m xs (Some (denotes.Class c)) =
    Some (record { through = through.Class; class = c; object = as_seen.this; name = m; arguments = xs })
calling_behind as_seen o m xs d =
    option_map (λ c. record { through = through.Object; class = c; object = as_seen.object o; name = m; arguments = xs }) (object_class d)

abbrev pub calling : {X O : Type 0} → Seen X O → Symbols → Scope → Expr-F X → Option (Calling X O)
calling as_seen s scope (Expr-F.Call m xs) =
    Some (record { through = through.This; class = scope.class; object = as_seen.this; name = m; arguments = xs })
calling as_seen s scope (Expr-F.Super at m xs) =
    option_map (λ c. record { through = through.Super; class = c; object = as_seen.this; name = m; arguments = xs }) (parent_of s scope.class)
calling as_seen s scope (Expr-F.Method o m xs) = calling_behind as_seen o m xs (as_seen.denotes o)
calling as_seen s scope _ = None

-- the method that a node calls
abbrev pub called_method : {X O : Type 0} → Symbols → Calling X O → Option MethodSymbol
called_method s k = method_named s k.class k.name.name (length k.arguments)
