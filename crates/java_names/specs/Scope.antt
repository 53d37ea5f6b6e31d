-- The locals in scope, and what a name means at a place (JLS 6.3, 6.4.2, 6.5).
use Rattle.std.specs.Prelude.{ℕ, Bool, [], ◌∷◌, ◌++◌, length, take, Option, Some, None}
use Rattle.std.specs.Map.{lookup}
use Rattle.core_tree.specs.declared.ty.Ty.{Ty}
use Rattle.core_tree.specs.declared.ty.Ty.TheVariants as ty
use Rattle.java_syntax.specs.declared.class.MethodTree.{MethodTree}
use Rattle.class_table.specs.Members.{is_static}
use Rattle.class_table.specs.Names.{Name, same_name}
use Rattle.java_names.specs.declared.symbol.FieldSymbol.{FieldSymbol}
use Rattle.java_names.specs.declared.symbol.Symbols.{Symbols}
use Rattle.java_names.specs.declared.scope.Scope.{Scope}
use Rattle.java_names.specs.declared.scope.Mark.{Mark}
use Rattle.java_names.specs.declared.scope.Meaning.{Meaning}
use Rattle.java_names.specs.declared.scope.Meaning.TheVariants as meaning
use Rattle.java_names.specs.Lookups.{class_number, field_of}
use Rattle.java_names.specs.Types.{answer_type}

-- the number of the local of that name in scope
abbrev pub local_of : Scope → Name → Option ℕ
local_of scope name = lookup (same_name name) scope.locals

-- the scope at the beginning of a body without parameters
abbrev pub first_scope : ℕ → Bool → Ty → Scope
first_scope class is_static answer = record { class = class; is_static = is_static; answer = answer; in_loop = Bool.false; locals = []; slots = [] }

-- the scope of a method's body, before its parameters
abbrev pub method_scope : Symbols → ℕ → MethodTree → Scope
method_scope s c m = first_scope c (is_static m.mods) (answer_type s.names m.answer)

-- the scope of a constructor's body, before its parameters, and of an instance field's initialiser
abbrev pub maker_scope : ℕ → Scope
maker_scope c = first_scope c Bool.false ty.Void

-- the scope of a constant's initialiser
abbrev pub constant_scope : ℕ → Scope
constant_scope c = first_scope c Bool.true ty.Void

-- the scope after a declaration: the local gets the next number, and numbers are never used again
unfoldable pub declared : Scope → Name → Ty → Scope
declared scope name t = record scope { locals = scope.locals ++ (name, length scope.slots) ∷ []; slots = scope.slots ++ t ∷ [] }

-- where a block begins: how many locals are in scope there, and whether it stands in a loop
abbrev pub mark_of : Scope → Mark
mark_of scope = record { locals = length scope.locals; in_loop = scope.in_loop }

-- the scope after a block that began at that place: its locals are gone
unfoldable pub back_at : Mark → Scope → Scope
back_at mark scope = record scope { locals = take mark.locals scope.locals; in_loop = mark.in_loop }

-- the scope after a block that began in the scope `outer`
abbrev pub left : Scope → Scope → Scope
left outer scope = back_at (mark_of outer) scope

-- what a name means, where the field is seen as its symbol
pub data Denoted : Type 0 where
  Local : ℕ → Denoted
  Field : FieldSymbol → Denoted
  Class : ℕ → Denoted
  Unknown : Denoted

abbrev class_or_unknown : Option ℕ → Denoted
class_or_unknown None = Unknown
class_or_unknown (Some c) = Class c

abbrev member_or_class : Symbols → Option FieldSymbol → Name → Denoted
member_or_class s None name = class_or_unknown (class_number s name)
member_or_class s (Some f) name = Field f

abbrev local_or_member : Symbols → ℕ → Option ℕ → Name → Denoted
local_or_member s c None name = member_or_class s (field_of s c name) name
local_or_member s c (Some n) name = Local n

-- a name is a local, then a field or constant of the class or its superclasses, then a class
abbrev pub meaning_of : Symbols → Scope → Name → Denoted
meaning_of s scope name = local_or_member s scope.class (local_of scope name) name

-- an answer with a reference, seen without it
abbrev pub seen : Meaning → Denoted
seen (meaning.Local n) = Local n
seen (meaning.Field f) = Field f.now
seen (meaning.Class c) = Class c
seen meaning.Unknown = Unknown
