-- Rules 1 to 9: where each of them is broken in a file.
use Rattle.std.specs.Prelude.{ℕ, ◌≡◌, ◌<◌, ◌⊎◌, ◌==◌, Bool, true, false, not, is_none, ◌&&◌, ◌||◌, List, [], ◌∷◌, length, take, find, codes, nat_eq, Option, Some, None, option_and_then, if◌then◌else◌}
use Rattle.std.specs.Bool.{beq}
use Rattle.std.specs.List.{slice_get, list_any, list_all}
use Rattle.std.specs.Option.{option_map_or}
use Rattle.core_tree.specs.Types.{is_checked_by}
use Rattle.java_syntax.specs.declared.class.ClassTree.{ClassTree}
use Rattle.java_syntax.specs.declared.class.FileTree.{FileTree}
use Rattle.java_syntax.specs.declared.class.Member.{Member}
use Rattle.java_syntax.specs.declared.class.Member.TheVariants.{Maker}
use Rattle.token_reading.specs.declared.fault.Fault.{Fault}
use Rattle.token_reading.specs.declared.name.Ident.{Ident}
use Rattle.token_reading.specs.declared.name.TypeTree.{TypeTree}
use Rattle.token_reading.specs.declared.name.BaseType.{BaseType}
use Rattle.token_reading.specs.declared.name.BaseType.TheVariants.{Class}
use Rattle.class_table.specs.declared.row.FieldRow.{FieldRow}
use Rattle.class_table.specs.declared.row.MethodRow.{MethodRow}
use Rattle.class_table.specs.declared.row.MakerRow.{MakerRow}
use Rattle.class_table.specs.declared.declaration.Declaration.{Declaration}
use Rattle.class_table.specs.Names.{Name, same_name, built_in_names, library_names, class_names, number_of}
use Rattle.class_table.specs.Members.{is_static, is_private, same_types, same_answer, called_alike}
use Rattle.class_table.specs.Ancestors.{IsAncestor, parents_of, line_at, superclasses, is_below}
use Rattle.class_table.specs.Declarations.{declared_of}
use Rattle.class_table.specs.Fields.{fields_at, instance_total}
use Rattle.class_table.specs.declared.row.Signature.{Signature}
use Rattle.class_table.specs.Index.{signature_of, same_signature}
use Rattle.class_table.specs.Faults.{InSome, OfRule}

-- ---- names of classes

-- 1: a class has the name of one before it; at its name
abbrev pub NameTaken : List ClassTree → ℕ → ClassTree → ℕ → Type 0
NameTaken classes number c at = (list_any (λ d. same_name c.name.name d.name.name) (take number classes) ≡ true) × (at ≡ c.name.at)

-- a name stands among some names; at the place of its declaration
abbrev pub IsAmong : List Name → Name → ℕ → ℕ → Type 0
IsAmong names name declared_at at = (list_any (same_name name) names ≡ true) × (at ≡ declared_at)

abbrev pub rule_1 : FileTree → ℕ → Type 0
rule_1 tree = InSome tree.classes (NameTaken tree.classes)

-- 2: a superclass is unknown, or is String or System; at its name
abbrev pub is_unknown : List Name → Name → Bool
is_unknown names name = is_none (number_of names name) || list_any (same_name name) library_names

abbrev pub UnknownSuperclass : List Name → Option Ident → ℕ → Type 0
UnknownSuperclass names None at = ⊥
UnknownSuperclass names (Some p) at = (is_unknown names p.name ≡ true) × (at ≡ p.at)

abbrev pub rule_2 : FileTree → ℕ → Type 0
rule_2 tree = InSome tree.classes (λ number c. UnknownSuperclass (class_names tree.classes) c.parent)

-- 3: a class is its own ancestor; at its name
abbrev pub OwnAncestor : List Declaration → ℕ → Declaration → ℕ → Type 0
OwnAncestor declared number d at = IsAncestor (parents_of declared) number number × (at ≡ d.at)

abbrev pub rule_3 : FileTree → ℕ → Type 0
rule_3 tree = InSome (declared_of tree.classes) (OwnAncestor (declared_of tree.classes))

-- ---- fields

abbrev pub same_field : FieldRow → FieldRow → Bool
same_field f g = same_name f.name g.name

-- a superclass of class `number` declares a field of that name
abbrev pub is_inherited : List Declaration → ℕ → FieldRow → Bool
is_inherited declared number f = list_any (λ above. list_any (same_field f) (fields_at declared above)) (superclasses declared number)

-- 4: a field or constant has the name of one before it in its class, or of a superclass's field; at its name
abbrev pub FieldAgain : List FieldRow → ℕ → FieldRow → ℕ → Type 0
FieldAgain fields place f at = (list_any (same_field f) (take place fields) ≡ true) × (at ≡ f.at)

abbrev pub FieldHidden : List Declaration → ℕ → FieldRow → ℕ → Type 0
FieldHidden declared number f at = (is_inherited declared number f ≡ true) × (at ≡ f.at)

abbrev pub rule_4 : FileTree → ℕ → Type 0
rule_4 tree at =
    InSome (declared_of tree.classes) (λ number d. InSome d.fields (FieldAgain d.fields)) at
    ⊎ InSome (declared_of tree.classes) (λ number d. InSome d.fields (λ place. FieldHidden (declared_of tree.classes) number)) at

-- ---- methods and constructors

-- Rule 5, at the second's name: two methods of one class with the same name and number of parameters, or two
-- constructors of one class with the same number.

-- a method's signature stands among those before it
abbrev pub SignatureAmong : List Signature → MethodRow → ℕ → Type 0
SignatureAmong keys m at = (list_any (same_signature (signature_of m)) keys ≡ true) × (at ≡ m.at)

abbrev pub ArityAmong : List ℕ → MakerRow → ℕ → Type 0
ArityAmong keys m at = (list_any (nat_eq (length m.params)) keys ≡ true) × (at ≡ m.at)

abbrev pub CalledAlike : List MethodRow → ℕ → MethodRow → ℕ → Type 0
CalledAlike methods place m at = (list_any (called_alike m) (take place methods) ≡ true) × (at ≡ m.at)

abbrev pub SameArity : List MakerRow → ℕ → MakerRow → ℕ → Type 0
SameArity makers place m at = (list_any (λ other. length m.params == length other.params) (take place makers) ≡ true) × (at ≡ m.at)

abbrev pub rule_5 : FileTree → ℕ → Type 0
rule_5 tree at =
    InSome (declared_of tree.classes) (λ number d. InSome d.methods (CalledAlike d.methods)) at
    ⊎ InSome (declared_of tree.classes) (λ number d. InSome d.makers (SameArity d.makers)) at

-- the class is checked
abbrev pub is_checked : List Declaration → ℕ → Bool
is_checked declared = is_checked_by (is_below declared)

-- the number of a checked class of that name
abbrev pub checked_number : List Name → List Declaration → Name → Option ℕ
checked_number names declared name = option_and_then (λ c. if is_checked declared c then Some c else None) (number_of names name)

-- a name of `throws` asks for nothing, or a checked class named there stands at or above it
abbrev pub is_allowed : List Name → List Declaration → List Name → Name → Bool
is_allowed names declared allowed name =
    option_map_or (λ c. list_any (λ other. option_map_or (is_below declared c) (checked_number names declared other) false) allowed) (checked_number names declared name) true

-- m may override a: that one isn't private, and this one has the same parameter types, result type and staticness,
-- isn't private, and declares no checked class that isn't a subclass of one declared there
abbrev pub may_override : List Name → List Declaration → MethodRow → MethodRow → Bool
may_override names declared m a =
    not (is_private a.mods) && same_types m.params a.params && same_answer m.answer a.answer && beq (is_static m.mods) (is_static a.mods)
    && not (is_private m.mods) && list_all (is_allowed names declared a.throws) m.throws

-- the method that class number c declares under a name and a number of parameters
abbrev pub method_called : List Declaration → Signature → ℕ → Option MethodRow
method_called declared key c = option_and_then (λ d. find (λ a. same_signature key (signature_of a)) d.methods) (slice_get declared c)

-- class `above` declares a method that is called like m, and that m may not override
abbrev pub is_wrong_over : List Name → List Declaration → MethodRow → ℕ → Bool
is_wrong_over names declared m above = option_map_or (λ a. not (may_override names declared m a)) (method_called declared (signature_of m) above) false

-- 6: a method has the name and number of parameters of a superclass's method, and may not override it; at its name
abbrev pub OverridesWrongly : List Name → List Declaration → ℕ → MethodRow → ℕ → Type 0
OverridesWrongly names declared number m at = (list_any (is_wrong_over names declared m) (superclasses declared number) ≡ true) × (at ≡ m.at)

abbrev pub rule_6 : FileTree → ℕ → Type 0
rule_6 tree = InSome (declared_of tree.classes) (λ number d. InSome d.methods (λ place. OverridesWrongly (class_names tree.classes) (declared_of tree.classes) number))

-- ---- the whole file

abbrev pub main_name : Name
main_name = codes "main"

abbrev pub string_name : Name
string_name = codes "String"

abbrev pub is_string : BaseType → Bool
is_string (Class c) = same_name c.name string_name
is_string _ = false

abbrev pub is_string_array : List TypeTree → Bool
is_string_array (t ∷ []) = is_string t.base && (t.dimensions == 1)
is_string_array _ = false

-- `static void main` with one parameter of type `String[]`
abbrev pub is_main : MethodRow → Bool
is_main m = same_name m.name main_name && is_static m.mods && is_none m.answer && is_string_array m.params

-- 7: no class declares `static void main` with one parameter of type `String[]`; at token 0
abbrev pub NoMain : List Declaration → ℕ → Type 0
NoMain declared at = (list_any (λ d. list_any is_main d.methods) declared ≡ false) × (at ≡ 0)

abbrev pub rule_7 : FileTree → ℕ → Type 0
rule_7 tree = NoMain (declared_of tree.classes)

-- 8: a class has the name of a built-in class, String or System, or a constructor has another name than its class; at
-- its name
abbrev pub is_reserved : Name → Bool
is_reserved name = list_any (same_name name) built_in_names || list_any (same_name name) library_names

abbrev pub NameReserved : ClassTree → ℕ → Type 0
NameReserved c at = (is_reserved c.name.name ≡ true) × (at ≡ c.name.at)

abbrev pub NamedOtherwise : Name → Member → ℕ → Type 0
NamedOtherwise name (Maker m) at = (same_name m.name.name name ≡ false) × (at ≡ m.name.at)
NamedOtherwise name _ at = ⊥

abbrev pub MakerNamedOtherwise : ℕ → ClassTree → ℕ → Type 0
MakerNamedOtherwise number c = InSome c.members (λ place. NamedOtherwise c.name.name)

-- what is found from the members of a class of the file, with the names of the classes
abbrev pub ClassFault : List Name → ClassTree → Fault → Type 0
ClassFault names c f = OfRule 2 (UnknownSuperclass names c.parent) f ⊎ InSome c.members (λ place member. OfRule 8 (NamedOtherwise c.name.name member)) f

abbrev pub rule_8 : FileTree → ℕ → Type 0
rule_8 tree at = InSome tree.classes (λ number. NameReserved) at ⊎ InSome tree.classes MakerNamedOtherwise at

-- 9: more than 1,000 classes, at the first beyond; or more than 255 instance fields, inherited ones included, at the
-- class's name
abbrev pub BeyondLimit : ℕ → ClassTree → ℕ → Type 0
BeyondLimit number c at = (number ≡ 1000) × (at ≡ c.name.at)

abbrev pub TooManyFields : List Declaration → ℕ → Declaration → ℕ → Type 0
TooManyFields declared number d at = (255 < instance_total declared (line_at declared number)) × (at ≡ d.at)

abbrev pub rule_9 : FileTree → ℕ → Type 0
rule_9 tree at = InSome tree.classes BeyondLimit at ⊎ InSome (declared_of tree.classes) (TooManyFields (declared_of tree.classes)) at

-- ---- all of them

-- what is found from the names of the classes alone
abbrev pub NamesFault : List ClassTree → Fault → Type 0
NamesFault classes f =
    OfRule 1 (InSome classes (NameTaken classes)) f ⊎ OfRule 8 (InSome classes (λ number. NameReserved)) f ⊎ OfRule 9 (InSome classes BeyondLimit) f

-- what is found while the index is made
abbrev pub IndexFault : List Declaration → Fault → Type 0
IndexFault declared f =
    InSome declared (λ number d. OfRule 3 (OwnAncestor declared number d)) f
    ⊎ InSome declared (λ number d. InSome d.fields (λ place g. OfRule 4 (FieldAgain d.fields place g))) f
    ⊎ InSome declared (λ number d. InSome d.methods (λ place m. OfRule 5 (CalledAlike d.methods place m))) f

-- what is found from the classes, before their members are compared
abbrev pub ClassesFault : List ClassTree → Fault → Type 0
ClassesFault classes f = NamesFault classes f ⊎ InSome classes (λ number c. ClassFault (class_names classes) c) f ⊎ IndexFault (declared_of classes) f

-- what is found from the members of some classes together, where `all` are the classes of the program
abbrev pub MemberFault : List Name → List Declaration → List Declaration → Fault → Type 0
MemberFault names all some f =
    InSome some (λ number d. InSome d.fields (λ place g. OfRule 4 (FieldHidden all number g))) f
    ⊎ InSome some (λ number d. InSome d.makers (λ place m. OfRule 5 (SameArity d.makers place m))) f
    ⊎ InSome some (λ number d. InSome d.methods (λ place m. OfRule 6 (OverridesWrongly names all number m))) f
    ⊎ OfRule 7 (NoMain some) f

abbrev pub RowsFault : List Name → List Declaration → List Declaration → Fault → Type 0
RowsFault names all some f = MemberFault names all some f ⊎ InSome some (λ number d. OfRule 9 (TooManyFields all number d)) f

-- a rule of 1 to 9 is broken at a token of the file
abbrev pub Breaks : FileTree → Fault → Type 0
Breaks tree f =
    OfRule 1 (rule_1 tree) f ⊎ OfRule 2 (rule_2 tree) f ⊎ OfRule 3 (rule_3 tree) f ⊎ OfRule 4 (rule_4 tree) f ⊎ OfRule 5 (rule_5 tree) f
    ⊎ OfRule 6 (rule_6 tree) f ⊎ OfRule 7 (rule_7 tree) f ⊎ OfRule 8 (rule_8 tree) f ⊎ OfRule 9 (rule_9 tree) f
