-- Which rules a file breaks, and the resolved program of a file that breaks none.
use Rattle.std.specs.Prelude.{ℕ, suc, List, [], ◌∷◌, ◌++◌, map, reverse, position, slice_get, unwrap_or, if◌then◌else◌}
use Rattle.std.specs.List.{flat_map}
use Rattle.core_tree.specs.declared.program.Class.{Class}
use Rattle.core_tree.specs.declared.program.Field.{Field}
use Rattle.core_tree.specs.declared.program.Method.{Method}
use Rattle.core_tree.specs.declared.program.Maker.{Maker}
use Rattle.core_tree.specs.declared.program.Program.{Program}
use Rattle.core_tree.specs.declared.built_in.BuiltIn.{BuiltIn}
use Rattle.core_tree.specs.declared.built_in.BuiltIn.TheVariants as built_in
use Rattle.core_tree.specs.BuiltIn.{all_built_in, first_class, message_field}
use Rattle.token_reading.specs.declared.fault.Fault.{Fault}
use Rattle.java_syntax.specs.declared.class.MethodTree.{MethodTree}
use Rattle.java_syntax.specs.declared.class.Member.{Member}
use Rattle.java_syntax.specs.declared.class.Member.TheVariants as member
use Rattle.java_syntax.specs.declared.class.ClassTree.{ClassTree}
use Rattle.java_syntax.specs.declared.class.FileTree.{FileTree}
use Rattle.class_table.specs.declared.row.ClassTable.{ClassTable}
use Rattle.class_table.specs.declared.row.ClassRow.{ClassRow}
use Rattle.class_table.specs.Members.{is_static, method_row}
use Rattle.class_table.specs.Rules.{is_main}
use Rattle.java_names.specs.declared.symbol.Symbols.{Symbols}
use Rattle.java_names.specs.Symbols.{symbols_of}
use Rattle.java_names.specs.Lookups.{line_of}
use Rattle.java_names.specs.Chosen.{chosen_of}
use Rattle.java_exprs.specs.declared.environment.Environment.{Environment}
use Rattle.java_members.specs.Declarations.{declaration_faults}
use Rattle.java_members.specs.Constants.{Reading, read_classes, with_constants}
use Rattle.java_members.specs.Bodies.{field_faults, method_effects, maker_faults, parent_faults, core_field, core_method, core_maker, made_maker}

-- ---- what is known before the bodies are read

-- without constants
abbrev pub first_env : ClassTable → FileTree → Environment
first_env table tree = record { symbols = symbols_of table; constants = []; places = tree.places }

-- the constants of the file
abbrev pub reading_of : ClassTable → FileTree → Reading
reading_of table tree = read_classes (first_env table tree) first_class tree.classes (record { constants = []; faults = [] })

-- with all constants
abbrev pub env_of : ClassTable → FileTree → Environment
env_of table tree = with_constants (first_env table tree) (reading_of table tree).constants

-- ---- members, class by class

-- what the members of the classes from number c on give
unfoldable pub of_members : {X : Type 0} → (ℕ → Member → List X) → ℕ → List ClassTree → List X
of_members give c [] = []
of_members give c (k ∷ ks) = flat_map (give c) k.members ++ of_members give (suc c) ks

-- the same of the classes that declare no constructor
abbrev pub is_maker : Member → List Member
is_maker (member.Maker m) = member.Maker m ∷ []
is_maker _ = []

abbrev pub where_none : {X : Type 0} → List Member → List X → List X
where_none [] given = given
where_none (m ∷ ms) given = []

unfoldable pub of_made : {X : Type 0} → (ℕ → ClassTree → List X) → ℕ → List ClassTree → List X
of_made give c [] = []
of_made give c (k ∷ ks) = where_none (flat_map is_maker k.members) (give c k) ++ of_made give (suc c) ks

-- ---- faults

-- what the initialiser or the body of a member breaks; constants are read before
abbrev pub member_faults : Environment → ℕ → Member → List Fault
member_faults env c (member.Field f) = if is_static f.mods then [] else field_faults env c f
member_faults env c (member.Method m) = (method_effects env c m).faults
member_faults env c (member.Maker m) = maker_faults env c m
member_faults env c member.Empty = []

-- a class without a constructor needs that of its superclass without parameters; at the class's name
abbrev pub made_faults : Environment → ℕ → ClassTree → List Fault
made_faults env c k = parent_faults env c k.name.at []

abbrev pub declared_faults : ClassTable → FileTree → List Fault
declared_faults table tree = of_members (declaration_faults (first_env table tree)) first_class tree.classes

abbrev pub body_faults : ClassTable → FileTree → List Fault
body_faults table tree =
    (reading_of table tree).faults
    ++ (of_members (member_faults (env_of table tree)) first_class tree.classes ++ of_made (made_faults (env_of table tree)) first_class tree.classes)

-- bodies are asked only where all declarations are in order, since they speak of the types that are declared
abbrev pub then_faults : List Fault → List Fault → List Fault
then_faults [] more = more
then_faults (f ∷ fs) more = f ∷ fs

-- the broken ones of rules 10 to 21
unfoldable pub faults_of : ClassTable → FileTree → List Fault
faults_of table tree = then_faults (declared_faults table tree) (body_faults table tree)

-- ---- the resolved program

abbrev pub own_field : Environment → ℕ → Member → List Field
own_field env c (member.Field f) = if is_static f.mods then [] else core_field env c f ∷ []
own_field env c _ = []

-- the instance fields that each class of the file declares itself, from number c on
unfoldable pub own_fields : Environment → ℕ → List ClassTree → List (List Field)
own_fields env c [] = []
own_fields env c (k ∷ ks) = flat_map (own_field env c) k.members ∷ own_fields env (suc c) ks

-- the same of a built-in class: Throwable alone declares one, the message
abbrev pub built_in_own : BuiltIn → List Field
built_in_own built_in.Throwable = message_field ∷ []
built_in_own _ = []

-- the same of all classes, by their numbers
abbrev pub all_own_fields : Environment → FileTree → List (List Field)
all_own_fields env tree = map built_in_own all_built_in ++ own_fields env first_class tree.classes

-- the fields of a class, those of the highest class of its line first, where each class declares these itself
abbrev pub fields_along : List (List Field) → Symbols → ℕ → List Field
fields_along declared symbols c = flat_map (λ d. unwrap_or (slice_get declared d) []) (reverse (line_of symbols c))

abbrev pub fields_of : Environment → FileTree → ℕ → List Field
fields_of env tree c = fields_along (all_own_fields env tree) env.symbols c

abbrev pub class_with : List (List Field) → Symbols → ℕ → ClassRow → Class
class_with declared symbols c row = record { name = row.name; parent = row.parent; fields = fields_along declared symbols c; chosen = chosen_of symbols c }

abbrev pub core_class : Environment → FileTree → ℕ → ClassRow → Class
core_class env tree c row = class_with (all_own_fields env tree) env.symbols c row

unfoldable pub core_classes : Environment → FileTree → ℕ → List ClassRow → List Class
core_classes env tree c [] = []
core_classes env tree c (row ∷ rows) = core_class env tree c row ∷ core_classes env tree (suc c) rows

abbrev pub own_method : Environment → ℕ → Member → List Method
own_method env c (member.Method m) = core_method env c m ∷ []
own_method env c _ = []

abbrev pub own_maker : Environment → ℕ → Member → List Maker
own_maker env c (member.Maker m) = core_maker env c m ∷ []
own_maker env c _ = []

abbrev pub method_tree : Member → List MethodTree
method_tree (member.Method m) = m ∷ []
method_tree _ = []

-- the methods of the file in text order
abbrev pub method_trees : FileTree → List MethodTree
method_trees tree = flat_map (λ k. flat_map method_tree k.members) tree.classes

-- the method that runs is the first `static void main` with one parameter of type `String[]`
abbrev pub main_of : FileTree → ℕ
main_of tree = unwrap_or (position (λ m. is_main (method_row m)) (method_trees tree)) 0

abbrev pub program_in : Environment → ClassTable → FileTree → Program
program_in env table tree = record {
  classes = core_classes env tree 0 table.classes;
  methods = of_members (own_method env) first_class tree.classes;
  makers = of_members (own_maker env) first_class tree.classes ++ of_made (λ c k. made_maker env c ∷ []) first_class tree.classes;
  main = main_of tree;
}

-- the resolved program of a file; it means nothing where a rule is broken
unfoldable pub program_of : ClassTable → FileTree → Program
program_of table tree = program_in (env_of table tree) table tree
