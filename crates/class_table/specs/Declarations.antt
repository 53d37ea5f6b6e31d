-- What each class of a program declares by itself.
use Rattle.std.specs.Prelude.{ℕ, ◌+◌, List, [], ◌∷◌, ◌++◌, Option, Some, None}
use Rattle.java_syntax.specs.declared.class.ClassTree.{ClassTree}
use Rattle.token_reading.specs.declared.name.Ident.{Ident}
use Rattle.class_table.specs.declared.declaration.Declaration.{Declaration}
use Rattle.class_table.specs.Names.{Name, class_names, number_of}
use Rattle.class_table.specs.Members.{fields_in, methods_in, makers_in}
use Rattle.core_tree.specs.BuiltIn.{first_class}
use Rattle.class_table.specs.BuiltIn.{built_in}

-- the superclass is Object where none is written
abbrev pub parent_number : List Name → Option Ident → Option ℕ
parent_number names None = Some 0
parent_number names (Some p) = number_of names p.name

abbrev pub declaration : List Name → ℕ → ClassTree → Declaration
declaration names number c =
    record { name = c.name.name; parent = parent_number names c.parent; fields = fields_in number c.members; methods = methods_in c.members; makers = makers_in c.members; at = c.name.at }

-- the classes of a file, numbered on from `number`
abbrev pub declarations : List Name → ℕ → List ClassTree → List Declaration
declarations names number [] = []
declarations names number (c ∷ more) = declaration names number c ∷ declarations names (number + 1) more

-- the classes of the program by their numbers: the built-in ones, then those of the file
unfoldable pub declared_of : List ClassTree → List Declaration
declared_of classes = built_in ++ declarations (class_names classes) first_class classes
