-- Names of classes and their numbers.
use Rattle.std.specs.Prelude.{ℕ, Bool, nat_eq, List, [], ◌∷◌, ◌++◌, map, codes, Option, position}
use Rattle.core_tree.specs.BuiltIn.{all_built_in, name_of}
use Rattle.java_syntax.specs.declared.class.ClassTree.{ClassTree}
use Rattle.std.specs.Cmp.Lexicographic.{pointwise}

-- a name is the list of its characters
abbrev pub Name : Type 0
Name = List ℕ

abbrev pub same_name : Name → Name → Bool
same_name = pointwise nat_eq

-- the classes that every program has, by their numbers
unfoldable pub built_in_names : List Name
built_in_names = map name_of all_built_in

-- the two names that are known and are no class of the table
unfoldable pub library_names : List Name
library_names = codes "String" ∷ codes "System" ∷ []

-- the classes of a program by their numbers: the built-in ones, then those of the file in text order
abbrev pub class_names : List ClassTree → List Name
class_names classes = built_in_names ++ map (λ c. c.name.name) classes

-- the number of the class of that name
abbrev pub number_of : List Name → Name → Option ℕ
number_of names name = position (same_name name) names
