-- The classes that every program has.
use Rattle.std.specs.Prelude.{ℕ, Bool, nat_lt, List, [], ◌∷◌, map, Option, Some, None, option_map, codes}
use Rattle.core_tree.specs.declared.built_in.BuiltIn.{BuiltIn}
use Rattle.core_tree.specs.declared.built_in.BuiltIn.TheVariants as class
use Rattle.core_tree.specs.declared.ty.Ty.TheVariants as ty
use Rattle.core_tree.specs.declared.program.Class.{Class}
use Rattle.core_tree.specs.declared.program.Field.{Field}

-- the number of a built-in class
abbrev pub number_of : BuiltIn → ℕ
number_of class.Object = 0
number_of class.Throwable = 1
number_of class.Exception = 2
number_of class.RuntimeException = 3
number_of class.Error = 4
number_of class.ArithmeticException = 5
number_of class.NullPointerException = 6
number_of class.NegativeArraySizeException = 7
number_of class.FallbackError = 8
number_of class.ClassCastException = 9
number_of class.ArrayStoreException = 10
number_of class.IndexOutOfBoundsException = 11
number_of class.ArrayIndexOutOfBoundsException = 12
number_of class.IllegalArgumentException = 13
number_of class.IllegalStateException = 14
number_of class.UnsupportedOperationException = 15
number_of class.StackOverflowError = 16
number_of class.RequiresError = 17

-- the built-in classes by number
abbrev pub all_built_in : List BuiltIn
all_built_in =
    class.Object
    ∷ class.Throwable
    ∷ class.Exception
    ∷ class.RuntimeException
    ∷ class.Error
    ∷ class.ArithmeticException
    ∷ class.NullPointerException
    ∷ class.NegativeArraySizeException
    ∷ class.FallbackError
    ∷ class.ClassCastException
    ∷ class.ArrayStoreException
    ∷ class.IndexOutOfBoundsException
    ∷ class.ArrayIndexOutOfBoundsException
    ∷ class.IllegalArgumentException
    ∷ class.IllegalStateException
    ∷ class.UnsupportedOperationException
    ∷ class.StackOverflowError
    ∷ class.RequiresError
    ∷ []

-- the number of the first class of the file
abbrev pub first_class : ℕ
first_class = 18

-- the number is that of a built-in class
abbrev pub is_built_in : ℕ → Bool
is_built_in c = nat_lt c first_class

abbrev pub name_of : BuiltIn → List ℕ
name_of class.Object = codes "Object"
name_of class.Throwable = codes "Throwable"
name_of class.Exception = codes "Exception"
name_of class.RuntimeException = codes "RuntimeException"
name_of class.Error = codes "Error"
name_of class.ArithmeticException = codes "ArithmeticException"
name_of class.NullPointerException = codes "NullPointerException"
name_of class.NegativeArraySizeException = codes "NegativeArraySizeException"
name_of class.FallbackError = codes "FallbackError"
name_of class.ClassCastException = codes "ClassCastException"
name_of class.ArrayStoreException = codes "ArrayStoreException"
name_of class.IndexOutOfBoundsException = codes "IndexOutOfBoundsException"
name_of class.ArrayIndexOutOfBoundsException = codes "ArrayIndexOutOfBoundsException"
name_of class.IllegalArgumentException = codes "IllegalArgumentException"
name_of class.IllegalStateException = codes "IllegalStateException"
name_of class.UnsupportedOperationException = codes "UnsupportedOperationException"
name_of class.StackOverflowError = codes "StackOverflowError"
name_of class.RequiresError = codes "RequiresError"

-- the superclass of a built-in class
abbrev pub parent_of : BuiltIn → Option BuiltIn
parent_of class.Object = None
parent_of class.Throwable = Some class.Object
parent_of class.Exception = Some class.Throwable
parent_of class.RuntimeException = Some class.Exception
parent_of class.Error = Some class.Throwable
parent_of class.FallbackError = Some class.Error
parent_of class.ArrayIndexOutOfBoundsException = Some class.IndexOutOfBoundsException
parent_of class.StackOverflowError = Some class.Error
parent_of class.RequiresError = Some class.Error
parent_of _ = Some class.RuntimeException

-- the message of a Throwable: a String, under a name that no source can spell
abbrev pub message_field : Field
message_field = record { name = codes "#message"; ty = ty.Text; start = None; owner = number_of class.Throwable }

abbrev pub built_in_fields : BuiltIn → List Field
built_in_fields class.Object = []
built_in_fields _ = message_field ∷ []

-- a built-in class, by its name, superclass and fields; no method of the file is one of its own
abbrev pub built_in_class : BuiltIn → Class
built_in_class c = record { name = name_of c; parent = option_map number_of (parent_of c); fields = built_in_fields c; chosen = [] }

-- the built-in classes by number
abbrev pub built_in_classes : List Class
built_in_classes = map built_in_class all_built_in
