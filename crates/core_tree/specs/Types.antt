-- Classes and their superclasses, and which types a variable of another type can hold.
use Rattle.std.specs.Prelude.{ℕ, zero, suc, Bool, true, false, not, ◌&&◌, ◌||◌, ◌==◌, List, [], ◌∷◌, length, Option, Some, None, option_map, option_and_then, slice_get, is_some, nat_lt}
use Rattle.std.specs.Option.{option_map_or}
use Rattle.std.specs.List.{list_any}
use Rattle.core_tree.specs.declared.built_in.BuiltIn.TheVariants as built_in
use Rattle.core_tree.specs.declared.ty.Ty.{Ty, out-Ty}
use Rattle.core_tree.specs.declared.ty.Ty.TheOpen.{Ty-F}
use Rattle.core_tree.specs.declared.ty.Ty.TheFolds.{fold-Ty}
use Rattle.core_tree.specs.declared.program.Class.{Class}
use Rattle.core_tree.specs.BuiltIn.{number_of}

-- ---- classes

-- a class and its superclasses, from it upward (JLS 8.1.4), where at most that many steps lead to one without a
-- superclass
unfoldable pub line_within : ℕ → List Class → ℕ → Option (List ℕ)
line_within zero classes c = None
line_within (suc steps) classes c = option_and_then (λ class.
    option_map_or (λ parent. option_map (λ line. c ∷ line) (line_within steps classes parent)) class.parent (Some (c ∷ [])))
    (slice_get classes c)

-- a class and its superclasses; none where there is no such class, or a class is its own ancestor
abbrev pub line_of : List Class → ℕ → Option (List ℕ)
line_of classes c = line_within (length classes) classes c

-- the first class is the second or below it
abbrev pub is_subclass : List Class → ℕ → ℕ → Bool
is_subclass classes c d = option_map_or (λ line. list_any (λ a. a == d) line) (line_of classes c) false

-- the class is checked (JLS 11.1.1), by a test that the first class is the second or below it: Throwable and the classes
-- below it, other than RuntimeException, Error and those below these
abbrev pub is_checked_by : (ℕ → ℕ → Bool) → ℕ → Bool
is_checked_by below c =
    below c (number_of built_in.Throwable)
    && (not (below c (number_of built_in.RuntimeException)) && not (below c (number_of built_in.Error)))

-- ---- types

-- the elements of an array type
abbrev pub elements_of : Ty → Option Ty
elements_of t = elim (out-Ty t) [ Ty-F.Array e ↦ Some e | _ ↦ None ]

-- the class of a class type
abbrev pub class_of : Ty → Option ℕ
class_of t = elim (out-Ty t) [ Ty-F.Class c ↦ Some c | _ ↦ None ]

abbrev pub is_int : Ty → Bool
is_int t = elim (out-Ty t) [ Ty-F.Int ↦ true | _ ↦ false ]

abbrev pub is_boolean : Ty → Bool
is_boolean t = elim (out-Ty t) [ Ty-F.Bool ↦ true | _ ↦ false ]

abbrev pub is_string : Ty → Bool
is_string t = elim (out-Ty t) [ Ty-F.Text ↦ true | _ ↦ false ]

abbrev pub is_null : Ty → Bool
is_null t = elim (out-Ty t) [ Ty-F.Null ↦ true | _ ↦ false ]

abbrev pub is_void : Ty → Bool
is_void t = elim (out-Ty t) [ Ty-F.Void ↦ true | _ ↦ false ]

-- a class or an array type
abbrev pub is_object : Ty → Bool
is_object t = is_some (class_of t) || is_some (elements_of t)

abbrev pub is_array : Ty → Bool
is_array t = is_some (elements_of t)

abbrev pub assignable_node : (ℕ → ℕ → Bool) → Ty-F (Ty → Bool) → Ty → Bool
assignable_node below Ty-F.Int to = is_int to
assignable_node below Ty-F.Bool to = is_boolean to
assignable_node below Ty-F.Text to = is_string to
assignable_node below (Ty-F.Class c) to = option_map_or (below c) (class_of to) false
assignable_node below (Ty-F.Array fits) to = option_map_or (λ d. d == 0) (class_of to) (option_map_or fits (elements_of to) false)
assignable_node below Ty-F.Null to = is_null to || is_string to || is_object to
assignable_node below Ty-F.Void to = false

-- a value of the first type may be assigned to a variable of the second (JLS 5.2), by a test of two classes, that the
-- first is the second or below it: a type to itself, a class to its superclasses, null to String, classes and arrays,
-- an array to Object and to an array whose elements it fits
unfoldable pub is_assignable_by : (ℕ → ℕ → Bool) → Ty → Ty → Bool
is_assignable_by below = fold-Ty (Ty → Bool) (assignable_node below)

-- a value of the first type may be assigned to a variable of the second in a program with these classes
unfoldable pub is_assignable : List Class → Ty → Ty → Bool
is_assignable classes = is_assignable_by (is_subclass classes)

abbrev pub same_type_node : Ty-F (Ty → Bool) → Ty → Bool
same_type_node Ty-F.Int t = is_int t
same_type_node Ty-F.Bool t = is_boolean t
same_type_node Ty-F.Text t = is_string t
same_type_node (Ty-F.Class c) t = option_map_or (λ d. c == d) (class_of t) false
same_type_node (Ty-F.Array same) t = option_map_or same (elements_of t) false
same_type_node Ty-F.Null t = is_null t
same_type_node Ty-F.Void t = is_void t

-- the types are equal
unfoldable pub is_same_type : Ty → Ty → Bool
is_same_type = fold-Ty (Ty → Bool) same_type_node

abbrev pub value_type_node : ℕ → Ty-F Bool → Bool
value_type_node classes (Ty-F.Class c) = nat_lt c classes
value_type_node classes (Ty-F.Array elements) = elements
value_type_node classes Ty-F.Null = false
value_type_node classes Ty-F.Void = false
value_type_node classes _ = true

-- a type that a variable, a field or an element may have, with that many classes
unfoldable pub is_value_type : ℕ → Ty → Bool
is_value_type classes = fold-Ty Bool (value_type_node classes)
