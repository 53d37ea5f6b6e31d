-- Which contracts of methods are well typed.
use Rattle.std.specs.Prelude.{ℕ, Bool, true, false, not, ◌&&◌, ◌||◌, ◌==◌, nat_lt, nat_le, ℤ, int_le, List, [], ◌∷◌, length, slice_get, is_none, if◌then◌else◌, Some, None}
use Rattle.std.specs.Option.{option_map_or}
use Rattle.std.specs.List.{list_all, list_any}
use Rattle.core_tree.specs.declared.ty.Ty.{Ty}
use Rattle.core_tree.specs.declared.ty.Ty.TheVariants as ty
use Rattle.core_tree.specs.declared.contract.Modified.{Modified}
use Rattle.core_tree.specs.declared.contract.Modified.TheVariants as modified
use Rattle.core_tree.specs.declared.contract.Added.{Added}
use Rattle.core_tree.specs.declared.contract.Added.TheVariants as added
use Rattle.core_tree.specs.declared.contract.Contract.{Contract}
use Rattle.core_tree.specs.declared.program.Class.{Class}
use Rattle.core_tree.specs.declared.program.Method.{Method}
use Rattle.core_tree.specs.declared.program.Program.{Program}
use Rattle.core_tree.specs.BuiltIn.{is_built_in}
use Rattle.core_tree.specs.Types.{is_int, is_boolean, is_void}
use Rattle.core_tree.specs.Typing.{Scope, is_int_number}
use Rattle.core_tree.specs.TypedTerms.{is_class_type, are_fields, is_set, is_formula}

-- what the terms of a method's contract can name: its `this`, its parameters and its result
abbrev pub contract_scope : Method → Scope
contract_scope m = record { this = if m.on_object then Some m.owner else None; locals = m.params; answer = m.answer }

-- what a place of `modifies` can name: it is read at entry, where there is no result
abbrev pub entry_scope : Method → Scope
entry_scope m = record (contract_scope m) { answer = ty.Void }

-- a field of this name is of a class type, or int, or boolean
abbrev pub is_field_name : List Class → List ℕ → Bool
is_field_name classes name = are_fields is_class_type classes name || (are_fields is_int classes name || are_fields is_boolean classes name)

-- fields of one kind, of the members of a set; elements of arrays are not well typed yet
abbrev pub is_modified : List Class → Scope → Modified → Bool
is_modified classes s (modified.Field set name) = is_set classes s set 0 && is_field_name classes name
is_modified classes s (modified.Elements set) = false

-- 1 to 200 instances of a class of the file; arrays are not well typed yet
abbrev pub is_added : List Class → Added → Bool
is_added classes (added.Class c count) = (not (is_built_in c) && nat_lt c (length classes)) && (nat_le 1 count && nat_le count 200)
is_added classes (added.Array element length count) = false

abbrev pub is_same_class : ℕ → Added → Bool
is_same_class c (added.Class d count) = c == d
is_same_class c (added.Array element length count) = false

-- the instances of no class are added twice
abbrev pub are_distinct : List Added → Bool
are_distinct [] = true
are_distinct (added.Class c count ∷ more) = not (list_any (is_same_class c) more) && are_distinct more
are_distinct (added.Array element length count ∷ more) = are_distinct more

-- the bounds are ints in order
abbrev pub is_range : ℤ → ℤ → Bool
is_range lo hi = (is_int_number lo && is_int_number hi) && int_le lo hi

-- the result of a method with a contract: none, or an int, a boolean or an instance
abbrev pub is_contract_answer : Ty → Bool
is_contract_answer t = is_void t || (is_int t || (is_boolean t || is_class_type t))

-- the contract is well typed for the method; none that has a condition at entry or a number of steps is yet
abbrev pub is_contract : List Class → Method → Contract → Bool
is_contract classes m k =
    is_contract_answer m.answer
    && (is_range k.lo k.hi
    && (is_none k.required
    && (list_all (is_modified classes (entry_scope m)) k.modifies
    && ((list_all (is_added classes) k.adds && are_distinct k.adds)
    && (is_none k.within
    && is_formula classes (contract_scope m) k.ensured 0)))))

-- the method's contract, if it has one, is well typed
abbrev pub has_contract : List Class → Method → Bool
has_contract classes m = option_map_or (is_contract classes m) m.contract true

-- each contract is well typed, and the method that a run begins with has none
abbrev pub has_contracts : Program → Bool
has_contracts p = list_all (has_contract p.classes) p.methods && option_map_or (λ main. is_none main.contract) (slice_get p.methods p.main) true
