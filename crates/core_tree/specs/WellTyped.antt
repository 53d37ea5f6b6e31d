-- The well-typed program: what a program must meet so that it never gets stuck.
use Rattle.std.specs.Prelude.{◌≡◌, ℕ, suc, ◌≤◌, Bool, true, false, not, ◌&&◌, ◌||◌, ◌==◌, nat_le, nat_eq, IsTrue, List, [], ◌∷◌, ◌++◌, length, map, take, Option, Some, None, option_and_then, slice_get, is_some, if◌then◌else◌}
use Rattle.std.specs.Option.{option_map_or}
use Rattle.std.specs.List.{list_all, flat_map}
use Rattle.std.specs.Cmp.Lexicographic.{pointwise}
use Rattle.core_tree.specs.declared.built_in.BuiltIn.TheVariants as built_in
use Rattle.core_tree.specs.declared.ty.Ty.{Ty}
use Rattle.core_tree.specs.declared.ty.Ty.TheVariants as ty
use Rattle.core_tree.specs.declared.ty.Ty.TheViews as type
use Rattle.core_tree.specs.declared.stmt.Stmt.{Stmt}
use Rattle.core_tree.specs.declared.stmt.Stmt.TheOpen.{Stmt-F, Catch-F}
use Rattle.core_tree.specs.declared.stmt.Stmt.TheFolds.{fold-Stmt}
use Rattle.core_tree.specs.declared.program.Class.{Class}
use Rattle.core_tree.specs.declared.program.Field.{Field}
use Rattle.core_tree.specs.declared.program.Method.{Method}
use Rattle.core_tree.specs.declared.program.Maker.{Maker}
use Rattle.core_tree.specs.declared.program.Parent.{Parent}
use Rattle.core_tree.specs.declared.program.Parent.TheVariants as parent
use Rattle.core_tree.specs.declared.program.Program.{Program}
use Rattle.core_tree.specs.BuiltIn.{number_of, is_built_in, built_in_classes}
use Rattle.core_tree.specs.Types.{line_of, is_subclass, is_same_type, is_string, is_value_type, is_void}
use Rattle.core_tree.specs.TypedContracts.{has_contracts}
use Rattle.core_tree.specs.Typing.{Scope, fits, all_fit, type_of, is_throwable, chosen_method, is_typed_body}

-- ---- classes

-- the class that a class extends
abbrev pub superclass : Program → ℕ → Option ℕ
superclass p c = option_and_then (λ class. class.parent) (slice_get p.classes c)

-- a type that a variable, a field or an element may have
abbrev pub is_value : Program → Ty → Bool
is_value p t = is_value_type (length p.classes) t

-- a class of the file
abbrev pub is_of_file : Program → ℕ → Bool
is_of_file p c = not (is_built_in c) && is_some (slice_get p.classes c)

-- what an initialiser of this class can name: `this`, and no local
abbrev pub initialiser_scope : ℕ → Scope
initialiser_scope c = record { this = Some c; locals = []; answer = ty.Void }

-- a field of class c: it has a type of variables, it is declared by the class or a superclass, and its initialiser fits
abbrev pub is_field : Program → ℕ → Field → Bool
is_field p c field =
    is_value p field.ty
    && (is_subclass p.classes c field.owner
    && option_map_or (λ e. fits p field.ty (type_of p (initialiser_scope field.owner) e)) field.start true)

-- a selector picks, if anything, a method on an object that the class or a superclass declares
abbrev pub is_chosen : Program → ℕ → Option ℕ → Bool
is_chosen p c m = option_map_or (λ k. option_map_or (λ method. method.on_object && is_subclass p.classes c method.owner) (slice_get p.methods k) false) m true

abbrev pub same_types : List Ty → List Ty → Bool
same_types = pointwise is_same_type

-- the methods have the same parameter types and the same result
abbrev pub same_signature : Program → ℕ → ℕ → Bool
same_signature p m k = option_map_or (λ a. option_map_or (λ b. same_types a.params b.params && is_same_type a.answer b.answer)
    (slice_get p.methods k) false) (slice_get p.methods m) false

-- where a selector picks a method in the superclass, it picks one with the same parameter types and result in the class
abbrev pub overrides : Program → List (Option ℕ) → List (Option ℕ) → Bool
overrides p [] mine = true
overrides p (None ∷ above) [] = overrides p above []
overrides p (None ∷ above) (k ∷ mine) = overrides p above mine
overrides p (Some m ∷ above) (Some k ∷ mine) = same_signature p m k && overrides p above mine
overrides p (Some m ∷ above) _ = false

-- what the selectors pick in the superclass
abbrev pub chosen_above : Program → Class → List (Option ℕ)
chosen_above p class = option_map_or (λ above. above.chosen) (option_and_then (λ b. slice_get p.classes b) class.parent) []

-- a `getMessage` that is declared below Throwable takes no parameters and answers a String
abbrev pub is_message_method : Option Method → Bool
is_message_method m = option_map_or (λ method. same_types method.params [] && is_string method.answer) m true

-- a class with its number: it isn't its own ancestor, all but Object have a superclass, it has at most 255 fields, and
-- its fields and methods are in order
abbrev pub is_class : Program → ℕ → Class → Bool
is_class p c class =
    is_some (line_of p.classes c)
    && ((is_some class.parent || c == number_of built_in.Object)
    && (nat_le (length class.fields) 255
    && (list_all (is_field p c) class.fields
    && (list_all (is_chosen p c) class.chosen
    && (overrides p (chosen_above p class) class.chosen
    && (not (is_throwable p c) || is_message_method (chosen_method p c 0)))))))

-- the test holds of each item with its number, counted from n
abbrev pub each_numbered : {X : Type 0} → (ℕ → X → Bool) → ℕ → List X → Bool
each_numbered test n [] = true
each_numbered test n (x ∷ xs) = test n x && each_numbered test (suc n) xs

-- the fields of the superclass
abbrev pub inherited_fields : Program → Class → List Field
inherited_fields p class = option_map_or (λ above. above.fields) (option_and_then (λ b. slice_get p.classes b) class.parent) []

-- the first fields of a class, as many as its superclass has
abbrev pub first_fields : Program → Class → List Field
first_fields p class = take (length (inherited_fields p class)) class.fields

-- the name, the superclass and the fields of a class
pub record Row : Type 0 where
  pub name : List ℕ
  pub parent : Option ℕ
  pub fields : List Field

abbrev pub row_of : Class → Row
row_of class = record { name = class.name; parent = class.parent; fields = class.fields }

-- ---- bodies

abbrev pub all_declared : List (List ℕ) → List ℕ
all_declared [] = []
all_declared (x ∷ xs) = x ++ all_declared xs

abbrev pub declared_in : Option (List ℕ) → List ℕ
declared_in part = option_map_or (λ numbers. numbers) part []

abbrev pub declared_node : Stmt-F (List ℕ) (List ℕ) → List ℕ
declared_node (Stmt-F.Block all) = all_declared all
declared_node (Stmt-F.Declare at t e) = at ∷ []
declared_node (Stmt-F.If test body other) = body ++ declared_in other
declared_node (Stmt-F.While test body) = body
declared_node (Stmt-F.DoWhile body test) = body
declared_node (Stmt-F.For first test updates body) = all_declared first ++ (all_declared updates ++ body)
declared_node (Stmt-F.Try body catches last) = body ++ (all_declared catches ++ declared_in last)
declared_node _ = []

abbrev pub declared_catch : Catch-F (List ℕ) (List ℕ) → List ℕ
declared_catch c = c.slot ∷ c.body

-- the numbers of the locals that a statement declares, in text order; a `catch` declares one
unfoldable pub declared_numbers : Stmt → List ℕ
declared_numbers = fold-Stmt (List ℕ) (List ℕ) declared_node declared_catch

-- as many numbers as there are items, counted from n
abbrev pub numbers_from : {X : Type 0} → ℕ → List X → List ℕ
numbers_from n [] = []
numbers_from n (x ∷ xs) = n ∷ numbers_from (suc n) xs

-- a body declares each of its locals after the parameters once, in the order of their numbers
abbrev pub is_numbered : List Ty → List Ty → List Stmt → Bool
is_numbered params locals body = pointwise nat_eq (flat_map declared_numbers body) (numbers_from (length params) locals)

-- ---- methods and constructors

-- what a method's body can name: a static method has no `this`
abbrev pub method_scope : Method → Scope
method_scope m = record {
  this = if m.on_object then Some m.owner else None;
  locals = m.params ++ m.locals;
  answer = m.answer;
}

-- a method is of a class of the file, its parameters and locals have types of variables, its result such a type or
-- none, and its body is well typed
abbrev pub is_method : Program → Method → Bool
is_method p m =
    is_of_file p m.owner
    && (list_all (is_value p) m.params
    && (list_all (is_value p) m.locals
    && ((is_value p m.answer || is_void m.answer)
    && (is_numbered m.params m.locals m.body
    && is_typed_body p (method_scope m) m.body))))

-- what a constructor's body can name
abbrev pub maker_scope : Maker → Scope
maker_scope k = record { this = Some k.owner; locals = k.params ++ k.locals; answer = ty.Void }

-- the constructor of the superclass b: of Object, of another built-in class with a message or none, or of the file
abbrev pub is_parent : Program → Scope → ℕ → Parent → Bool
is_parent p s b parent.Plain = b == number_of built_in.Object
is_parent p s b (parent.Message text) =
    is_built_in b && (not (b == number_of built_in.Object) && option_map_or (λ e. fits p ty.Text (type_of p s e)) text true)
is_parent p s b (parent.Maker k arguments) =
    option_map_or (λ maker. maker.owner == b && all_fit p maker.params (map (type_of p s) arguments)) (slice_get p.makers k) false

-- a constructor is of a class of the file, its parameters and locals have types of variables, it runs a constructor of
-- its class's superclass, and its body is well typed
abbrev pub is_maker : Program → Maker → Bool
is_maker p k =
    is_of_file p k.owner
    && (list_all (is_value p) k.params
    && (list_all (is_value p) k.locals
    && (option_map_or (λ b. is_parent p (maker_scope k) b k.parent) (superclass p k.owner) false
    && (is_numbered k.params k.locals k.body
    && is_typed_body p (maker_scope k) k.body))))

-- a method that a run can begin with: it is static and takes a String[]
abbrev pub is_main : Method → Bool
is_main m = not m.on_object && same_types m.params (type.Array ty.Text ∷ [])

-- ---- programs

-- a program that never gets stuck
pub record IsWellTyped (p : Program) : Type 0 where
  -- it has at most 1,018 classes, of which the first are the built-in ones
  pub few_classes : length p.classes ≤ 1018
  pub built_in : map row_of (take (length built_in_classes) p.classes) ≡ map row_of built_in_classes
  -- each class is in order, and has the fields of its superclass first
  pub classes : IsTrue (each_numbered (is_class p) 0 p.classes)
  pub inherited : map (first_fields p) p.classes ≡ map (inherited_fields p) p.classes
  -- each body is well typed
  pub methods : IsTrue (list_all (is_method p) p.methods)
  pub makers : IsTrue (list_all (is_maker p) p.makers)
  pub main : IsTrue (option_map_or is_main (slice_get p.methods p.main) false)
  -- each contract is well typed
  pub contracts : IsTrue (has_contracts p)
