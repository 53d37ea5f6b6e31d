-- What is known of a scope, and what a statement that is read in it makes of it.
use Rattle.std.specs.Prelude.{◌≡◌, ℕ, false, nat_lt, IsTrue, List, ◌++◌, length, Some, slice_get}
use Rattle.std.specs.List.{list_all}
use Rattle.core_tree.specs.declared.ty.Ty.{Ty}
use Rattle.core_tree.specs.declared.program.Program.{Program}
use Rattle.core_tree.specs.Typing.{Scope as CoreScope}
use Rattle.core_tree.specs.WellTyped.{is_value}
use Rattle.class_table.specs.Names.{Name}
use Rattle.java_names.specs.declared.scope.Scope.{Scope}
use Rattle.java_exprs.specs.declared.environment.Environment.{Environment}
use Rattle.java_exprs.specs.Lookups.{superclass_of, local_named}

-- a local in scope has a slot, of a type that variables have
pub record HasSlot (p : Program) (s : Scope) (n : ℕ) : Type 0 where
  pub type : Ty
  pub slot : slice_get s.slots n ≡ Some type
  pub value : IsTrue (is_value p type)

-- a scope of a body in a class of the file
pub record IsKnown (env : Environment) (p : Program) (s : Scope) : Type 0 where
  pub class : IsTrue (nat_lt s.class (length p.classes))
  pub superclass : (b : ℕ) × (superclass_of env s.class ≡ Some b)
  pub local : (x : Name) (n : ℕ) → local_named s x ≡ Some n → HasSlot p s n

-- a scope after another in the same body: slots are only added
pub record GoesTo (env : Environment) (p : Program) (s : Scope) (after : Scope) : Type 0 where
  pub class : after.class ≡ s.class
  pub is_static : after.is_static ≡ s.is_static
  pub answer : after.answer ≡ s.answer
  pub in_loop : after.in_loop ≡ s.in_loop
  pub more : List Ty
  pub slots : after.slots ≡ s.slots ++ more
  pub values : IsTrue (list_all (is_value p) more)
  pub known : IsKnown env p after

-- each type of the first list stands at the same place of the second
abbrev pub Includes : List Ty → List Ty → Type 0
Includes xs ys = (n : ℕ) (t : Ty) → slice_get xs n ≡ Some t → slice_get ys n ≡ Some t

-- what a body's typing can name, where these are its slots
pub record FitsBody (s : Scope) (given : List Ty) (core : CoreScope) : Type 0 where
  pub this : s.is_static ≡ false → core.this ≡ Some s.class
  pub answer : core.answer ≡ s.answer
  pub slots : Includes given core.locals
