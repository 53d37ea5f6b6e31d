-- Calls after a dot: which method they mean.
use Rattle.std.proofs.Common.{◌≡◌, ℕ, List, [], Option, Some, None, length, refl}
use Rattle.std.specs.Prelude.{option_map}
use Rattle.core_tree.specs.Types.{class_of}
use Rattle.token_reading.specs.declared.name.Ident.{Ident}
use Rattle.java_syntax.specs.declared.expression.Expr.TheOpen.{Expr-F}
use Rattle.java_names.specs.declared.scope.Scope.{Scope}
use Rattle.java_names.specs.declared.symbol.Symbols.{Symbols}
use Rattle.java_names.specs.Lookups.{parent_of}
use Rattle.java_denotes.specs.declared.denotation.Denotation.{Denotation}
use Rattle.java_denotes.specs.declared.denotation.Denotation.TheVariants as denotes
use Rattle.java_denotes.specs.declared.known.Known.{Known}
use Rattle.java_denotes.specs.declared.through.Through.TheVariants as through
use Rattle.java_denotes.specs.Denotes.{denotes_at, gives, library_method}
use Rattle.java_denotes.specs.Known.{of_known}
use Rattle.java_denotes.specs.Lookups.{method_named}
use Rattle.java_denotes.specs.Members.{Calling, calling_behind, receiver}

-- a call as it is seen here: nothing is kept of the object before the dot
abbrev pub Call : Type 0
Call = Calling Known (Unit {0})

-- the method that is called, where it is looked up in class c
pub record Means (k : Option Call) (c : ℕ) (m : Ident) (xs : List Known) : Type 0 where
  pub call : Call
  pub is : k ≡ Some call
  pub class : call.class ≡ c
  pub name : call.name ≡ m
  pub arguments : call.arguments ≡ xs

-- a call through an object
abbrev on_object : Ident → List Known → Option ℕ → Option Call
on_object m xs k = option_map (λ c. record { through = through.Object; class = c; object = tt; name = m; arguments = xs }) k

of_object : (m : Ident) (xs : List Known) (k : Option ℕ) (c : ℕ) → k ≡ Some c → Means (on_object m xs k) c m xs
of_object m xs (Some d) c is = record { call = _; is = refl; class = cc; name = refl; arguments = refl }
of_object m xs None c is = absurd (cc)

of_no_object : (m : Ident) (xs : List Known) (k : Option ℕ) → k ≡ None → on_object m xs k ≡ None
of_no_object m xs (Some d) is = absurd (cc)
of_no_object m xs None is = refl

pub some_means : (o : Known) (m : Ident) (xs : List Known) (d : Option Denotation) (c : ℕ) → receiver d ≡ Some c
    → Means (calling_behind of_known o m xs d) c m xs
some_means o m xs (Some (denotes.Class b)) c is = record { call = _; is = refl; class = cc; name = refl; arguments = refl }
some_means o m xs (Some (denotes.Value t)) c is = of_object m xs (class_of t) c is
some_means o m xs (Some denotes.Nothing) c is = absurd (cc)
some_means o m xs (Some denotes.System) c is = absurd (cc)
some_means o m xs (Some denotes.Output) c is = absurd (cc)
some_means o m xs (Some (denotes.Print p)) c is = absurd (cc)
some_means o m xs None c is = absurd (cc)

pub none_means : (o : Known) (m : Ident) (xs : List Known) (d : Option Denotation) → receiver d ≡ None
    → calling_behind of_known o m xs d ≡ None
none_means o m xs (Some (denotes.Class b)) is = absurd (cc)
none_means o m xs (Some (denotes.Value t)) is = of_no_object m xs (class_of t) is
none_means o m xs (Some denotes.Nothing) is = refl
none_means o m xs (Some denotes.System) is = refl
none_means o m xs (Some denotes.Output) is = refl
none_means o m xs (Some (denotes.Print p)) is = refl
none_means o m xs None is = refl

-- what a call after a dot gives, where its method is looked up in a class
pub found_gives : (s : Symbols) (scope : Scope) (o : Known) (m : Ident) (xs : List Known) (c : ℕ) → receiver o.denotes ≡ Some c
    → denotes_at of_known s scope (Expr-F.Method o m xs) ≡ gives (method_named s c m.name (length xs))
found_gives s scope o m xs c is =
    let k : Means (calling_behind of_known o m xs o.denotes) c m xs = some_means o m xs o.denotes c is in
    rw (k.is, k.class, k.name, k.arguments) refl

-- where it isn't
pub library_gives : (s : Symbols) (scope : Scope) (o : Known) (m : Ident) (xs : List Known) → receiver o.denotes ≡ None
    → denotes_at of_known s scope (Expr-F.Method o m xs) ≡ library_method m.name xs o.denotes
library_gives s scope o m xs is = rw (none_means o m xs o.denotes is) refl

pub ruleset behind = (found_gives, library_gives)

-- what a call of the superclass's method gives
pub super_gives : (s : Symbols) (scope : Scope) (at : ℕ) (m : Ident) (xs : List Known) (c : ℕ) → parent_of s scope.class ≡ Some c
    → denotes_at of_known s scope (Expr-F.Super at m xs) ≡ gives (method_named s c m.name (length xs))
super_gives s scope at m xs c is = rw is refl

pub no_super_gives : (s : Symbols) (scope : Scope) (at : ℕ) (m : Ident) (xs : List Known) → parent_of s scope.class ≡ None
    → denotes_at of_known s scope (Expr-F.Super at m xs) ≡ None
no_super_gives s scope at m xs is = rw is refl

pub ruleset above = (super_gives, no_super_gives)
