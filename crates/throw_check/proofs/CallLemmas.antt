-- What calls throw, by the class in which their method is looked up.
use Rattle.std.proofs.Common.{◌≡◌, ℕ, List, [], Some, None, length, map, refl}
use Rattle.std.proofs.lemmas.List.{length-map}
use Rattle.token_reading.specs.declared.name.Ident.{Ident}
use Rattle.java_syntax.specs.declared.expression.Expr.{Expr}
use Rattle.java_syntax.specs.declared.expression.Expr.TheOpen.{Expr-F}
use Rattle.java_names.specs.declared.scope.Scope.{Scope}
use Rattle.java_names.specs.declared.symbol.Symbols.{Symbols}
use Rattle.java_names.specs.Lookups.{parent_of}
use Rattle.java_denotes.specs.declared.known.Known.{Known}
use Rattle.java_denotes.specs.Known.{known_of, of_known}
use Rattle.java_denotes.specs.Lookups.{maker_named, method_named}
use Rattle.java_denotes.specs.Members.{calling_behind, receiver}
use Rattle.java_denotes.proofs.CallLemmas.{Means, none_means, some_means}
use Rattle.throw_check.specs.Points.{maker_throws, node_throws, points_at, points_here, throws}

-- ---- a call after a dot

-- its method is looked up in a class
pub found_throws : (symbols : Symbols) (s : Scope) (o : Known) (m : Ident) (xs : List Known) (c : ℕ) → receiver o.denotes ≡ Some c
    → node_throws symbols s (Expr-F.Method o m xs) ≡ throws (method_named symbols c m.name (length xs))
found_throws symbols s o m xs c is =
    let k : Means (calling_behind of_known o m xs o.denotes) c m xs = some_means o m xs o.denotes c is in
    rw (k.is, k.class, k.name, k.arguments) refl

-- it isn't
pub library_throws : (symbols : Symbols) (s : Scope) (o : Known) (m : Ident) (xs : List Known) → receiver o.denotes ≡ None
    → node_throws symbols s (Expr-F.Method o m xs) ≡ []
library_throws symbols s o m xs is = rw (none_means o m xs o.denotes is) refl

pub ruleset behind = (found_throws, library_throws)

-- ---- a call of the superclass's method

pub super_throws : (symbols : Symbols) (s : Scope) (at : ℕ) (m : Ident) (xs : List Known) (c : ℕ) → parent_of symbols s.class ≡ Some c
    → node_throws symbols s (Expr-F.Super at m xs) ≡ throws (method_named symbols c m.name (length xs))
super_throws symbols s at m xs c is = rw is refl

pub no_super_throws : (symbols : Symbols) (s : Scope) (at : ℕ) (m : Ident) (xs : List Known) → parent_of symbols s.class ≡ None
    → node_throws symbols s (Expr-F.Super at m xs) ≡ []
no_super_throws symbols s at m xs is = rw is refl

pub ruleset above = (super_throws, no_super_throws)

-- ---- where they may throw, by the number of arguments

pub super_points : (symbols : Symbols) (s : Scope) (at : ℕ) (m : Ident) (es : List Expr) (c : ℕ) → parent_of symbols s.class ≡ Some c
    → points_here symbols s (Expr-F.Super at m (map (known_of symbols s) es)) ≡ points_at at (throws (method_named symbols c m.name (length es)))
super_points symbols s at m es c is = rw (is, length-map) refl

pub new_points : (symbols : Symbols) (s : Scope) (at : ℕ) (c : Ident) (es : List Expr)
    → points_here symbols s (Expr-F.New at c (map (known_of symbols s) es)) ≡ points_at at (maker_throws (maker_named symbols c.name (length es)))
new_points symbols s at c es = rw length-map refl
