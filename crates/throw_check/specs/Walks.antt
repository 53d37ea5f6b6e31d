-- What handles an exception at a place of a file, and where a walk through it comes back to.
use Rattle.std.specs.Prelude.{ℕ, Bool, not, ◌||◌, ◌&&◌, List, [], ◌∷◌, ◌++◌, ◌-◌, length, take, filter}
use Rattle.std.specs.List.{filter_map, flat_map, list_any}
use Rattle.token_reading.specs.declared.fault.Fault.{Fault}
use Rattle.java_syntax.specs.declared.statement.CatchTree.{CatchTree}
use Rattle.java_names.specs.declared.scope.Scope.{Scope}
use Rattle.java_names.specs.declared.symbol.Symbols.{Symbols}
use Rattle.java_names.specs.Lookups.{class_number}
use Rattle.java_names.specs.Scope.{mark_of}
use Rattle.throw_check.specs.declared.handlers.Handlers.{Handlers}
use Rattle.throw_check.specs.declared.locals.BlockEntry.{BlockEntry}
use Rattle.throw_check.specs.Classes.{is_checked, is_covered, is_declared}
use Rattle.throw_check.specs.Points.{Point}
use Rattle.throw_check.specs.Statements.{clause}
use Rattle.throw_check.specs.Files.{broken_at_points}

-- ---- points

-- an exception of class c is caught around the place, or declared by each method or constructor that runs it
abbrev pub is_handled : Symbols → Handlers → ℕ → Bool
is_handled s h c = list_any (λ classes. is_covered s classes c) h.caught || is_declared s h.declared c

abbrev pub is_broken : Symbols → Handlers → ℕ → Bool
is_broken s h c = is_checked s c && not (is_handled s h c)

-- the points that break rule 23
unfoldable pub faults_left : Symbols → Handlers → List Point → List Fault
faults_left s h points = broken_at_points (filter (λ p. is_broken s h p.class) points)

-- what handles an exception in the block of a `try` whose clauses have these classes
abbrev pub inside_try : Handlers → List ℕ → Handlers
inside_try h classes = record h { caught = h.caught ++ classes ∷ [] }

-- the same after it
abbrev pub outside_try : Handlers → Handlers
outside_try h = record h { caught = take (length h.caught - 1) h.caught }

-- ---- scopes

-- where a block begins that is left later: the locals in scope there, and those that were declared before
abbrev pub entry_of : Scope → BlockEntry
entry_of s = record { mark = mark_of s; slots = length s.slots }

-- the scope after a block that began there: its locals are gone
unfoldable pub back_to : BlockEntry → Scope → Scope
back_to p s = record s { locals = take p.mark.locals s.locals; in_loop = p.mark.in_loop; slots = take p.slots s.slots }

-- ---- statements

-- the classes that catch clauses name
abbrev pub classes_of : Symbols → List CatchTree → List ℕ
classes_of symbols clauses = filter_map (λ c. class_number symbols c.class.name) clauses

-- the points of each of some catch clauses
abbrev pub clauses_points : Symbols → List CatchTree → Scope → List Point
clauses_points symbols clauses s = flat_map (λ c. clause symbols c s) clauses
