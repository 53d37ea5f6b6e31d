-- What breaks rule 23 in the initialiser of a field, which is reported at the field's name.
use Rattle.std.proofs.Common.{◌≡◌, ◌∙◌, ℕ, List, [], ◌∷◌, refl, sym, ap, inl}
use Rattle.token_reading.specs.declared.fault.Fault.{Fault}
use Rattle.java_names.specs.declared.symbol.Symbols.{Symbols}
use Rattle.java_names.specs.Refusals.{Has}
use Rattle.throw_check.specs.declared.handlers.Handlers.{Handlers}
use Rattle.throw_check.specs.Points.{Point}
use Rattle.throw_check.specs.Files.{broken_at, broken_at_name, broken_at_points, unhandled}
use Rattle.throw_check.specs.Walks.{faults_left}
use Rattle.throw_check.proofs.LeftLemmas.{left_whole}

-- where nothing is caught
pub left_uncaught : (symbols : Symbols) (h : Handlers) (points : List Point) → h.caught ≡ [] → faults_left symbols h points ≡ broken_at_points (unhandled symbols h.declared points)
left_uncaught symbols h points is =
    ap (λ (lists : List (List ℕ)). faults_left symbols (record { declared = h.declared; caught = lists }) points) is ∙ left_whole symbols h.declared points

none_named : (at : ℕ) (points : List Point) → broken_at_points points ≡ [] → broken_at_name at points ≡ []
none_named at [] is = refl
none_named at (p ∷ points) is = absurd (cc)

some_named : (at : ℕ) (points : List Point) (f : Fault) → Has (broken_at_points points) f → Has (broken_at_name at points) (broken_at at)
some_named at [] f h = elim h [ ]
some_named at (p ∷ points) f h = inl refl

pub field_handled : (symbols : Symbols) (h : Handlers) (at : ℕ) (points : List Point) → h.caught ≡ [] → faults_left symbols h points ≡ [] → broken_at_name at (unhandled symbols h.declared points) ≡ []
field_handled symbols h at points uncaught none = none_named at (unhandled symbols h.declared points) (sym (left_uncaught symbols h points uncaught) ∙ none)

pub field_refused : (symbols : Symbols) (h : Handlers) (at : ℕ) (points : List Point) (f : Fault) → h.caught ≡ [] → Has (faults_left symbols h points) f
    → Has (broken_at_name at (unhandled symbols h.declared points)) (broken_at at)
field_refused symbols h at points f uncaught some = some_named at (unhandled symbols h.declared points) f (rw (left_uncaught symbols h points uncaught) at some)

pub ruleset fields = (field_handled, field_refused)
