-- Which points break rule 23.
use Rattle.std.proofs.Common.{◌≡◌, ℕ, Bool, true, false, not, ◌||◌, ◌&&◌, List, [], ◌∷◌, ◌++◌, ◌-◌, length, take, refl, sym, ap, arith, inl}
use Rattle.std.specs.List.{list_any}
use Rattle.std.specs.Prelude.{Result}
use Rattle.java_names.specs.declared.symbol.Symbols.{Symbols}
use Rattle.token_reading.specs.declared.fault.CheckError.{CheckError}
use Rattle.java_names.specs.Refusals.{Has, Refuses, Allows}
use Rattle.java_names.proofs.RefusalLemmas.{refuses_left, refuses_right}
use Rattle.throw_check.specs.declared.handlers.Handlers.{Handlers}
use Rattle.throw_check.specs.Points.{Point, points_at}
use Rattle.throw_check.specs.Files.{broken_at, broken_at_points, unhandled}
use Rattle.throw_check.specs.Classes.{is_checked, is_covered, is_declared}
use Rattle.throw_check.specs.Statements.{uncaught}
use Rattle.std.proofs.lemmas.List.{map-append, length-append}
use Rattle.std.proofs.Math.Seq.{take-append_seam}
use Rattle.std.proofs.lemmas.List.Folds.{list_any-append}
use Rattle.std.proofs.lemmas.List.Elements.{filter-append}
use Rattle.throw_check.specs.Walks.{faults_left, is_broken, inside_try, outside_try}

-- a test at the first of some classes
any_first : (b more : Bool) → (b || more) ≡ false → (b ≡ false) × (more ≡ false)
any_first true more e = absurd (cc)
any_first false more e = (refl, e)

pub none_left : (s : Symbols) (h : Handlers) (at : ℕ) (cs : List ℕ) → list_any (is_broken s h) cs ≡ false → faults_left s h (points_at at cs) ≡ []
unfolding faults_left
none_left s h at [] none = refl
none_left s h at (c ∷ cs) none = let both = any_first (is_broken s h c) (list_any (is_broken s h) cs) none in rw both.0 (none_left s h at cs both.1)

pub some_left : (s : Symbols) (h : Handlers) (at : ℕ) (cs : List ℕ) → list_any (is_broken s h) cs ≡ true → Has (faults_left s h (points_at at cs)) (broken_at at)
unfolding faults_left
some_left s h at [] some = absurd (cc)
some_left s h at (c ∷ cs) some = by_test (some_left s h at cs) (is_broken s h c) refl
  where
    by_test : (list_any (is_broken s h) cs ≡ true → Has (faults_left s h (points_at at cs)) (broken_at at))
        → (b : Bool) → is_broken s h c ≡ b → Has (faults_left s h (points_at at (c ∷ cs))) (broken_at at)
    by_test more true is = rw is (inl refl)
    by_test more false is = rw is (more (rw is at some))

pub ruleset left_at = (none_left, some_left)

-- ---- several lists of points

pub left_both : (s : Symbols) (h : Handlers) (xs ys : List Point) → faults_left s h (xs ++ ys) ≡ faults_left s h xs ++ faults_left s h ys
unfolding faults_left
left_both s h xs ys = rw (filter-append, map-append) refl

pub left_all : (s : Symbols) (h : Handlers) (xs ys : List Point) → faults_left s h xs ≡ [] → faults_left s h ys ≡ [] → faults_left s h (xs ++ ys) ≡ []
left_all s h xs ys none no_more = rw (left_both s h xs ys, none, no_more) refl

pub left_first : (s : Symbols) (h : Handlers) (xs ys : List Point) (e : CheckError) → Refuses (faults_left s h xs) e → Refuses (faults_left s h (xs ++ ys)) e
left_first s h xs ys e is = rw (left_both s h xs ys) (refuses_left (faults_left s h xs) (faults_left s h ys) e is)

pub left_second : (s : Symbols) (h : Handlers) (xs ys : List Point) (e : CheckError) → Refuses (faults_left s h ys) e → Refuses (faults_left s h (xs ++ ys)) e
left_second s h xs ys e is = rw (left_both s h xs ys) (refuses_right (faults_left s h xs) (faults_left s h ys) e is)

pub left_none : (s : Symbols) (h : Handlers) → faults_left s h [] ≡ []
unfolding faults_left
left_none s h = refl

pub ruleset joins = (left_both, left_all, left_first, left_second, left_none)

-- ---- the block of a `try`

by_cases : (checked caught here declared : Bool)
    → (checked && not ((caught || (here || false)) || declared)) ≡ (not here && (checked && not (caught || declared)))
by_cases true true true declared = refl
by_cases true true false declared = refl
by_cases true false true declared = refl
by_cases true false false declared = refl
by_cases false caught true declared = refl
by_cases false caught false declared = refl

-- inside it the rule is broken where it is outside, and no clause takes the exception
broken_inside : (s : Symbols) (h : Handlers) (classes : List ℕ) (c : ℕ) → is_broken s (inside_try h classes) c ≡ (not (is_covered s classes c) && is_broken s h c)
broken_inside s h classes c =
    rw (list_any-append (λ list. is_covered s list c) h.caught (classes ∷ []))
    (by_cases (is_checked s c) (list_any (λ list. is_covered s list c) h.caught) (is_covered s classes c) (is_declared s h.declared c))

-- what its clauses take is handled inside it
pub left_try : (symbols : Symbols) (h : Handlers) (classes : List ℕ) (points : List Point) → faults_left symbols h (uncaught symbols classes points) ≡ faults_left symbols (inside_try h classes) points
unfolding faults_left
left_try symbols h classes [] = refl
left_try symbols h classes (p ∷ points) = by_test (left_try symbols h classes points) (is_covered symbols classes p.class) (is_broken symbols h p.class) refl refl
  where
    by_test : faults_left symbols h (uncaught symbols classes points) ≡ faults_left symbols (inside_try h classes) points
        → (b broken : Bool) → is_covered symbols classes p.class ≡ b → is_broken symbols h p.class ≡ broken
        → faults_left symbols h (uncaught symbols classes (p ∷ points)) ≡ faults_left symbols (inside_try h classes) (p ∷ points)
    by_test more true broken is so = rw (broken_inside symbols h classes p.class, is) more
    by_test more false true is so = rw (broken_inside symbols h classes p.class, is, so) (ap (λ faults. broken_at p.at ∷ faults) more)
    by_test more false false is so = rw (broken_inside symbols h classes p.class, is, so) more

-- ---- the whole of a method or constructor

pub left_whole : (symbols : Symbols) (lists : List (List ℕ)) (points : List Point) → faults_left symbols (record { declared = lists; caught = [] }) points ≡ broken_at_points (unhandled symbols lists points)
unfolding faults_left
left_whole symbols lists points = refl

-- ---- leaving a `try`

front_of : (lists : List (List ℕ)) (classes : List ℕ) → take (length (lists ++ classes ∷ []) - 1) (lists ++ classes ∷ []) ≡ lists
front_of lists classes = let one_less : length (lists ++ classes ∷ []) - 1 ≡ length lists = omega (arith, length-append lists (classes ∷ [])) in rw one_less (take-append_seam lists (classes ∷ []))

pub outside_inside : (h : Handlers) (classes : List ℕ) → outside_try (inside_try h classes) ≡ h
outside_inside h classes = ap (λ lists. record h { caught = lists }) (front_of h.caught classes)

-- ---- what a part after others answers

pub handles_behind : {T : Type 0} (s : Symbols) (h : Handlers) (xs ys : List Point) (r : Result T CheckError)
    → faults_left s h xs ≡ [] → Allows (faults_left s h ys) r → Allows (faults_left s h (xs ++ ys)) r
handles_behind s h xs ys r none is = rw (left_both s h xs ys, none) is

pub handles_whole : {T : Type 0} (symbols : Symbols) (lists : List (List ℕ)) (points : List Point) (h : Handlers) (r : Result T CheckError)
    → h ≡ record { declared = lists; caught = [] } → Allows (faults_left symbols h points) r → Allows (broken_at_points (unhandled symbols lists points)) r
handles_whole symbols lists points h r is handled = rw (sym (left_whole symbols lists points)) (rw is at handled)
