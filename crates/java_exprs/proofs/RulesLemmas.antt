-- Lemmas on lists of faults.
use Rattle.std.proofs.Common.{◌≡◌, ℕ, List, [], ◌∷◌, ◌++◌, map, length, refl, sym, ap, arith, inl, inr}
use Rattle.token_reading.specs.declared.fault.Fault.{Fault}
use Rattle.token_reading.specs.declared.fault.CheckError.{CheckError}
use Rattle.token_reading.specs.declared.fault.CheckError.TheVariants as error
use Rattle.class_table.specs.Faults.{Blames, OfRule}
use Rattle.java_exprs.specs.declared.value.Value.{Value}
use Rattle.java_exprs.specs.Attr.{Attr, of_rule, value_faults, values_faults}
use Rattle.java_names.specs.Refusals.{Has, Refuses}
use Rattle.java_names.proofs.RefusalLemmas.{refuses_left, refuses_right}
use Rattle.java_exprs.specs.Checks.{of_values}

-- ---- faults of rules

has_here : (k : ℕ) (ats : List ℕ) (more : List Fault) (f : Fault) → Has (of_rule k ats []) f → Has (of_rule k ats more) f
has_here k [] more f h = elim h [ ]
has_here k (a ∷ ats) more f h = elim h [ inl e ↦ inl e | inr m ↦ inr (has_here k ats more f m) ]

pub has_there : (k : ℕ) (ats : List ℕ) (more : List Fault) (f : Fault) → Has more f → Has (of_rule k ats more) f
has_there k [] more f h = h
has_there k (a ∷ ats) more f h = inr (has_there k ats more f h)

-- the faults of a rule, before those of others
pub refuses_here : (k : ℕ) (ats : List ℕ) (more : List Fault) (e : CheckError) → Refuses (of_rule k ats []) e → Refuses (of_rule k ats more) e
refuses_here k ats more (error.Fault f) h = has_here k ats more f h
refuses_here k ats more error.OutOfMemory h = tt

pub refuses_there : (k : ℕ) (ats : List ℕ) (more : List Fault) (e : CheckError) → Refuses more e → Refuses (of_rule k ats more) e
refuses_there k ats more (error.Fault f) h = has_there k ats more f h
refuses_there k ats more error.OutOfMemory h = tt

-- an error that names the one place of a rule
pub one_place : (k : ℕ) (ats : List ℕ) (e : CheckError) → Blames (OfRule k (λ at. ats ≡ at ∷ [])) e → Refuses (of_rule k ats []) e
one_place k ats (error.Fault f) h = rw (h.holds) (inl (fault_is f k h.rule_is))
  where
    fault_is : (f : Fault) (k : ℕ) → f.rule ≡ k → record { rule = k; at = f.at } ≡ f
    fault_is f k is = rw (sym is) refl
one_place k ats error.OutOfMemory h = tt

of_both : (k : ℕ) (xs ys : List ℕ) (more : List Fault) → of_rule k (xs ++ ys) more ≡ of_rule k xs (of_rule k ys more)
of_both k [] ys more = refl
of_both k (x ∷ xs) ys more = ap (λ fs. record { rule = k; at = x } ∷ fs) (of_both k xs ys more)

-- two lists of places of one rule
pub both_places : (k : ℕ) (xs ys : List ℕ) (more : List Fault) → of_rule k (xs ++ ys) more ≡ of_rule k xs (of_rule k ys more)
both_places = of_both

pub ruleset joins = (refuses_left, refuses_right, refuses_here, refuses_there)

-- ---- several parts

pub no_faults : (vs : List Value) → values_faults (of_values vs) ≡ []
no_faults [] = refl
no_faults (v ∷ vs) = no_faults vs

pub length_values : (vs : List Value) → length (of_values vs) ≡ length vs
length_values [] = refl
length_values (v ∷ vs) = grind (arith, length_values vs)

pub cores_values : (vs : List Value) → map (λ e. e.core) (of_values vs) ≡ map (λ v. v.core) vs
cores_values [] = refl
cores_values (v ∷ vs) = ap (λ cs. v.core ∷ cs) (cores_values vs)

pub faults_behind : (vs : List Value) (parts : List Attr) → values_faults (of_values vs ++ parts) ≡ values_faults parts
faults_behind [] parts = refl
faults_behind (v ∷ vs) parts = faults_behind vs parts

-- a part of a list, after parts that break nothing
pub refuses_among : (all : List Attr) (done : List Value) (a : Attr) (rest : List Attr) (e : CheckError)
    → all ≡ of_values done ++ a ∷ rest → Refuses (value_faults a) e → Refuses (values_faults all) e
refuses_among all done a rest e is h = rw (is, faults_behind done (a ∷ rest)) (refuses_left (value_faults a) (values_faults rest) e h)
