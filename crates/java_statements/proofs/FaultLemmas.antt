-- Lemmas on lists of faults of statements.
use Rattle.std.proofs.Common.{ℕ, List, [], ◌∷◌, ◌++◌, inl, inr}
use Rattle.token_reading.specs.declared.fault.Fault.{Fault}
use Rattle.token_reading.specs.declared.fault.CheckError.{CheckError}
use Rattle.token_reading.specs.declared.fault.CheckError.TheVariants as error
use Rattle.java_exprs.specs.Attr.{of_rule}
use Rattle.java_names.specs.Refusals.{Has, Refuses}
use Rattle.java_names.proofs.RefusalLemmas.{has_right}
use Rattle.java_exprs.proofs.RulesLemmas.{has_there}

has_around : (xs ys zs : List Fault) (f : Fault) → Has (xs ++ zs) f → Has ((xs ++ ys) ++ zs) f
has_around [] ys zs f h = has_right ys zs f h
has_around (x ∷ xs) ys zs f h = elim h [ inl is ↦ inl is | inr more ↦ inr (has_around xs ys zs f more) ]

has_behind : (xs ys zs : List Fault) (f : Fault) → Has (ys ++ zs) f → Has ((xs ++ ys) ++ zs) f
has_behind [] ys zs f h = h
has_behind (x ∷ xs) ys zs f h = inr (has_behind xs ys zs f h)

-- of the faults of a part and those after it, with others between them
pub refuses_around : (xs ys zs : List Fault) (e : CheckError) → Refuses (xs ++ zs) e → Refuses ((xs ++ ys) ++ zs) e
refuses_around xs ys zs (error.Fault f) h = has_around xs ys zs f h
refuses_around xs ys zs error.OutOfMemory h = tt

-- and with others before them
pub refuses_behind : (xs ys zs : List Fault) (e : CheckError) → Refuses (ys ++ zs) e → Refuses ((xs ++ ys) ++ zs) e
refuses_behind xs ys zs (error.Fault f) h = has_behind xs ys zs f h
refuses_behind xs ys zs error.OutOfMemory h = tt

pub ruleset around = (refuses_around, refuses_behind)

has_places : (k : ℕ) (xs ys : List ℕ) (more : List Fault) (f : Fault) → Has (of_rule k xs more) f → Has (of_rule k (xs ++ ys) more) f
has_places k [] ys more f h = has_there k ys more f h
has_places k (x ∷ xs) ys more f h = elim h [ inl is ↦ inl is | inr rest ↦ inr (has_places k xs ys more f rest) ]

-- of the places of a rule and those of other rules, with more places of the rule between them
pub refuses_places : (k : ℕ) (xs ys : List ℕ) (more : List Fault) (e : CheckError) → Refuses (of_rule k xs more) e → Refuses (of_rule k (xs ++ ys) more) e
refuses_places k xs ys more (error.Fault f) h = has_places k xs ys more f h
refuses_places k xs ys more error.OutOfMemory h = tt
