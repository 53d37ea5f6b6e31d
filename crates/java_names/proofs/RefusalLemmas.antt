-- Faults of a part are faults of the whole.
use Rattle.std.proofs.Common.{◌≡◌, List, [], ◌∷◌, ◌++◌, inl, inr}
use Rattle.token_reading.specs.declared.fault.Fault.{Fault}
use Rattle.token_reading.specs.declared.fault.CheckError.{CheckError}
use Rattle.token_reading.specs.declared.fault.CheckError.TheVariants as error
use Rattle.java_names.specs.Refusals.{Has, Refuses}

pub has_left : (xs ys : List Fault) (f : Fault) → Has xs f → Has (xs ++ ys) f
has_left [] ys f h = elim h [ ]
has_left (x ∷ xs) ys f h = elim h [ inl e ↦ inl e | inr m ↦ inr (has_left xs ys f m) ]

pub has_right : (xs ys : List Fault) (f : Fault) → Has ys f → Has (xs ++ ys) f
has_right [] ys f h = h
has_right (x ∷ xs) ys f h = inr (has_right xs ys f h)

pub refuses_left : (xs ys : List Fault) (e : CheckError) → Refuses xs e → Refuses (xs ++ ys) e
refuses_left xs ys (error.Fault f) h = has_left xs ys f h
refuses_left xs ys error.OutOfMemory h = tt

pub refuses_right : (xs ys : List Fault) (e : CheckError) → Refuses ys e → Refuses (xs ++ ys) e
refuses_right xs ys (error.Fault f) h = has_right xs ys f h
refuses_right xs ys error.OutOfMemory h = tt

pub ruleset parts = (refuses_left, refuses_right)
