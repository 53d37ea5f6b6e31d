-- What a check answers, by the list of all faults of what is checked.
use Rattle.std.specs.Prelude.{◌≡◌, List, [], ◌∷◌, Result, Ok, Err, ◌⊎◌}
use Rattle.token_reading.specs.declared.fault.Fault.{Fault}
use Rattle.token_reading.specs.declared.fault.CheckError.{CheckError}
use Rattle.token_reading.specs.declared.fault.CheckError.TheVariants as error

-- the fault is one of these
abbrev pub Has : List Fault → Fault → Type 0
Has [] f = ⊥
Has (x ∷ xs) f = (x ≡ f) ⊎ Has xs f

-- a refusal names one of these faults; memory may run out at any time
abbrev pub Refuses : List Fault → CheckError → Type 0
Refuses faults (error.Fault f) = Has faults f
Refuses faults error.OutOfMemory = Unit {0}

-- without an error there is no such fault
abbrev pub Allows : {T : Type 0} → List Fault → Result T CheckError → Type 0
Allows faults (Ok v) = faults ≡ []
Allows faults (Err e) = Refuses faults e
