-- What files mean, and what a call on them does.
use Rattle.std.specs.Prelude.{◌≡◌, ◌⊎◌, ℕ, ◌+◌, ◌≤◌, ◌↔◌, Bool, false, List, [], ◌∷◌, ◌++◌, take, drop, Option, Some, None, Result, Err, IfSome}
use Rattle.std.specs.Option.{option_map}
use Rattle.pb_io.specs.declared.fault.OutsideFault.{OutsideFault}
use Rattle.pb_io.specs.declared.fault.OutsideFault.TheVariants as fault
use Rattle.pb_io.specs.declared.files.ReadError.{ReadError}
use Rattle.pb_io.specs.declared.files.ReadError.TheVariants as error

-- what files mean at one moment: the names of which they tell that no file has them; the bytes of the file of each
-- name, the names started so far and the rest of the started file, each where they tell it; whether a file is started;
-- and how often they failed so far
pub record FilesState : Type 0 where
  pub lacks : List ℕ → Bool
  pub bytes_of : List ℕ → Option (List ℕ)
  pub started : Option (List (List ℕ))
  pub rest : Option (List ℕ)
  pub is_started : Bool
  pub faults : ℕ

-- the names started, with one more
abbrev pub with_name : Option (List (List ℕ)) → List ℕ → Option (List (List ℕ))
with_name None name = None
with_name (Some names) name = Some (names ++ name ∷ [])

-- the names started after a start of this name: one more, unless memory ran out
abbrev pub names_after : {T : Type 0} → Result T OutsideFault → Option (List (List ℕ)) → List ℕ → Option (List (List ℕ))
names_after (Err fault.OutOfMemory) names name = names
names_after _ names name = with_name names name

-- a read of n bytes: the next n bytes stand in the first places of the slice, and the others are left;
-- none is given exactly at the end
pub record Gives (before now : Option (List ℕ)) (n : ℕ) (into : List ℕ) : Type 0 where
  pub front : IfSome before (λ rest. take n into ≡ take n rest)
  pub left : now ≡ option_map (drop n) before
  pub at_end : IfSome before (λ rest. (n ≡ 0) ↔ (rest ≡ []))

-- the name was started once and no other name was; where memory ran out, it may not have been
abbrev pub StartsOnce : {T : Type 0} → Result T ReadError → Option (List (List ℕ)) → Option (List (List ℕ)) → List ℕ → Type 0
StartsOnce (Err error.OutOfMemory) before now name = (now ≡ before) ⊎ (now ≡ with_name before name)
StartsOnce _ before now name = now ≡ with_name before name

-- no more than `limit + 1` bytes of this file are taken, or none is started
abbrev pub TakesWithin : FilesState → Option (List ℕ) → ℕ → Type 0
TakesWithin now file limit =
    (now.is_started ≡ false) ⊎ ((n : ℕ) × (n ≤ limit + 1) × (now.rest ≡ option_map (drop n) file))
