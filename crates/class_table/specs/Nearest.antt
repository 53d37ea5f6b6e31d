-- The nearest method above with the same name and number of parameters, by which overriding is checked.
use Rattle.std.specs.Prelude.{ℕ, ◌≡◌, Bool, true, false, List, [], ◌∷◌, Option, None}
use Rattle.std.specs.Option.{option_map_or, option_or}
use Rattle.class_table.specs.declared.declaration.Declaration.{Declaration}
use Rattle.class_table.specs.declared.row.MethodRow.{MethodRow}
use Rattle.class_table.specs.declared.row.Signature.{Signature}
use Rattle.class_table.specs.Names.{Name}
use Rattle.class_table.specs.Ancestors.{superclasses}
use Rattle.class_table.specs.Index.{signature_of}
use Rattle.class_table.specs.Rules.{may_override, method_called}

-- the method that the first class of a line that has one declares under a name and a number of parameters
abbrev pub first_called : List Declaration → Signature → List ℕ → Option MethodRow
first_called declared key [] = None
first_called declared key (c ∷ more) = option_or (method_called declared key c) (first_called declared key more)

-- method m of class `number` may override the nearest method above
abbrev pub fits_nearest : List Name → List Declaration → ℕ → MethodRow → Bool
fits_nearest names declared number m = option_map_or (may_override names declared m) (first_called declared (signature_of m) (superclasses declared number)) true

-- a method may not override the nearest method above; at its name
abbrev pub NearestWrong : List Name → List Declaration → ℕ → MethodRow → ℕ → Type 0
NearestWrong names declared number m at = (fits_nearest names declared number m ≡ false) × (at ≡ m.at)
