-- The fields of a class with those of its superclasses, and their places.
use Rattle.std.specs.Prelude.{ℕ, ◌+◌, if◌then◌else◌, List, [], ◌∷◌, reverse, flat_map, filter, length, Some, None}
use Rattle.std.specs.List.{slice_get, sum_by}
use Rattle.std.specs.Option.{option_map_or}
use Rattle.class_table.specs.declared.row.FieldRow.{FieldRow}
use Rattle.class_table.specs.declared.declaration.Declaration.{Declaration}
use Rattle.class_table.specs.Members.{is_instance}
use Rattle.class_table.specs.Ancestors.{superclasses}

-- the fields that class number c declares
abbrev pub fields_at : List Declaration → ℕ → List FieldRow
fields_at declared c = option_map_or (λ d. d.fields) (slice_get declared c) []

-- how many instance fields class number c declares
abbrev pub instance_count : List Declaration → ℕ → ℕ
instance_count declared c = length (filter is_instance (fields_at declared c))

-- how many instance fields the classes of a line declare
abbrev pub instance_total : List Declaration → List ℕ → ℕ
instance_total declared line = sum_by (instance_count declared) line

-- fields with their places: the instance fields are numbered on from n, and constants have none
abbrev pub numbered : ℕ → List FieldRow → List FieldRow
numbered n [] = []
numbered n (f ∷ more) = if is_instance f then record f { place = Some n } ∷ numbered (n + 1) more else record f { place = None } ∷ numbered n more

-- the fields that class number c declares, with their places: they are numbered on from the fields of its superclasses
abbrev pub placed_at : List Declaration → ℕ → List FieldRow
placed_at declared c = numbered (instance_total declared (superclasses declared c)) (fields_at declared c)

-- the fields along a line of classes, those of the highest class first
abbrev pub fields_along : List Declaration → List ℕ → List FieldRow
fields_along declared line = flat_map (placed_at declared) (reverse line)

-- the same for the classes from number n on
abbrev pub placed_from : List Declaration → ℕ → List Declaration → List (List FieldRow)
placed_from declared n [] = []
placed_from declared n (d ∷ more) = placed_at declared n ∷ placed_from declared (n + 1) more

abbrev pub placed_of : List Declaration → List (List FieldRow)
placed_of declared = placed_from declared 0 declared

-- the part at class number c
abbrev pub part_at : List (List FieldRow) → ℕ → List FieldRow
part_at parts c = option_map_or (λ part. part) (slice_get parts c) []
