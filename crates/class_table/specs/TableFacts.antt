-- What holds of a finished table, in the words of the table alone: the layers above rest on it.
use Rattle.std.specs.Prelude.{ℕ, ◌≡◌, ◌<◌, ◌≤◌, ◌==◌, true, List, [], ◌∷◌, ◌++◌, map, filter, length, Option, Some, None}
use Rattle.std.specs.List.{list_all, range_with_len, slice_get}
use Rattle.std.specs.Option.{option_map_or}
use Rattle.class_table.specs.declared.row.ClassTable.{ClassTable}
use Rattle.class_table.specs.declared.row.ClassRow.{ClassRow}
use Rattle.class_table.specs.declared.row.FieldRow.{FieldRow}
use Rattle.class_table.specs.Members.{is_instance}
use Rattle.class_table.specs.Fields.{numbered}

-- the line of a superclass; nothing where there is none
abbrev pub line_above : List ClassRow → Option ℕ → List ℕ
line_above rows None = []
line_above rows (Some p) = option_map_or (λ row. row.line) (slice_get rows p) []

-- the fields of a superclass; none where there is none
abbrev pub fields_above : List ClassRow → Option ℕ → List FieldRow
fields_above rows None = []
fields_above rows (Some p) = option_map_or (λ row. row.fields) (slice_get rows p) []

-- the places of the instance fields among some fields
abbrev pub places : List FieldRow → List (Option ℕ)
places fields = map (λ f. f.place) (filter is_instance fields)

-- the row of class number c, among the rows of a table
pub record IsRow (rows : List ClassRow) (c : ℕ) (row : ClassRow) : Type 0 where
  -- the superclass is a class of the table
  pub superclass : (p : ℕ) → row.parent ≡ Some p → p < length rows
  -- the line is the class itself, and then the line of its superclass
  pub line : row.line ≡ c ∷ line_above rows row.parent
  -- the fields that the class declares itself
  pub own : List FieldRow
  pub owner : list_all (λ f. f.owner == c) own ≡ true
  -- the fields of the superclass come first, with the places that they have there, and the own ones are numbered on
  pub fields : row.fields ≡ fields_above rows row.parent ++ own
  pub numbered_on : own ≡ numbered (length (filter is_instance (fields_above rows row.parent))) own
  -- the place of an instance field is its number among the instance fields
  pub placed : places row.fields ≡ map Some (range_with_len 0 (length (filter is_instance row.fields)))
  pub few : length (filter is_instance row.fields) ≤ 255

pub record IsTable (table : ClassTable) : Type 0 where
  pub few : length table.names ≤ 1018
  -- the classes are found by their names
  pub names_are : table.names ≡ map (λ row. row.name) table.classes
  pub rows : (c : ℕ) (row : ClassRow) → slice_get table.classes c ≡ Some row → IsRow table.classes c row
