-- The tokens of the names of fields and constants.
use Rattle.std.specs.Prelude.{◌≡◌, ℕ, Some, slice_get}
use Rattle.java_syntax.specs.declared.class.FileTree.{FileTree}
use Rattle.class_table.specs.declared.row.FieldRow.{FieldRow}
use Rattle.class_table.specs.Declarations.{declared_of}
use Rattle.class_table.specs.Fields.{fields_at}

-- fields and constants that are declared by the same token are of the same type: each name is a token of its own
abbrev pub HasOwnTokens : FileTree → Type 0
HasOwnTokens tree = (c d i j : ℕ) (f g : FieldRow) → slice_get (fields_at (declared_of tree.classes) c) i ≡ Some f → slice_get (fields_at (declared_of tree.classes) d) j ≡ Some g → f.at ≡ g.at → f.ty ≡ g.ty
