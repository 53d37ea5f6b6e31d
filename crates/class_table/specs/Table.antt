-- The table of a file.
use Rattle.std.specs.Prelude.{ℕ, ◌+◌, List, [], ◌∷◌}
use Rattle.java_syntax.specs.declared.class.FileTree.{FileTree}
use Rattle.class_table.specs.declared.row.ClassTable.{ClassTable}
use Rattle.class_table.specs.declared.row.ClassRow.{ClassRow}
use Rattle.class_table.specs.declared.declaration.Declaration.{Declaration}
use Rattle.class_table.specs.Ancestors.{line_at}
use Rattle.class_table.specs.Names.{class_names}
use Rattle.class_table.specs.Declarations.{declared_of}
use Rattle.class_table.specs.Fields.{fields_along}

-- the row of class number c
abbrev pub row_of : List Declaration → ℕ → Declaration → ClassRow
row_of declared number d =
    record { name = d.name; parent = d.parent; line = line_at declared number; fields = fields_along declared (line_at declared number); methods = d.methods; makers = d.makers; at = d.at }

-- the rows of some classes, numbered on from `number`
abbrev pub rows_from : List Declaration → ℕ → List Declaration → List ClassRow
rows_from declared number [] = []
rows_from declared number (d ∷ more) = row_of declared number d ∷ rows_from declared (number + 1) more

-- the table of a file: a row for each class, with all that it inherits, and the names by which the classes are found
abbrev pub table_of : FileTree → ClassTable
table_of tree = record { classes = rows_from (declared_of tree.classes) 0 (declared_of tree.classes); names = class_names tree.classes }
