-- The numbers of methods and constructors.
use Rattle.std.specs.Prelude.{ℕ, ◌+◌, List, [], ◌∷◌, length, if◌then◌else◌}
use Rattle.class_table.specs.declared.row.ClassRow.{ClassRow}
use Rattle.java_names.specs.declared.numbers.Numbers.{Numbers}
use Rattle.core_tree.specs.BuiltIn.{is_built_in}
use Rattle.java_names.specs.BuiltIn.{needs_maker}

-- how many constructors are made for class number c
abbrev pub made_for : ℕ → ClassRow → ℕ
made_for c row = if needs_maker c row.makers then 1 else 0

-- the numbers that come next after class number c, where they are `numbers` before it
abbrev pub numbers_after : ℕ → Numbers → ClassRow → Numbers
numbers_after c numbers row =
    if is_built_in c then numbers
    else record { method = numbers.method + length row.methods; maker = numbers.maker + length row.makers; made = numbers.made + made_for c row }

-- how many constructors are written in class number c of the file; none where it is built in
abbrev pub written_in : ℕ → ClassRow → ℕ
written_in c row = if is_built_in c then 0 else length row.makers

-- how many constructors are written in the classes of the file, from class number c on
abbrev pub written_from : ℕ → List ClassRow → ℕ
written_from c [] = 0
written_from c (row ∷ more) = written_in c row + written_from (c + 1) more

-- methods and constructors are numbered from 0; the constructors that are made come after all that are written
abbrev pub first_numbers : List ClassRow → Numbers
first_numbers rows = record { method = 0; maker = 0; made = written_from 0 rows }
