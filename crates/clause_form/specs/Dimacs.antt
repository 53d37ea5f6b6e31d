-- The DIMACS text of clauses: a line with the numbers of variables and of clauses, and a line for each clause.
use Rattle.std.specs.Prelude.{ℕ, ℤ, List, ◌++◌, length, flat_map, codes}
use Rattle.std.specs.Fmt.{decimal, signed_decimal}
use Rattle.clause_form.specs.declared.clauses.Clauses.{Clauses}

-- the literal in decimal, and a space
abbrev pub literal_text : ℤ → List ℕ
literal_text l = signed_decimal l ++ codes " "

-- the literals, and 0
abbrev pub clause_line : List ℤ → List ℕ
clause_line c = flat_map literal_text c ++ codes "0\n"

-- the first line
abbrev pub header : ℕ → ℕ → List ℕ
header variables count = codes "p cnf " ++ decimal variables ++ codes " " ++ decimal count ++ codes "\n"

-- the whole text
abbrev pub dimacs : Clauses → List ℕ
dimacs clauses = header clauses.variables (length clauses.clauses.items) ++ flat_map clause_line clauses.clauses.items
