-- Internal: the initialisers of the fields that a class declares.
use Rattle.std.specs.Prelude.{◌==◌, ℕ, suc, List, [], ◌∷◌, drop, Option, Some, None, if◌then◌else◌}
use Rattle.core_tree.specs.declared.expr.Expr.{Expr}
use Rattle.core_tree.specs.declared.stmt.Stmt.{Stmt}
use Rattle.core_tree.specs.declared.program.Field.{Field}
use Rattle.core_tree.specs.declared.program.Program.{Program}
use Rattle.evaluation.specs.World.{Run, ◌>>=◌, ◌>>◌}
use Rattle.evaluation.specs.Objects.{write_cell}
use Rattle.evaluation.specs.Calls.{Parts, block, initialise}
use Rattle.std.specs.Option.{option_map_or}
use Rattle.interpreter.specs.declared.start.Start.{Start}

-- a field with its initialiser
pub record FieldStart : Type 0 where
  pub at : ℕ
  pub value : Expr

-- the initialiser of a field, where the class declares the field and it has one
abbrev pub initialiser_in : ℕ → Field → Option Expr
initialiser_in c field = if field.owner == c then field.start else None

-- the first of the fields that the class declares with an initialiser, the fields being counted from a place
abbrev pub next_start : ℕ → ℕ → List Field → Option FieldStart
next_start c at [] = None
next_start c at (field ∷ fields) =
    option_map_or (λ e. Some (record { at = at; value = e })) (initialiser_in c field) (next_start c (suc at) fields)

-- what the machine keeps of a field with its initialiser
abbrev pub start_of : Start → FieldStart
start_of start = record { at = start.at; value = start.value.now }

-- an initialiser, then those after it
abbrev pub started : Program → Parts → ℕ → ℕ → ℕ → Expr → List Field → Run
started p part o c at e fields =
    (part.expr e >>= (λ v. write_cell o at v)) >> initialise p part o c (suc at) (drop (suc at) fields)

-- the initialisers of the fields that a class declares, and then statements
abbrev pub initialised_then : Program → Parts → ℕ → ℕ → List Field → List Stmt → Run
initialised_then p part o c fields body = initialise p part o c 0 fields >> block p part body
