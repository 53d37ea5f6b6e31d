-- The sources that are accepted, each with its program.
use Rattle.std.specs.Prelude.{◌≡◌, ◌⊎◌, ℕ, ◌≤◌, List, [], length}
use Rattle.core_tree.specs.declared.program.Program.{Program}
use Rattle.java_tokens.specs.declared.token.Token.{Token}
use Rattle.java_tokens.specs.Tokens.{AreTokens}
use Rattle.token_reading.specs.declared.fault.Fault.{Fault}
use Rattle.java_syntax.specs.declared.class.FileTree.{FileTree}
use Rattle.java_syntax.specs.Height.{file_height}
use Rattle.java_syntax.specs.Spells.{Spells}
use Rattle.class_table.specs.Faults.{Clear}
use Rattle.class_table.specs.Rules.{Breaks}
use Rattle.class_table.specs.Table.{table_of}
use Rattle.java_names.specs.Refusals.{Has}
use Rattle.java_members.specs.Files as types
use Rattle.throw_check.specs.Files as throws

-- how many bytes a source may have
abbrev pub most_bytes : ℕ
most_bytes = 1048576

-- where a tree breaks the rules 10 to 21, and rule 23
abbrev pub type_faults : FileTree → List Fault
type_faults tree = types.faults_of (table_of tree) tree

abbrev pub throw_faults : FileTree → List Fault
throw_faults tree = throws.faults_of (table_of tree) tree

pub record BreaksNoRule (tree : FileTree) : Type 0 where
  pub classes : Clear (Breaks tree)
  pub types : type_faults tree ≡ []
  pub throws : throw_faults tree ≡ []

-- the rules are asked in three groups: those of a later one where none of an earlier one is broken
abbrev pub IsBroken : FileTree → Fault → Type 0
IsBroken tree f = Breaks tree f ⊎ (Clear (Breaks tree) × (Has (type_faults tree) f ⊎ ((type_faults tree ≡ []) × Has (throw_faults tree) f)))

-- the tokens are those of a tree that isn't too high and breaks no rule, and this is its program
pub record IsProgramOf (tokens : List Token) (program : Program) : Type 0 where
  pub tree : FileTree
  pub spelled : Spells tree tokens
  pub low : file_height tree ≤ 200
  pub clear : BreaksNoRule tree
  pub resolved : program ≡ types.program_of (table_of tree) tree

-- the bytes are a source that is accepted, and this is its program
pub record Accepted (bytes : List ℕ) (program : Program) : Type 0 where
  pub few : length bytes ≤ most_bytes
  pub tokens : List Token
  pub read : AreTokens bytes tokens
  pub program_is : IsProgramOf tokens program

-- each program of the bytes, where they are accepted, is this one
abbrev pub IsOnlyProgram : List ℕ → Program → Type 0
IsOnlyProgram bytes program = (other : Program) → Accepted bytes other → other ≡ program
