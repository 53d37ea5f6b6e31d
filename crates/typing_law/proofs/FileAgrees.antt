-- What is looked up in a file that breaks no rule is so in its program.
use Rattle.std.proofs.Common.{◌≡◌, ℕ, ◌≤◌, [], length, Some, slice_get, subst, sym}
use Rattle.java_syntax.specs.declared.class.FileTree.{FileTree}
use Rattle.class_table.specs.declared.row.ClassRow.{ClassRow}
use Rattle.class_table.specs.Declarations.{declared_of}
use Rattle.class_table.specs.Faults.{Clear}
use Rattle.class_table.specs.Names.{Name}
use Rattle.class_table.specs.Rules.{Breaks}
use Rattle.class_table.specs.Table.{table_of}
use Rattle.class_table.specs.TableFacts.{IsTable}
use Rattle.java_names.specs.declared.symbol.FieldSymbol.{FieldSymbol}
use Rattle.java_exprs.specs.Lookups.{member_of}
use Rattle.java_members.specs.Files.{declared_faults, env_of, program_in, reading_of}
use Rattle.typing_law.specs.Agrees.{Agrees, AgreesOnField}
use Rattle.token_law.specs.Tokens.{HasOwnTokens}
use Rattle.typing_law.proofs.Tables.{line_short, length_rows}
use Rattle.typing_law.proofs.FileLookups.{calls_agree}
use Rattle.typing_law.proofs.FileMembers.{field_found, field_placed, field_value}
use Rattle.typing_law.proofs.FileConstants.{constant_agrees}

-- a line of a class of a file isn't longer than there are classes
pub short_lines : (tree : FileTree) (c : ℕ) (row : ClassRow) → slice_get (table_of tree).classes c ≡ Some row → length row.line ≤ length (table_of tree).classes
short_lines tree c row is = let declared = declared_of tree.classes in subst (λ n. length row.line ≤ n) (sym (length_rows declared 0 declared)) (line_short declared c row is)

pub file_agrees : (tree : FileTree) → IsTable (table_of tree) → Clear (Breaks tree) → HasOwnTokens tree → declared_faults (table_of tree) tree ≡ [] → (reading_of (table_of tree) tree).faults ≡ [] →
    Agrees (env_of (table_of tree) tree) (program_in (env_of (table_of tree) tree) (table_of tree) tree)
file_agrees tree is_table clear own none faults = record { calls = calls_agree tree (reading_of (table_of tree) tree).constants is_table clear none; field = fields }
  where
    fields : (c : ℕ) (x : Name) (m : FieldSymbol) → member_of (env_of (table_of tree) tree) c x ≡ Some m → AgreesOnField (env_of (table_of tree) tree) (program_in (env_of (table_of tree) tree) (table_of tree) tree) c m
    fields c x m is =
        let cs = (reading_of (table_of tree) tree).constants in
        let found = field_found tree cs none c x m is in
        record {
          value = field_value tree cs none c m found;
          field = λ place is_place. field_placed tree cs none is_table (short_lines tree) c m found place is_place;
          constant = λ no_place. constant_agrees tree is_table clear none own faults c x m is no_place;
        }
