-- The program of a file that breaks no rule is well typed.
use Rattle.std.proofs.Common.{◌≡◌, ℕ, ◌+◌, not, ◌||◌, ◌&&◌, ◌==◌, IsTrue, List, [], ◌∷◌, ◌++◌, length, Option, Some, is_some, slice_get, refl, subst, sym, arith}
use Rattle.std.specs.Prelude.{nat_le}
use Rattle.std.specs.List.{list_all}
use Rattle.std.proofs.lemmas.Bool.{and_from}
use Rattle.core_tree.specs.declared.program.Program.{Program}
use Rattle.core_tree.specs.Types.{line_of}
use Rattle.core_tree.specs.Typing.{is_throwable, chosen_method}
use Rattle.core_tree.specs.WellTyped.{IsWellTyped, is_class, is_field, is_chosen, chosen_above, is_message_method, overrides}
use Rattle.token_reading.specs.declared.fault.Fault.{Fault}
use Rattle.java_syntax.specs.declared.class.FileTree.{FileTree}
use Rattle.class_table.specs.declared.row.ClassRow.{ClassRow}
use Rattle.class_table.specs.declared.row.ClassTable.{ClassTable}
use Rattle.class_table.specs.Faults.{Clear}
use Rattle.class_table.specs.Rules.{Breaks}
use Rattle.class_table.specs.Table.{table_of}
use Rattle.class_table.specs.TableFacts.{IsTable}
use Rattle.primitive_operators.specs.declared.scalar.Scalar.{Scalar}
use Rattle.java_members.specs.Declarations.{declaration_faults}
use Rattle.java_members.specs.Files.{of_members, of_made, member_faults, made_faults, core_class, declared_faults, body_faults, then_faults, faults_of, env_of, reading_of, program_of}
use Rattle.typing_law.specs.Agrees.{Agrees}
use Rattle.token_law.specs.Tokens.{HasOwnTokens}
use Rattle.typing_law.proofs.FileAgrees.{file_agrees, short_lines}
use Rattle.typing_law.proofs.NoFaults.{empty_parts}
use Rattle.typing_law.proofs.Tables.{env_with, program_with}
use Rattle.typing_law.proofs.WholeLists.{all_numbered}
use Rattle.typing_law.proofs.WholeClasses.{few_classes, row_there, parent_there, has_line}
use Rattle.typing_law.proofs.WholeBuiltIn.{first_rows}
use Rattle.typing_law.proofs.WholeFields.{all_inherited, few_fields, fields_typed}
use Rattle.typing_law.proofs.WholeMembers.{methods_typed, makers_typed}
use Rattle.typing_law.proofs.WholeMain.{main_there}
use Rattle.typing_law.proofs.WholeContracts.{contracts_typed}
use Rattle.typing_law.proofs.WholeChosen.{all_chosen, overrides_right, message_right}

module _ (tree : FileTree) (constants : List (ℕ × Option Scalar)) (is_table : IsTable (table_of tree)) (clear : Clear (Breaks tree))
    (none : of_members (declaration_faults (env_with (table_of tree) tree [])) 18 tree.classes ≡ [])
    (bodies : of_members (member_faults (env_with (table_of tree) tree constants)) 18 tree.classes ≡ [])
    (made : of_made (made_faults (env_with (table_of tree) tree constants)) 18 tree.classes ≡ [])
    (agrees : Agrees (env_with (table_of tree) tree constants) (program_with (table_of tree) tree constants)) where
  abbrev table : ClassTable
  table = table_of tree

  abbrev p : Program
  p = program_with table tree constants

  class_typed : (c : ℕ) (row : ClassRow) → slice_get table.classes c ≡ Some row → IsTrue (is_class p c (core_class (env_with table tree constants) tree c row))
  class_typed c row is =
      let class = core_class (env_with table tree constants) tree c row in
      let has_parent = is_some class.parent || c == 0 in
      let few = nat_le (length class.fields) 255 in
      let fields = list_all (is_field p c) class.fields in
      let chosen = list_all (is_chosen p c) class.chosen in
      let over = overrides p (chosen_above p class) class.chosen in
      let message = not (is_throwable p c) || is_message_method (chosen_method p c 0) in
      and_from (is_some (line_of p.classes c)) (has_parent && (few && (fields && (chosen && (over && message))))) (has_line tree constants none is_table (short_lines tree) c row is)
      (and_from has_parent (few && (fields && (chosen && (over && message)))) (parent_there tree constants clear c row is)
      (and_from few (fields && (chosen && (over && message))) (few_fields tree constants none is_table (short_lines tree) c row is)
      (and_from fields (chosen && (over && message)) (fields_typed tree constants none is_table (short_lines tree) clear agrees bodies c row is)
      (and_from chosen (over && message) (all_chosen tree constants none is_table (short_lines tree) clear c)
      (and_from over message (overrides_right tree constants none is_table (short_lines tree) clear c row is) (message_right tree constants none is_table (short_lines tree) clear c row is))))))

  program_typed : IsWellTyped (program_with (table_of tree) tree constants)
  program_typed = record {
    few_classes = few_classes tree constants is_table;
    built_in = first_rows tree constants none is_table (short_lines tree);
    classes = all_numbered (is_class p) 0 p.classes (λ c class is.
        let start : c ≡ 0 + c = omega arith in
        let row = row_there tree constants c class is in
        subst (λ n. IsTrue (is_class p n class)) start (subst (λ k. IsTrue (is_class p c k)) (sym row.2) (class_typed c row.0 row.1)));
    inherited = all_inherited tree constants none is_table (short_lines tree);
    methods = methods_typed tree constants none clear agrees bodies;
    makers = makers_typed tree constants none clear agrees bodies made;
    main = main_there tree constants clear;
    contracts = contracts_typed tree constants;
  }

-- where no declaration breaks a rule, nothing but bodies can
both_empty : (xs ys : List Fault) → then_faults xs ys ≡ [] → (xs ≡ []) × (ys ≡ [])
both_empty [] ys none = (refl, none)
both_empty (x ∷ xs) ys none = absurd (cc)

-- the program of a file that breaks no rule is well typed, where its symbols agree with it
pub file_typed : (tree : FileTree) → IsTable (table_of tree) → Clear (Breaks tree) → faults_of (table_of tree) tree ≡ [] → Agrees (env_of (table_of tree) tree) (program_of (table_of tree) tree) → IsWellTyped (program_of (table_of tree) tree)
unfolding faults_of program_of
file_typed tree is_table clear none agrees =
    let table = table_of tree in
    let env = env_of table tree in
    let parts = both_empty (declared_faults table tree) (body_faults table tree) none in
    let members = of_members (member_faults env) 18 tree.classes in
    let made = of_made (made_faults env) 18 tree.classes in
    let rest = empty_parts members made (empty_parts (reading_of table tree).faults (members ++ made) parts.1).1 in
    program_typed tree (reading_of table tree).constants is_table clear parts.0 rest.0 rest.1 agrees

-- the law of typing: the program of a file that breaks no rule is well typed
pub law : (tree : FileTree) → IsTable (table_of tree) → Clear (Breaks tree) → HasOwnTokens tree → faults_of (table_of tree) tree ≡ [] → IsWellTyped (program_of (table_of tree) tree)
unfolding faults_of program_of
law tree is_table clear own none =
    let table = table_of tree in
    let env = env_of table tree in
    let parts = both_empty (declared_faults table tree) (body_faults table tree) none in
    let read = empty_parts (reading_of table tree).faults (of_members (member_faults env) 18 tree.classes ++ of_made (made_faults env) 18 tree.classes) parts.1 in
    file_typed tree is_table clear none (file_agrees tree is_table clear own parts.0 read.0)
