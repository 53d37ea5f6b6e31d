-- Every method that is looked up is as the program has it.
use Rattle.std.proofs.Common.{◌≡◌, ◌∙◌, ⊎_elim, ℕ, ◌||◌, IsTrue, List, [], length, Option, Some, slice_get, subst, sym, ap, ◌≤◌}
use Rattle.std.specs.Prelude.{nat_eq}
use Rattle.std.specs.List.{list_all}
use Rattle.std.proofs.lemmas.Bool.{false≢true, eqb-true, or_left}
use Rattle.std.proofs.lemmas.List.{length-map}
use Rattle.std.specs.Cmp.{second_so}
use Rattle.core_tree.specs.declared.ty.Ty.TheVariants as ty
use Rattle.core_tree.specs.Types.{is_void}
use Rattle.core_tree.specs.WellTyped.{is_value}
use Rattle.core_tree.proofs.TypeNodes.{is_value_type-Text}
use Rattle.java_syntax.specs.declared.class.FileTree.{FileTree}
use Rattle.class_table.specs.declared.row.ClassRow.{ClassRow}
use Rattle.class_table.specs.Faults.{Clear}
use Rattle.class_table.specs.Names.{same_name}
use Rattle.class_table.specs.Rules.{Breaks}
use Rattle.class_table.specs.Table.{table_of}
use Rattle.class_table.specs.TableFacts.{IsTable}
use Rattle.java_names.specs.declared.symbol.MethodSymbol.{MethodSymbol}
use Rattle.java_names.specs.Types.{declared_type}
use Rattle.primitive_operators.specs.declared.scalar.Scalar.{Scalar}
use Rattle.java_exprs.specs.Lookups.{method_of}
use Rattle.java_members.specs.Declarations.{declaration_faults}
use Rattle.java_members.specs.Files.{of_members}
use Rattle.typing_law.specs.Agrees.{AgreesOnMethod, AgreesOnCalls}
use Rattle.typing_law.proofs.Tables.{env_with, program_with, line_short, length_rows, class_within, same_superclass, same_below}
use Rattle.typing_law.proofs.MadeMakers.{makers_agree}
use Rattle.typing_law.proofs.FileLines.{super_agrees}
use Rattle.class_table.specs.Declarations.{declared_of}
use Rattle.typing_law.proofs.FileMethods.{IsGetMessage, IsOfFile, method_declared, static_agrees, all_names}
use Rattle.typing_law.proofs.FileChosen.{chosen_agrees, get_message_agrees}
use Rattle.typing_law.proofs.FileMessages.{message_is}

module _ (tree : FileTree) (constants : List (ℕ × Option Scalar)) (none : of_members (declaration_faults (env_with (table_of tree) tree [])) 18 tree.classes ≡ [])
    (is_table : IsTable (table_of tree)) (short : (c : ℕ) (row : ClassRow) → slice_get (table_of tree).classes c ≡ Some row → length row.line ≤ length (table_of tree).classes) (clear : Clear (Breaks tree)) where
  pub methods_agree : (c : ℕ) (x : List ℕ) (arity : ℕ) (m : MethodSymbol) → method_of (env_with (table_of tree) tree constants) c x arity ≡ Some m → AgreesOnMethod (program_with (table_of tree) tree constants) c arity m
  methods_agree c x arity m is = ⊎_elim of_message of_file (method_declared tree constants none c x arity m is)
    where
      of_message : IsGetMessage tree constants none c arity m → AgreesOnMethod (program_with (table_of tree) tree constants) c arity m
      of_message get = record {
        same_arity = ap length get.params ∙ sym get.no_arity;
        params = ap (list_all (is_value (program_with (table_of tree) tree constants))) get.params;
        answer = ap (λ t. is_value (program_with (table_of tree) tree constants) t || is_void t) get.answer
            ∙ or_left (is_value (program_with (table_of tree) tree constants) ty.Text) (is_void ty.Text) (is_value_type-Text (length (program_with (table_of tree) tree constants).classes));
        static = λ static. absurd (false≢true (sym get.instance ∙ static));
        chosen = λ instance arguments fit. get_message_agrees tree constants none is_table short c arity m get arguments fit;
      }

      of_file : IsOfFile tree constants none c (record { name = x; arity = arity }) m → AgreesOnMethod (program_with (table_of tree) tree constants) c arity m
      of_file it =
          let p = program_with (table_of tree) tree constants in
          let y = it.found.row in
          let params_is = ap (λ s. s.params) it.found.is_symbol in
          let answer_is = ap (λ s. s.answer) it.found.is_symbol in
          record {
            same_arity = ap length params_is ∙ length-map y.params (declared_type (all_names tree constants none)) ∙ sym (eqb-true arity (length y.params) (second_so (same_name x y.name) (nat_eq arity (length y.params)) it.found.same));
            params = subst (λ ts. IsTrue (list_all (is_value p) ts)) (sym params_is) it.program.values.0;
            answer = subst (λ t. IsTrue (is_value p t || is_void t)) (sym answer_is) it.program.values.1;
            static = λ static. static_agrees tree constants none c (record { name = x; arity = arity }) m it static;
            chosen = λ instance arguments fit. chosen_agrees tree constants none is_table short c x arity m it is instance (message_is tree constants none is_table short clear c (record { name = x; arity = arity }) m it instance) arguments fit;
          }

-- all that is called is as the program has it
pub calls_agree : (tree : FileTree) (constants : List (ℕ × Option Scalar)) → IsTable (table_of tree) → Clear (Breaks tree) → of_members (declaration_faults (env_with (table_of tree) tree [])) 18 tree.classes ≡ [] →
    AgreesOnCalls (env_with (table_of tree) tree constants) (program_with (table_of tree) tree constants)
calls_agree tree constants is_table clear none =
    let declared = declared_of tree.classes in
    let short = λ (c : ℕ) (row : ClassRow) (is : slice_get (table_of tree).classes c ≡ Some row). subst (λ n. length row.line ≤ n) (sym (length_rows declared 0 declared)) (line_short declared c row is) in
    record {
      below = same_below (table_of tree) tree constants is_table short;
      superclass = same_superclass (table_of tree) tree constants;
      class = class_within (table_of tree) tree constants;
      method = methods_agree tree constants none is_table short clear;
      super = super_agrees tree constants none is_table short;
      maker = makers_agree tree constants none;
    }
