-- A program that is given has the type that its rules give it.
use Rattle.std.proofs.Common.{◌≡◌, sym, subst, [], Result, Ok, Err, IfOk, OnOk}
use Rattle.core_tree.specs.declared.program.Program.{Program}
use Rattle.core_tree.specs.WellTyped.{IsWellTyped}
use Rattle.java_syntax.specs.declared.class.FileTree.{FileTree}
use Rattle.token_reading.specs.declared.fault.CheckError.{CheckError}
use Rattle.class_table.specs.declared.row.ClassTable.{ClassTable}
use Rattle.class_table.specs.Table.{table_of}
use Rattle.class_table.specs.TableFacts.{IsTable}
use Rattle.java_members.specs.Files.{faults_of, program_of}

module _ (tree : FileTree) (law : IsTable (table_of tree) → faults_of (table_of tree) tree ≡ [] → IsWellTyped (program_of (table_of tree) tree)) where
  pub typed_of : (table : ClassTable) → table ≡ table_of tree → IsTable table → (r : Result Program CheckError)
      → IfOk r (λ p. p ≡ program_of table tree) → OnOk r (faults_of table tree ≡ []) → IfOk r IsWellTyped
  typed_of table is facts (Ok p) given clear =
      subst IsWellTyped (sym given)
      (subst (λ t. IsWellTyped (program_of t tree)) (sym is)
      (law (subst IsTable is facts) (subst (λ t. faults_of t tree ≡ []) is clear)))
  typed_of table is facts (Err e) given clear = search
