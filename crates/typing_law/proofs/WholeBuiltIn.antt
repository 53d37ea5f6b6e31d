-- The first classes of a file's program are the built-in ones.
use Rattle.std.proofs.Common.{◌≡◌, ◌∙◌, ℕ, zero, suc, ◌+◌, ◌<◌, ◌≤◌, List, [], ◌∷◌, length, map, take, reverse, Option, Some, slice_get, refl, sym, ap, arith}
use Rattle.std.specs.Prelude.{unwrap_or}
use Rattle.std.specs.List.{flat_map}
use Rattle.core_tree.specs.declared.built_in.BuiltIn.TheVariants as built_in_class
use Rattle.core_tree.specs.declared.program.Field.{Field}
use Rattle.core_tree.specs.BuiltIn.{built_in_classes, message_field}
use Rattle.core_tree.specs.WellTyped.{Row}
use Rattle.core_tree.specs.WellTyped as typed
use Rattle.java_syntax.specs.declared.class.FileTree.{FileTree}
use Rattle.class_table.specs.declared.declaration.Declaration.{Declaration}
use Rattle.class_table.specs.declared.row.ClassRow.{ClassRow}
use Rattle.class_table.specs.declared.row.ClassTable.{ClassTable}
use Rattle.class_table.specs.Ancestors.{climb, line_at}
use Rattle.class_table.specs.BuiltIn.{built_in, declaration_of}
use Rattle.class_table.specs.Declarations.{declared_of}
use Rattle.class_table.specs.Table.{row_of, table_of}
use Rattle.class_table.specs.TableFacts.{IsTable}
use Rattle.java_exprs.specs.declared.environment.Environment.{Environment}
use Rattle.primitive_operators.specs.declared.scalar.Scalar.{Scalar}
use Rattle.java_members.specs.Declarations.{declaration_faults}
use Rattle.java_members.specs.Files.{of_members, core_classes, fields_of, all_own_fields}
use Rattle.typing_law.proofs.Tables.{env_with, program_with}
use Rattle.typing_law.proofs.WholeFields.{fields_along_line}
use Rattle.typing_law.proofs.Found.{too_great}

-- rows with these fields, by the numbers of the classes
rows_with : (ℕ → List Field) → ℕ → List ClassRow → List Row
rows_with fields n [] = []
rows_with fields n (row ∷ rows) = record { name = row.name; parent = row.parent; fields = fields n } ∷ rows_with fields (suc n) rows

core_rows : (env : Environment) (tree : FileTree) (n : ℕ) (rows : List ClassRow) → map typed.row_of (core_classes env tree n rows) ≡ rows_with (fields_of env tree) n rows
unfolding core_classes rows_with
core_rows env tree n [] = refl
core_rows env tree n (row ∷ rows) = ap (λ more. record { name = row.name; parent = row.parent; fields = fields_of env tree n } ∷ more) (core_rows env tree (suc n) rows)

same_rows : (f g : ℕ → List Field) (n : ℕ) (rows : List ClassRow) → ((k : ℕ) → k < length rows → f (n + k) ≡ g (n + k)) → rows_with f n rows ≡ rows_with g n rows
unfolding rows_with
same_rows f g n [] same = refl
same_rows f g n (row ∷ rows) same =
    let here : n ≡ n + 0 = omega arith in
    ap (λ fs. record { name = row.name; parent = row.parent; fields = fs } ∷ rows_with f (suc n) rows) (ap f here ∙ same 0 (omega arith) ∙ ap g (sym here))
    ∙ ap (λ more. record { name = row.name; parent = row.parent; fields = g n } ∷ more) (same_rows f g (suc n) rows (λ k below. let e : suc n + k ≡ n + suc k = omega arith in ap f e ∙ same (suc k) (omega arith) ∙ ap g (sym e)))

-- Object has no field, every other built-in class the message
first_fields : ℕ → List Field
first_fields zero = []
first_fields (suc c) = message_field ∷ []

module _ (tree : FileTree) (constants : List (ℕ × Option Scalar)) (none : of_members (declaration_faults (env_with (table_of tree) tree [])) 18 tree.classes ≡ [])
    (is_table : IsTable (table_of tree)) (short : (c : ℕ) (row : ClassRow) → slice_get (table_of tree).classes c ≡ Some row → length row.line ≤ length (table_of tree).classes) where
  abbrev table : ClassTable
  table = table_of tree

  abbrev env : Environment
  env = env_with table tree constants

  -- the fields that class d declares itself
  abbrev own : ℕ → List Field
  own d = unwrap_or (slice_get (all_own_fields env tree) d) []

  of_row : (c : ℕ) (d : Declaration) → slice_get table.classes c ≡ Some (row_of (declared_of tree.classes) c d) → flat_map own (reverse (line_at (declared_of tree.classes) c)) ≡ first_fields c → fields_of env tree c ≡ first_fields c
  of_row c d is fields = fields_along_line tree constants none is_table short c (row_of (declared_of tree.classes) c d) is ∙ fields

  built_fields : (c : ℕ) → c < 18 → fields_of env tree c ≡ first_fields c
  unfolding declared_of built_in climb first_fields
  built_fields zero below = of_row 0 (declaration_of built_in_class.Object) refl refl
  built_fields (suc zero) below = of_row 1 (declaration_of built_in_class.Throwable) refl refl
  built_fields (suc (suc zero)) below = of_row 2 (declaration_of built_in_class.Exception) refl refl
  built_fields (suc (suc (suc zero))) below = of_row 3 (declaration_of built_in_class.RuntimeException) refl refl
  built_fields (suc (suc (suc (suc zero)))) below = of_row 4 (declaration_of built_in_class.Error) refl refl
  built_fields (suc (suc (suc (suc (suc zero))))) below = of_row 5 (declaration_of built_in_class.ArithmeticException) refl refl
  built_fields (suc (suc (suc (suc (suc (suc zero)))))) below = of_row 6 (declaration_of built_in_class.NullPointerException) refl refl
  built_fields (suc (suc (suc (suc (suc (suc (suc zero))))))) below = of_row 7 (declaration_of built_in_class.NegativeArraySizeException) refl refl
  built_fields (suc (suc (suc (suc (suc (suc (suc (suc zero)))))))) below = of_row 8 (declaration_of built_in_class.FallbackError) refl refl
  built_fields (suc (suc (suc (suc (suc (suc (suc (suc (suc zero))))))))) below = of_row 9 (declaration_of built_in_class.ClassCastException) refl refl
  built_fields (suc (suc (suc (suc (suc (suc (suc (suc (suc (suc zero)))))))))) below = of_row 10 (declaration_of built_in_class.ArrayStoreException) refl refl
  built_fields (suc (suc (suc (suc (suc (suc (suc (suc (suc (suc (suc zero))))))))))) below = of_row 11 (declaration_of built_in_class.IndexOutOfBoundsException) refl refl
  built_fields (suc (suc (suc (suc (suc (suc (suc (suc (suc (suc (suc (suc zero)))))))))))) below = of_row 12 (declaration_of built_in_class.ArrayIndexOutOfBoundsException) refl refl
  built_fields (suc (suc (suc (suc (suc (suc (suc (suc (suc (suc (suc (suc (suc zero))))))))))))) below = of_row 13 (declaration_of built_in_class.IllegalArgumentException) refl refl
  built_fields (suc (suc (suc (suc (suc (suc (suc (suc (suc (suc (suc (suc (suc (suc zero)))))))))))))) below = of_row 14 (declaration_of built_in_class.IllegalStateException) refl refl
  built_fields (suc (suc (suc (suc (suc (suc (suc (suc (suc (suc (suc (suc (suc (suc (suc zero))))))))))))))) below = of_row 15 (declaration_of built_in_class.UnsupportedOperationException) refl refl
  built_fields (suc (suc (suc (suc (suc (suc (suc (suc (suc (suc (suc (suc (suc (suc (suc (suc zero)))))))))))))))) below = of_row 16 (declaration_of built_in_class.StackOverflowError) refl refl
  built_fields (suc (suc (suc (suc (suc (suc (suc (suc (suc (suc (suc (suc (suc (suc (suc (suc (suc zero))))))))))))))))) below = of_row 17 (declaration_of built_in_class.RequiresError) refl refl
  built_fields (suc (suc (suc (suc (suc (suc (suc (suc (suc (suc (suc (suc (suc (suc (suc (suc (suc (suc c)))))))))))))))))) below = too_great c below

  pub first_rows : map typed.row_of (take (length built_in_classes) (program_with table tree constants).classes) ≡ map typed.row_of built_in_classes
  unfolding declared_of built_in core_classes rows_with first_fields
  first_rows =
      core_rows env tree 0 (take 18 table.classes)
      ∙ same_rows (fields_of env tree) first_fields 0 (take 18 table.classes) (λ k below. let start : 0 + k ≡ k = omega arith in ap (fields_of env tree) start ∙ built_fields k below ∙ ap first_fields (sym start))
