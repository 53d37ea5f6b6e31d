-- The fields of a file's classes in its program: those of the superclass come first, they are few, and each is well
-- typed.
use Rattle.std.proofs.Common.{◌≡◌, ◌∙◌, ℕ, zero, suc, ◌+◌, ◌≤◌, Bool, true, false, ◌&&◌, ◌==◌, IsTrue, List, [], ◌∷◌, ◌++◌, length, map, take, reverse, Option, Some, None, option_map, slice_get, refl, subst, sym, ap, arith, if◌then◌else◌}
use Rattle.std.specs.Prelude.{filter, nat_le, option_and_then, unwrap_or}
use Rattle.std.specs.List.{flat_map, list_all, list_any}
use Rattle.std.specs.Option.{option_map_or}
use Rattle.std.proofs.Math.Seq.{take-append_seam}
use Rattle.std.proofs.lemmas.Bool.{and_from, le-leb}
use Rattle.std.proofs.lemmas.List.{length-map}
use Rattle.core_tree.specs.declared.program.Field.{Field}
use Rattle.core_tree.specs.declared.program.Program.{Program}
use Rattle.core_tree.specs.BuiltIn.{message_field}
use Rattle.core_tree.specs.Types.{is_subclass}
use Rattle.core_tree.specs.WellTyped.{is_field, is_value, first_fields, inherited_fields}
use Rattle.core_tree.proofs.TypeNodes.{is_value_type-Text}
use Rattle.java_syntax.specs.declared.class.Member.{Member}
use Rattle.java_syntax.specs.declared.class.Member.TheVariants as member
use Rattle.java_syntax.specs.declared.class.ClassTree.{ClassTree}
use Rattle.java_syntax.specs.declared.class.FileTree.{FileTree}
use Rattle.class_table.specs.declared.row.ClassRow.{ClassRow}
use Rattle.class_table.specs.declared.row.ClassTable.{ClassTable}
use Rattle.class_table.specs.Faults.{Clear}
use Rattle.class_table.specs.Members.{is_instance, is_static}
use Rattle.class_table.specs.Rules.{Breaks}
use Rattle.class_table.specs.Table.{table_of}
use Rattle.class_table.specs.TableFacts.{IsTable, line_above}
use Rattle.java_names.specs.Types.{declared_type}
use Rattle.java_exprs.specs.declared.environment.Environment.{Environment}
use Rattle.primitive_operators.specs.declared.scalar.Scalar.{Scalar}
use Rattle.java_exprs.specs.Lookups.{unknown_type}
use Rattle.java_members.specs.Bodies.{core_field, field_faults}
use Rattle.java_members.specs.Declarations.{declaration_faults}
use Rattle.java_members.specs.Files.{of_members, member_faults, core_class, fields_of, own_field, all_own_fields}
use Rattle.typing_law.specs.Agrees.{Agrees, IsOfFile}
use Rattle.typing_law.specs.Starts.{start_fits}
use Rattle.typing_law.proofs.Members.{start_right}
use Rattle.typing_law.proofs.Spelled.{declared_value}
use Rattle.typing_law.proofs.Tables.{env_with, program_with, class_within, same_below}
use Rattle.typing_law.proofs.FileClasses.{none_10, of_class}
use Rattle.typing_law.proofs.FileMethods.{all_names}
use Rattle.typing_law.proofs.FileLines.{line_is}
use Rattle.typing_law.proofs.FileFields.{core_types, row_types, line_types, own_at}
use Rattle.typing_law.proofs.WholeLists.{all_flat, all_line, along_line, map_each, none_of}
use Rattle.typing_law.proofs.WholeClasses.{class_there, row_there, of_file}
use Rattle.typing_law.proofs.FileMembers.{row_fields}

module _ (tree : FileTree) (constants : List (ℕ × Option Scalar)) (none : of_members (declaration_faults (env_with (table_of tree) tree [])) 18 tree.classes ≡ [])
    (is_table : IsTable (table_of tree)) (short : (c : ℕ) (row : ClassRow) → slice_get (table_of tree).classes c ≡ Some row → length row.line ≤ length (table_of tree).classes) where
  abbrev table : ClassTable
  table = table_of tree

  abbrev env : Environment
  env = env_with table tree constants

  abbrev p : Program
  p = program_with table tree constants

  -- the fields that class d declares itself
  abbrev own : ℕ → List Field
  own d = unwrap_or (slice_get (all_own_fields env tree) d) []

  -- the fields of a class stand along the line of its row
  pub fields_along_line : (c : ℕ) (row : ClassRow) → slice_get table.classes c ≡ Some row → fields_of env tree c ≡ flat_map own (reverse row.line)
  fields_along_line c row is = ap (λ line. flat_map own (reverse line)) (line_is tree constants none is_table short c row is)

  -- ---- the fields of the superclass come first

  -- the row of a superclass
  pub row_above : (c b : ℕ) (row : ClassRow) → slice_get table.classes c ≡ Some row → row.parent ≡ Some b → (above : ClassRow) × (slice_get table.classes b ≡ Some above) × (row.line ≡ c ∷ above.line)
  row_above c b row is is_parent =
      let facts = is_table.rows c row is in
      let above = within table.classes b (facts.superclass b is_parent) in
      (above.0, above.1, facts.line ∙ ap (λ q. c ∷ line_above table.classes q) is_parent ∙ ap (λ found. c ∷ option_map_or (λ row. row.line) found []) above.1)
    where
      within : (xs : List ClassRow) (k : ℕ) → suc k ≤ length xs → (x : ClassRow) × (slice_get xs k ≡ Some x)
      within [] k below = absurd (none_below k below)
        where
          none_below : (k : ℕ) → suc k ≤ 0 → ⊥
          none_below k below = omega arith
      within (x ∷ xs) zero below = (x, refl)
      within (x ∷ xs) (suc k) below = within xs k (omega arith)

  -- the fields of a superclass
  abbrev inherited : Option ℕ → List Field
  inherited parent = option_map_or (λ above. above.fields) (option_and_then (λ b. slice_get p.classes b) parent) []

  begins : (c : ℕ) (row : ClassRow) → slice_get table.classes c ≡ Some row → first_fields p (core_class env tree c row) ≡ inherited_fields p (core_class env tree c row)
  begins c row is = cases row.parent refl
    where
      cases : (parent : Option ℕ) → row.parent ≡ parent → take (length (inherited row.parent)) (fields_of env tree c) ≡ inherited row.parent
      cases None is_parent = ap (λ q. take (length (inherited q)) (fields_of env tree c)) is_parent ∙ ap inherited (sym is_parent)
      cases (Some b) is_parent =
          let above = row_above c b row is is_parent in
          let higher = flat_map own (reverse above.0.line) in
          let inherited_is : inherited row.parent ≡ higher =
          ap inherited is_parent ∙ ap (λ found. option_map_or (λ above. above.fields) found []) (class_there tree constants b above.0 above.1) ∙ fields_along_line b above.0 above.1 in
          let fields_are : fields_of env tree c ≡ higher ++ flat_map own (c ∷ []) = fields_along_line c row is ∙ ap (λ line. flat_map own (reverse line)) above.2 ∙ along_line own c above.0.line in
          ap (λ fs. take (length fs) (fields_of env tree c)) inherited_is ∙ ap (take (length higher)) fields_are ∙ take-append_seam higher (flat_map own (c ∷ [])) ∙ sym inherited_is

  pub all_inherited : map (first_fields p) p.classes ≡ map (inherited_fields p) p.classes
  all_inherited = map_each (first_fields p) (inherited_fields p) p.classes (λ c class is.
      let row = row_there tree constants c class is in
      subst (λ k. first_fields p k ≡ inherited_fields p k) (sym row.2) (begins c row.0 row.1))

  -- ---- there are at most 255 (rule 9)

  pub few_fields : (c : ℕ) (row : ClassRow) → slice_get table.classes c ≡ Some row → IsTrue (nat_le (length (fields_of env tree c)) 255)
  few_fields c row is =
      let names = all_names tree constants none in
      let fields = fields_of env tree c in
      let types : core_types fields ≡ row_types names row.fields =
      ap core_types (fields_along_line c row is) ∙ line_types env tree row.line ∙ ap (row_types names) (sym (row_fields tree constants none c row is)) in
      let same : length fields ≡ length (filter is_instance row.fields) = sym (length-map fields (λ f. f.ty)) ∙ ap length types ∙ length-map (filter is_instance row.fields) (λ f. declared_type names f.ty) in
      let few = (is_table.rows c row is).few in
      le-leb (length fields) 255 (omega arith)

  -- ---- each is well typed

  module _ (clear : Clear (Breaks tree)) (agrees : Agrees (env_with (table_of tree) tree constants) (program_with (table_of tree) tree constants))
      (bodies : of_members (member_faults (env_with (table_of tree) tree constants)) 18 tree.classes ≡ []) where
    -- an instance field that class d declares, in a class c below it
    own_typed : (c d : ℕ) (m : Member) → IsTrue (is_subclass p.classes c d) → IsOfFile env p d → declaration_faults (env_with table tree []) d m ≡ [] → member_faults env d m ≡ [] → IsTrue (list_all (is_field p c) (own_field env d m))
    own_typed c d (member.Field f) below file declared body = cases (is_static f.mods) body
      where
        first : Environment
        first = env_with table tree []

        known : unknown_type (env_with table tree []) f.ty ≡ []
        known = none_10 (env_with table tree []) p (class_within table tree constants) d (member.Field f) declared

        cases : (b : Bool) → (if b then [] else field_faults env d f) ≡ [] → IsTrue (list_all (is_field p c) (if b then [] else core_field env d f ∷ []))
        cases true body = refl
        cases false body =
            let it = core_field env d f in
            and_from (is_field p c it) true
            (and_from (is_value p it.ty) (is_subclass p.classes c d && start_fits p it) (declared_value (env_with table tree []) p (class_within table tree constants) f.ty known)
            (and_from (is_subclass p.classes c d) (start_fits p it) below (start_right env p agrees d f file known body)))
            refl
    own_typed c d _ below file declared body = refl

    message_typed : (c : ℕ) → IsTrue (is_subclass p.classes c 1) → IsTrue (list_all (is_field p c) (message_field ∷ []))
    message_typed c below =
        and_from (is_field p c message_field) true
        (and_from (is_value p message_field.ty) (is_subclass p.classes c 1 && true) (is_value_type-Text (length p.classes)) (and_from (is_subclass p.classes c 1) true below refl))
        refl

    of_tree : (c j : ℕ) (found : Option ClassTree) → slice_get tree.classes j ≡ found → IsTrue (is_subclass p.classes c (18 + j)) → IsTrue (list_all (is_field p c) (unwrap_or (option_map (λ k. flat_map (own_field env (18 + j)) k.members) found) []))
    of_tree c j None is below = refl
    of_tree c j (Some k) is below = all_flat (is_field p c) (own_field env (18 + j)) k.members (λ i m is_m.
        own_typed c (18 + j) m below (of_file tree constants clear j k is)
        (none_of (declaration_faults (env_with table tree []) (18 + j)) k.members i m (of_class (declaration_faults (env_with table tree [])) 18 tree.classes j k none is) is_m)
        (none_of (member_faults env (18 + j)) k.members i m (of_class (member_faults env) 18 tree.classes j k bodies is) is_m))

    -- what class d declares, in a class c below it
    all_own : (c d : ℕ) → IsTrue (is_subclass p.classes c d) → IsTrue (list_all (is_field p c) (own d))
    all_own c (suc zero) below = message_typed c below
    all_own c (suc (suc (suc (suc (suc (suc (suc (suc (suc (suc (suc (suc (suc (suc (suc (suc (suc (suc j)))))))))))))))))) below =
        let place : suc (suc (suc (suc (suc (suc (suc (suc (suc (suc (suc (suc (suc (suc (suc (suc (suc (suc j))))))))))))))))) ≡ 18 + j = omega arith in
        ap (λ found. list_all (is_field p c) (unwrap_or found [])) (own_at env 18 tree.classes j)
        ∙ of_tree c j (slice_get tree.classes j) refl (subst (λ d. IsTrue (is_subclass p.classes c d)) place below)
    all_own c _ below = refl

    pub fields_typed : (c : ℕ) (row : ClassRow) → slice_get table.classes c ≡ Some row → IsTrue (list_all (is_field p c) (fields_of env tree c))
    fields_typed c row is =
        ap (list_all (is_field p c)) (fields_along_line c row is)
        ∙ all_line (is_field p c) own row.line (λ d on.
        all_own c d (sym (same_below table tree constants is_table short c d) ∙ ap (list_any (λ a. a == d)) (line_is tree constants none is_table short c row is) ∙ on))
