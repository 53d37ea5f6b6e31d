-- The fields that a file's symbols name are those of its program.
use Rattle.std.proofs.Common.{◌≡◌, ◌∙◌, ℕ, zero, suc, ◌+◌, ◌≤◌, true, ◌==◌, IsTrue, List, [], ◌∷◌, ◌++◌, length, map, reverse, Option, Some, None, option_map, is_some, slice_get, refl, subst, sym, ap, arith}
use Rattle.std.specs.Prelude.{option_and_then, position, filter, unwrap_or}
use Rattle.std.specs.List.{flat_map}
use Rattle.std.specs.Option.{option_map_or}
use Rattle.std.proofs.lemmas.Option.{none-some, same_Some, option_and_then_some, slice_get-map}
use Rattle.std.proofs.lemmas.Bool.{false≢true}
use Rattle.core_tree.specs.Typing.{field_type}
use Rattle.core_tree.specs.WellTyped.{is_value}
use Rattle.core_tree.proofs.TypeNodes.{is_value_type-Text}
use Rattle.java_syntax.specs.declared.class.ClassTree.{ClassTree}
use Rattle.java_syntax.specs.declared.class.FieldTree.{FieldTree}
use Rattle.java_syntax.specs.declared.class.FileTree.{FileTree}
use Rattle.java_syntax.specs.declared.class.Member.{Member}
use Rattle.java_syntax.specs.declared.class.Member.TheVariants as member
use Rattle.token_reading.specs.declared.name.TypeTree.{TypeTree}
use Rattle.class_table.specs.declared.row.ClassRow.{ClassRow}
use Rattle.class_table.specs.declared.row.ClassTable.{ClassTable}
use Rattle.class_table.specs.declared.row.FieldRow.{FieldRow}
use Rattle.class_table.specs.BuiltIn.{built_in, message_field}
use Rattle.class_table.specs.Ancestors.{superclasses}
use Rattle.class_table.specs.Declarations.{declaration, declared_of}
use Rattle.class_table.specs.Fields.{fields_along, fields_at, instance_total, placed_at}
use Rattle.class_table.specs.Members.{field_row, fields_in, is_instance, is_static}
use Rattle.class_table.specs.Names.{Name, class_names, same_name}
use Rattle.class_table.specs.Table.{row_of, table_of}
use Rattle.class_table.specs.TableFacts.{IsTable, fields_above}
use Rattle.java_names.specs.declared.symbol.FieldSymbol.{FieldSymbol}
use Rattle.java_names.specs.Lookups.{class_at, line_of, is_below, field_in, field_at}
use Rattle.java_names.specs.Numbers.{first_numbers}
use Rattle.java_names.specs.Symbols.{class_symbol, field_symbol, own_fields}
use Rattle.java_names.specs.Types.{declared_type}
use Rattle.primitive_operators.specs.declared.scalar.Scalar.{Scalar}
use Rattle.java_exprs.specs.Lookups.{member_of, unknown_type}
use Rattle.java_members.specs.Declarations.{declaration_faults}
use Rattle.java_members.specs.Files.{of_members, core_class, fields_of, all_own_fields}
use Rattle.typing_law.proofs.NoFaults.{empty_parts}
use Rattle.typing_law.proofs.Scopes.{get_before}
use Rattle.typing_law.proofs.Spelled.{declared_value}
use Rattle.typing_law.proofs.Tables.{row_at, numbers_at, env_with, program_with, class_symbol_at, class_core_at, class_within}
use Rattle.typing_law.proofs.FileClasses.{declaration_at, of_class, none_10}
use Rattle.typing_law.proofs.FileMakers.{found_by}
use Rattle.typing_law.proofs.FileMethods.{nearest_in, all_names, all_selectors, symbols}
use Rattle.typing_law.proofs.FileChosen.{row_of_below}
use Rattle.typing_law.proofs.FileFields.{core_types, row_types, line_types}
use Rattle.typing_law.proofs.FileLines.{on, line_cases, line_is}
use Rattle.typing_law.proofs.FieldRows.{Each, each_flat, filtered, each_numbered, instance_at}
use Rattle.std.proofs.lemmas.List.Elements.{filter-append}
use Rattle.typing_law.proofs.Found.{not_false}
use Rattle.std.proofs.Math.Nat.{le_refl}

-- a constant of the file, by the token of its name and its type
pub record IsConstant (ks : List ClassTree) (at : ℕ) (spelled : TypeTree) : Type 0 where
  pub class : ℕ
  pub tree : ClassTree
  pub is_class : slice_get ks class ≡ Some tree
  pub number : ℕ
  pub field : FieldTree
  pub is_field : slice_get tree.members number ≡ Some (member.Field field)
  pub static : is_static field.mods ≡ true
  pub token : field.name.at ≡ at
  pub type : field.ty ≡ spelled

some_place : (place : Option ℕ) (n : ℕ) → place ≡ Some n → is_some place ≡ true
some_place place n is = ap is_some is

module _ (tree : FileTree) (constants : List (ℕ × Option Scalar)) (none : of_members (declaration_faults (env_with (table_of tree) tree [])) 18 tree.classes ≡ []) where
  abbrev table : ClassTable
  table = table_of tree

  names : List Name
  names = all_names tree constants none

  -- the type of a field is one of variables
  abbrev pub HasValue : FieldRow → Type 0
  HasValue f = IsTrue (is_value (program_with table tree constants) (declared_type (all_names tree constants none) f.ty))

  -- what is known of a field that a class declares
  pub record IsDeclared (f : FieldRow) : Type 0 where
    pub value : HasValue f
    pub constant : is_static f.mods ≡ true → IsConstant tree.classes f.at f.ty

  -- the type of this spelling is that of a declaration by this token
  abbrev pub Stands : ℕ → TypeTree → Type 0
  Stands at spelled = (c : ℕ) × (i : ℕ) × (f : FieldRow) × (slice_get (fields_at (declared_of tree.classes) c) i ≡ Some f) × (f.at ≡ at) × (f.ty ≡ spelled)

  -- the same with its place
  pub record IsPlaced (f : FieldRow) : Type 0 where
    pub value : HasValue f
    pub stands : Stands f.at f.ty
    pub instance : is_instance f ≡ is_some f.place
    pub constant : f.place ≡ None → IsConstant tree.classes f.at f.ty

  -- ---- the fields that each class declares itself

  abbrev Within : ClassTree → Type 0
  Within k = (j : ℕ) × (slice_get tree.classes j ≡ Some k)

  shift : (n : ℕ) (k : ClassTree) (m : Member) (more : List Member) → ((i : ℕ) (x : Member) → slice_get (m ∷ more) i ≡ Some x → slice_get k.members (n + i) ≡ Some x) → (i : ℕ) (x : Member) → slice_get more i ≡ Some x → slice_get k.members (suc n + i) ≡ Some x
  shift n k m more here i x is = let e : suc n + i ≡ n + suc i = omega arith in ap (slice_get k.members) e ∙ here (suc i) x is

  fields_known : (c : ℕ) (k : ClassTree) → Within k → (n : ℕ) (members : List Member) → ((i : ℕ) (m : Member) → slice_get members i ≡ Some m → slice_get k.members (n + i) ≡ Some m) → flat_map (declaration_faults (env_with table tree []) c) members ≡ [] →
      (i : ℕ) (f : FieldRow) → slice_get (fields_in c members) i ≡ Some f → IsDeclared f
  fields_known c k within n [] here clear i f is = absurd (none-some f is)
  fields_known c k within n (member.Field t ∷ more) here clear (suc i) f is = fields_known c k within (suc n) more (shift n k (member.Field t) more here) (empty_parts (declaration_faults (env_with table tree []) c (member.Field t)) (flat_map (declaration_faults (env_with table tree []) c) more) clear).1 i f is
  fields_known c k within n (member.Field t ∷ more) here clear zero f is =
      let parts = empty_parts (declaration_faults (env_with table tree []) c (member.Field t)) (flat_map (declaration_faults (env_with table tree []) c) more) clear in
      let known : unknown_type (env_with table tree []) t.ty ≡ [] = none_10 (env_with table tree []) (program_with table tree constants) (class_within table tree constants) c (member.Field t) parts.0 in
      subst IsDeclared (same_Some (field_row c t) f is) (record {
        value = declared_value (env_with table tree []) (program_with table tree constants) (class_within table tree constants) t.ty known;
        constant = λ static. record { class = within.0; tree = k; is_class = within.1; number = n + 0; field = t; is_field = here 0 (member.Field t) refl; static = static; token = refl; type = refl };
      })
  fields_known c k within n (x ∷ more) here clear i f is = fields_known c k within (suc n) more (shift n k x more here) (empty_parts (declaration_faults (env_with table tree []) c x) (flat_map (declaration_faults (env_with table tree []) c) more) clear).1 i f is

  of_tree : (j : ℕ) (found : Option ClassTree) → slice_get tree.classes j ≡ found → Each IsDeclared (option_map_or (λ d. d.fields) (option_map (declaration (class_names tree.classes) (18 + j)) found) [])
  of_tree j None is_tree i f is = absurd (none-some f is)
  of_tree j (Some k) is_tree i f is =
      let start : (i : ℕ) → 0 + i ≡ i = λ i. omega arith in
      fields_known (18 + j) k (j, is_tree) 0 k.members (λ i m at. ap (slice_get k.members) (start i) ∙ at) (of_class (declaration_faults (env_with table tree [])) 18 tree.classes j k none is_tree) i f is

  nothing : Each IsDeclared []
  nothing i f is = absurd (none-some f is)

  message : Each IsDeclared (message_field ∷ [])
  message zero f is = subst IsDeclared (same_Some message_field f is) (record { value = is_value_type-Text (length (program_with table tree constants).classes); constant = λ static. absurd (false≢true static) })
  message (suc i) f is = absurd (none-some f is)

  own_known : (d : ℕ) → Each IsDeclared (fields_at (declared_of tree.classes) d)
  unfolding declared_of built_in
  own_known (suc zero) = message
  own_known (suc (suc (suc (suc (suc (suc (suc (suc (suc (suc (suc (suc (suc (suc (suc (suc (suc (suc j)))))))))))))))))) =
      subst (λ found. Each IsDeclared (option_map_or (λ d. d.fields) found [])) (sym (declaration_at (class_names tree.classes) 18 tree.classes j)) (of_tree j (slice_get tree.classes j) refl)
  own_known _ = nothing

  placed_known : (d : ℕ) → Each IsPlaced (placed_at (declared_of tree.classes) d)
  placed_known d = each_numbered IsPlaced (λ f. IsDeclared f × Stands f.at f.ty)
      (λ f known n instance. record { value = known.0.value; stands = known.1; instance = instance; constant = λ is_none. absurd (none-some n (sym is_none)) })
      (λ f known other. record { value = known.0.value; stands = known.1; instance = other; constant = λ is_none. known.0.constant (not_false (is_static f.mods) other) })
      (instance_total (declared_of tree.classes) (superclasses (declared_of tree.classes) d)) (fields_at (declared_of tree.classes) d) (λ i f is. (own_known d i f is, (d, i, f, is, refl, refl)))

  -- ---- the fields of a row

  pub row_fields : (c : ℕ) (row : ClassRow) → slice_get table.classes c ≡ Some row → row.fields ≡ fields_along (declared_of tree.classes) row.line
  row_fields c row is =
      let declared = declared_of tree.classes in
      let found = found_by (row_of declared (0 + c)) (slice_get declared c) row (sym (row_at declared 0 declared c) ∙ is) in
      ap (λ r. r.fields) found.2 ∙ sym (ap (λ r. fields_along declared r.line) found.2)

  pub row_known : (c : ℕ) (row : ClassRow) → slice_get table.classes c ≡ Some row → Each IsPlaced row.fields
  row_known c row is = subst (Each IsPlaced) (sym (row_fields c row is)) (each_flat IsPlaced (placed_at (declared_of tree.classes)) placed_known (reverse row.line))

  -- ---- what is looked up

  -- a field of the nearest class that declares it
  pub record FieldFound (c : ℕ) (m : FieldSymbol) : Type 0 where
    pub row : FieldRow
    pub is_symbol : m ≡ field_symbol (all_names tree constants none) row
    pub class : ℕ
    pub below : IsTrue (is_below (symbols tree constants none) c class)
    pub there : ClassRow
    pub is_there : slice_get table.classes class ≡ Some there
    pub number : ℕ
    pub is_row : slice_get there.fields number ≡ Some row
    pub known : IsPlaced row

  pub field_found : (c : ℕ) (x : Name) (m : FieldSymbol) → member_of (env_with table tree constants) c x ≡ Some m → FieldFound c m
  field_found c x m is =
      let near = nearest_in (field_at (symbols tree constants none) x) (line_of (symbols tree constants none) c) m is in
      let d = near.0 in
      let symbol = class_symbol (all_names tree constants none) (all_selectors tree constants none) (0 + d) (numbers_at 0 (first_numbers table.classes) table.classes d) in
      option_and_then_some (λ class. field_in class x) (class_at (symbols tree constants none) d) m near.2 (λ class is_class is_m.
      let row = found_by symbol (slice_get table.classes d) class (sym (class_symbol_at table tree constants d) ∙ is_class) in
      let own = own_fields (0 + d) row.0.fields in
      let looked : field_in (symbol row.0) x ≡ Some m = ap (λ k. field_in k x) (sym row.2) ∙ is_m in
      option_and_then_some (λ n. slice_get (map (field_symbol (all_names tree constants none)) own) n) (position (same_name x) (map (λ f. f.name) own)) m looked (λ n is_n is_f.
      let f = found_by (field_symbol (all_names tree constants none)) (slice_get own n) m (sym (slice_get-map (field_symbol (all_names tree constants none)) own n) ∙ is_f) in
      let at = filtered (λ f. f.owner == (0 + d)) row.0.fields n f.0 f.1 in
      record {
        row = f.0;
        is_symbol = f.2;
        class = d;
        below = near.1;
        there = row.0;
        is_there = row.1;
        number = at.0;
        is_row = at.1;
        known = row_known d row.0 row.1 at.0 f.0 at.1;
      }))

  module _ (is_table : IsTable (table_of tree)) (short : (c : ℕ) (row : ClassRow) → slice_get (table_of tree).classes c ≡ Some row → length row.line ≤ length (table_of tree).classes) where
    -- a field of a class is at the same place of those below it
    inherited : (n c : ℕ) (row : ClassRow) (d : ℕ) (there : ClassRow) (place : ℕ) (f : FieldRow) → length row.line ≤ n → slice_get table.classes c ≡ Some row → on tree constants none is_table short d row.line → slice_get table.classes d ≡ Some there →
        slice_get (filter is_instance there.fields) place ≡ Some f → slice_get (filter is_instance row.fields) place ≡ Some f
    inherited zero c row d there place f shorter is on_line is_there at = absurd (no_line row.line shorter on_line)
      where
        no_line : (line : List ℕ) → length line ≤ 0 → on tree constants none is_table short d line → ⊥
        no_line [] shorter any = false≢true any
        no_line (a ∷ line) shorter any = absurd (omega arith)
    inherited (suc n) c row d there place f shorter is on_line is_there at =
        line_cases tree constants none is_table short c row d {Q = slice_get (filter is_instance row.fields) place ≡ Some f} is on_line
        (λ same. subst (λ r. slice_get (filter is_instance r.fields) place ≡ Some f) (same_Some there row (sym is_there ∙ ap (slice_get table.classes) (sym same) ∙ is)) at)
        (λ q above is_q is_parent line on_above.
        let lengths = ap length line in
        let facts = is_table.rows c row is in
        let front = inherited n q above d there place f (omega arith) is_q on_above is_there at in
        ap (λ fs. slice_get (filter is_instance fs) place) (facts.fields ∙ ap (λ o. fields_above table.classes o ++ facts.own) is_parent ∙ ap (λ r. option_map_or (λ row. row.fields) r [] ++ facts.own) is_q)
        ∙ ap (λ xs. slice_get xs place) (filter-append is_instance above.fields facts.own)
        ∙ get_before (filter is_instance above.fields) (filter is_instance facts.own) place f front)

    -- what stands at a place of a row has its type at that place of the program's class
    pub same_place : (c : ℕ) (row : ClassRow) (place : ℕ) (f : FieldRow) → slice_get table.classes c ≡ Some row → slice_get (filter is_instance row.fields) place ≡ Some f → field_type (program_with table tree constants) c place ≡ Some (declared_type (all_names tree constants none) f.ty)
    same_place c row place f is at =
        let env = env_with table tree constants in
        let from : 0 + c ≡ c = omega arith in
        let along : fields_of env tree (0 + c) ≡ flat_map (λ d. unwrap_or (slice_get (all_own_fields env tree) d) []) (reverse row.line) =
        ap (λ line. flat_map (λ d. unwrap_or (slice_get (all_own_fields env tree) d) []) (reverse line)) (ap (line_of (symbols tree constants none)) from ∙ line_is tree constants none is_table short c row is) in
        let types : core_types (fields_of env tree (0 + c)) ≡ row_types (all_names tree constants none) row.fields =
        ap core_types along ∙ line_types env tree row.line ∙ ap (row_types (all_names tree constants none)) (sym (row_fields c row is)) in
        ap (option_and_then (λ class. option_map (λ field. field.ty) (slice_get class.fields place))) (class_core_at table tree constants c ∙ ap (option_map (core_class env tree (0 + c))) is)
        ∙ sym (slice_get-map (λ field. field.ty) (fields_of env tree (0 + c)) place)
        ∙ ap (λ ts. slice_get ts place) types
        ∙ slice_get-map (λ f. declared_type (all_names tree constants none) f.ty) (filter is_instance row.fields) place
        ∙ ap (option_map (λ f. declared_type (all_names tree constants none) f.ty)) at

    -- an instance field is that field of the program's class
    pub field_placed : (c : ℕ) (m : FieldSymbol) → FieldFound c m → (place : ℕ) → m.place ≡ Some place → field_type (program_with table tree constants) c place ≡ Some m.ty
    field_placed c m found place is_place =
        let row = row_of_below tree constants none is_table short c found.class found.below in
        let place_is : found.row.place ≡ Some place = sym (ap (λ s. s.place) found.is_symbol) ∙ is_place in
        let instance : is_instance found.row ≡ true = found.known.instance ∙ some_place found.row.place place place_is in
        let here = instance_at found.there.fields found.number place found.row (is_table.rows found.class found.there found.is_there).placed found.is_row instance place_is in
        let on_line = subst (on tree constants none is_table short found.class) (line_is tree constants none is_table short c row.0 row.1) found.below in
        same_place c row.0 place found.row row.1 (inherited (length row.0.line) c row.0 found.class found.there place found.row (le_refl (length row.0.line)) row.1 on_line found.is_there here)
        ∙ ap Some (sym (ap (λ s. s.ty) found.is_symbol))

  pub field_value : (c : ℕ) (m : FieldSymbol) → FieldFound c m → IsTrue (is_value (program_with table tree constants) m.ty)
  field_value c m found = subst (λ t. IsTrue (is_value (program_with table tree constants) t)) (sym (ap (λ s. s.ty) found.is_symbol)) found.known.value
