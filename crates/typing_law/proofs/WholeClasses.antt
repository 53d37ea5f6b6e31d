-- The classes of a file in its program: their number, their superclasses and their lines.
use Rattle.std.proofs.Common.{◌≡◌, ◌∙◌, inl, inr, ℕ, suc, ◌+◌, ◌-◌, ◌<◌, ◌≤◌, Bool, true, false, not, ◌||◌, ◌==◌, IsTrue, List, [], length, Option, Some, None, is_some, option_map, slice_get, refl, subst, sym, ap, arith}
use Rattle.std.specs.Prelude.{is_none, option_and_then}
use Rattle.std.specs.List.{list_any}
use Rattle.std.specs.Option.{option_map_or}
use Rattle.std.proofs.lemmas.Option.{slice_get_within}
use Rattle.std.proofs.lemmas.Bool.{false≢true, lt-ltb, ltb-true, ltb-false, or_left, and_from, eq-eqb}
use Rattle.std.proofs.lemmas.List.{length-map}
use Rattle.core_tree.specs.declared.program.Class.{Class}
use Rattle.core_tree.specs.BuiltIn.{is_built_in}
use Rattle.core_tree.specs.Types.{line_of}
use Rattle.core_tree.specs.WellTyped.{each_numbered}
use Rattle.token_reading.specs.declared.name.Ident.{Ident}
use Rattle.java_syntax.specs.declared.class.ClassTree.{ClassTree}
use Rattle.java_syntax.specs.declared.class.FileTree.{FileTree}
use Rattle.class_table.specs.declared.declaration.Declaration.{Declaration}
use Rattle.class_table.specs.declared.row.ClassRow.{ClassRow}
use Rattle.class_table.specs.declared.row.ClassTable.{ClassTable}
use Rattle.class_table.specs.BuiltIn.{built_in}
use Rattle.class_table.specs.Declarations.{declaration, declarations, declared_of, parent_number}
use Rattle.class_table.specs.Faults.{Clear}
use Rattle.class_table.specs.Names.{Name, class_names, number_of, same_name, library_names}
use Rattle.class_table.specs.Rules.{Breaks, UnknownSuperclass}
use Rattle.class_table.specs.Table.{row_of, table_of}
use Rattle.class_table.specs.TableFacts.{IsTable, line_above}
use Rattle.java_names.specs.Lookups.{is_below}
use Rattle.primitive_operators.specs.declared.scalar.Scalar.{Scalar}
use Rattle.java_members.specs.Declarations.{declaration_faults}
use Rattle.java_members.specs.Files.{of_members, core_class}
use Rattle.typing_law.specs.Agrees.{IsOfFile}
use Rattle.typing_law.proofs.Numbered.{not_built_in}
use Rattle.typing_law.proofs.Tables.{row_at, env_with, program_with, length_core, class_core_at, same_superclass, same_below}
use Rattle.typing_law.proofs.FileClasses.{tree_at, behind}
use Rattle.typing_law.proofs.FileMakers.{found_by}
use Rattle.typing_law.proofs.FileMethods.{symbols}
use Rattle.typing_law.proofs.FileLines.{line_is}
use Rattle.typing_law.proofs.WholeLists.{get_front, numbered_at}

-- ---- the declarations

-- the declaration of a class of the file
pub declared_behind : (ks : List ClassTree) (j : ℕ) → slice_get (declared_of ks) (18 + j) ≡ option_map (declaration (class_names ks) (18 + j)) (slice_get ks j)
declared_behind ks j =
    let shape : 18 + j ≡ suc (suc (suc (suc (suc (suc (suc (suc (suc (suc (suc (suc (suc (suc (suc (suc (suc (suc j))))))))))))))))) = omega arith in
    ap (slice_get (declared_of ks)) shape ∙ behind ks j

-- the declaration of a built-in class
pub declared_front : (ks : List ClassTree) (c : ℕ) → c < 18 → slice_get (declared_of ks) c ≡ slice_get built_in c
unfolding declared_of built_in
declared_front ks c below = get_front built_in (declarations (class_names ks) 18 ks) c below

-- every built-in class but Object has a superclass
abbrev has_parent : ℕ → Option ℕ → Bool
has_parent c parent = is_some parent || c == 0

built_parents : IsTrue (each_numbered (λ c d. has_parent c d.parent) 0 built_in)
unfolding built_in
built_parents = refl

pub built_parent : (ks : List ClassTree) (c : ℕ) (d : Declaration) → c < 18 → slice_get (declared_of ks) c ≡ Some d → IsTrue (has_parent c d.parent)
built_parent ks c d below is =
    let start : 0 + c ≡ c = omega arith in
    subst (λ n. IsTrue (has_parent n d.parent)) start (numbered_at (λ c d. has_parent c d.parent) 0 built_in c d built_parents (sym (declared_front ks c below) ∙ is))

-- ---- superclasses

-- the superclass of a class of the file is known (rule 2)
pub known_parent : (tree : FileTree) → Clear (Breaks tree) → (j : ℕ) (k : ClassTree) → slice_get tree.classes j ≡ Some k → (b : ℕ) × (parent_number (class_names tree.classes) k.parent ≡ Some b)
known_parent tree clear j k is = cases k.parent refl
  where
    names : List Name
    names = class_names tree.classes

    cases : (parent : Option Ident) → k.parent ≡ parent → (b : ℕ) × (parent_number (class_names tree.classes) parent ≡ Some b)
    cases None is_parent = (0, refl)
    cases (Some q) is_parent = of_number (number_of (class_names tree.classes) q.name) refl
      where
        of_number : (number : Option ℕ) → number_of (class_names tree.classes) q.name ≡ number → (b : ℕ) × (number ≡ Some b)
        of_number (Some b) is_number = (b, refl)
        of_number None is_number = absurd (clear.none (record { rule = 2; at = q.at }) (inr (inl (record {
          rule_is = refl;
          holds = record {
            number = j;
            element = k;
            found = is;
            holds = subst (λ parent. UnknownSuperclass (class_names tree.classes) parent q.at) (sym is_parent)
                (or_left (is_none (number_of (class_names tree.classes) q.name)) (list_any (same_name q.name) library_names) (ap is_none is_number), refl);
          };
        }))))

module _ (tree : FileTree) (constants : List (ℕ × Option Scalar)) where
  abbrev table : ClassTable
  table = table_of tree

  -- ---- how many classes there are

  pub few_classes : IsTable (table_of tree) → length (program_with table tree constants).classes ≤ 1018
  few_classes is_table =
      let classes = length_core (env_with table tree constants) tree 0 table.classes in
      let names = ap length is_table.names_are ∙ length-map table.classes (λ row. row.name) in
      let few = is_table.few in
      omega arith

  -- ---- a class of the program, by its row

  -- a class of the file has a row
  pub row_behind : (j : ℕ) (k : ClassTree) → slice_get tree.classes j ≡ Some k → slice_get table.classes (18 + j) ≡ Some (row_of (declared_of tree.classes) (18 + j) (declaration (class_names tree.classes) (18 + j) k))
  row_behind j k is =
      let declared = declared_of tree.classes in
      let from : 0 + (18 + j) ≡ 18 + j = omega arith in
      row_at declared 0 declared (18 + j) ∙ ap (option_map (row_of declared (0 + (18 + j)))) (declared_behind tree.classes j ∙ ap (option_map (declaration (class_names tree.classes) (18 + j))) is)
      ∙ ap (λ n. Some (row_of declared n (declaration (class_names tree.classes) (18 + j) k))) from

  -- the class of a row
  pub class_there : (c : ℕ) (row : ClassRow) → slice_get table.classes c ≡ Some row → slice_get (program_with table tree constants).classes c ≡ Some (core_class (env_with table tree constants) tree c row)
  class_there c row is =
      let from : 0 + c ≡ c = omega arith in
      class_core_at table tree constants c ∙ ap (option_map (core_class (env_with table tree constants) tree (0 + c))) is ∙ ap (λ n. Some (core_class (env_with table tree constants) tree n row)) from

  -- every class of the program has a row
  pub row_there : (c : ℕ) (class : Class) → slice_get (program_with table tree constants).classes c ≡ Some class → (row : ClassRow) × (slice_get table.classes c ≡ Some row) × (class ≡ core_class (env_with table tree constants) tree c row)
  row_there c class is =
      let from : 0 + c ≡ c = omega arith in
      let row = found_by (core_class (env_with table tree constants) tree (0 + c)) (slice_get table.classes c) class (sym (class_core_at table tree constants c) ∙ is) in
      (row.0, row.1, row.2 ∙ ap (λ n. core_class (env_with table tree constants) tree n row.0) from)

  -- all but Object have a superclass
  pub parent_there : Clear (Breaks tree) → (c : ℕ) (row : ClassRow) → slice_get table.classes c ≡ Some row → IsTrue (is_some row.parent || c == 0)
  parent_there clear c row is = cases (is_built_in c) refl
    where
      cases : (b : Bool) → is_built_in c ≡ b → IsTrue (is_some row.parent || c == 0)
      cases true below =
          let from : 0 + c ≡ c = omega arith in
          let declared = declared_of tree.classes in
          let d = found_by (row_of declared (0 + c)) (slice_get declared c) row (sym (row_at declared 0 declared c) ∙ is) in
          ap (λ r. is_some r.parent || c == 0) d.2 ∙ built_parent tree.classes c d.0 (ltb-true c 18 below) d.1
      cases false other =
          let least = ltb-false c 18 other in
          let at = tree_at tree.classes c row least is in
          let b = known_parent tree clear (c - 18) at.tree at.place in
          ap (λ r. is_some r.parent || c == 0) at.row_is ∙ ap (λ o. is_some o || c == 0) b.1

  -- a class of the file is one of the program
  pub of_file : Clear (Breaks tree) → (j : ℕ) (k : ClassTree) → slice_get tree.classes j ≡ Some k → IsOfFile (env_with table tree constants) (program_with table tree constants) (18 + j)
  of_file clear j k is =
      let p = program_with table tree constants in
      let c = 18 + j in
      let row = row_of (declared_of tree.classes) c (declaration (class_names tree.classes) c k) in
      let is_row = row_behind j k is in
      let class = class_there c row is_row in
      let within : c < length p.classes = slice_get_within p.classes c (core_class (env_with table tree constants) tree c row) class in
      let least : 18 ≤ c = omega arith in
      let b = known_parent tree clear j k is in
      record {
        of_file = and_from (not (is_built_in c)) (is_some (slice_get p.classes c)) (ap not (not_built_in c least)) (ap is_some class);
        within = lt-ltb c (length p.classes) within;
        superclass = (b.0, same_superclass table tree constants c ∙ ap (option_and_then (λ class. class.parent)) class ∙ b.1);
      }

  -- ---- lines

  module _ (none : of_members (declaration_faults (env_with (table_of tree) tree [])) 18 tree.classes ≡ [])
      (is_table : IsTable (table_of tree)) (short : (c : ℕ) (row : ClassRow) → slice_get (table_of tree).classes c ≡ Some row → length row.line ≤ length (table_of tree).classes) where
    -- a class stands on its own line
    own_line : (c : ℕ) (row : ClassRow) → slice_get table.classes c ≡ Some row → IsTrue (is_below (symbols tree constants none) c c)
    own_line c row is =
        ap (list_any (λ a. a == c)) (line_is tree constants none is_table short c row is ∙ (is_table.rows c row is).line)
        ∙ or_left (c == c) (list_any (λ a. a == c) (line_above table.classes row.parent)) (eq-eqb c c refl)

    -- no class is its own ancestor
    pub has_line : (c : ℕ) (row : ClassRow) → slice_get table.classes c ≡ Some row → IsTrue (is_some (line_of (program_with table tree constants).classes c))
    has_line c row is = some_line (line_of (program_with table tree constants).classes c) (sym (same_below table tree constants is_table short c c) ∙ own_line c row is)
      where
        some_line : (line : Option (List ℕ)) → IsTrue (option_map_or (λ line. list_any (λ a. a == c) line) line false) → IsTrue (is_some line)
        some_line None on = absurd (false≢true on)
        some_line (Some line) on = refl
