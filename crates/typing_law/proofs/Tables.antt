-- The classes of a file's symbols and of its program stand at the places of the table's rows, with the same lines.
use Rattle.std.proofs.Common.{◌≡◌, ◌∙◌, ℕ, zero, suc, ◌+◌, ◌<◌, ◌≤◌, false, ◌==◌, nat_lt, IsTrue, List, [], ◌∷◌, length, Option, Some, None, option_map, slice_get, refl, subst, sym, ap, arith}
use Rattle.std.specs.Prelude.{option_and_then}
use Rattle.std.specs.Option.{option_map_or}
use Rattle.std.specs.List.{list_any}
use Rattle.std.proofs.lemmas.Option.{none-some, same_Some}
use Rattle.std.proofs.lemmas.Bool.{lt-ltb}
use Rattle.std.proofs.lemmas.List.{length-map}
use Rattle.std.proofs.lemmas.List.Quantifiers.{position-Some}
use Rattle.core_tree.specs.declared.program.Program.{Program}
use Rattle.core_tree.specs.Types.{line_within, is_subclass}
use Rattle.core_tree.specs.WellTyped.{superclass}
use Rattle.java_syntax.specs.declared.class.FileTree.{FileTree}
use Rattle.class_table.specs.declared.declaration.Declaration.{Declaration}
use Rattle.class_table.specs.declared.row.ClassRow.{ClassRow}
use Rattle.class_table.specs.declared.row.ClassTable.{ClassTable}
use Rattle.class_table.specs.Names.{Name, same_name}
use Rattle.class_table.specs.Ancestors.{climb, parent_in, parents_of, line_at}
use Rattle.class_table.specs.Ancestors as table_line
use Rattle.class_table.specs.Table.{row_of, rows_from}
use Rattle.class_table.specs.TableFacts.{IsTable, IsRow, line_above}
use Rattle.java_names.specs.declared.numbers.Numbers.{Numbers}
use Rattle.java_names.specs.declared.symbol.Selector.{Selector}
use Rattle.java_names.specs.Lookups.{class_at, is_below}
use Rattle.java_names.specs.Numbers.{numbers_after, first_numbers}
use Rattle.java_names.specs.Selectors.{selectors_of}
use Rattle.java_names.specs.Symbols.{class_symbol, class_symbols, names_of, symbols_of}
use Rattle.java_exprs.specs.declared.environment.Environment.{Environment}
use Rattle.primitive_operators.specs.declared.scalar.Scalar.{Scalar}
use Rattle.java_exprs.specs.Lookups.{superclass_of, class_named}
use Rattle.java_members.specs.Files.{core_class, core_classes, program_in}
use Rattle.typing_law.proofs.Found.{some_within, numbers_shift, numbers_one}

-- ---- places

pub core_at : (env : Environment) (tree : FileTree) (n : ℕ) (rows : List ClassRow) (k : ℕ) → slice_get (core_classes env tree n rows) k ≡ option_map (core_class env tree (n + k)) (slice_get rows k)
unfolding core_classes
core_at env tree n [] k = refl
core_at env tree n (row ∷ rows) zero = let e : n ≡ n + 0 = omega arith in ap (λ m. Some (core_class env tree m row)) e
core_at env tree n (row ∷ rows) (suc k) = core_at env tree (suc n) rows k ∙ ap (λ m. option_map (core_class env tree m) (slice_get rows k)) (numbers_shift n k)

pub length_core : (env : Environment) (tree : FileTree) (n : ℕ) (rows : List ClassRow) → length (core_classes env tree n rows) ≡ length rows
unfolding core_classes
length_core env tree n [] = refl
length_core env tree n (row ∷ rows) = ap suc (length_core env tree (suc n) rows)

-- the numbers of methods and constructors before a class
unfoldable pub numbers_at : ℕ → Numbers → List ClassRow → ℕ → Numbers
numbers_at n numbers rows zero = numbers
numbers_at n numbers [] (suc k) = numbers
numbers_at n numbers (row ∷ rows) (suc k) = numbers_at (n + 1) (numbers_after n numbers row) rows k

pub symbol_at : (all : List Name) (selectors : List Selector) (n : ℕ) (numbers : Numbers) (rows : List ClassRow) (k : ℕ) →
    slice_get (class_symbols all selectors n numbers rows) k ≡ option_map (class_symbol all selectors (n + k) (numbers_at n numbers rows k)) (slice_get rows k)
unfolding numbers_at
symbol_at all selectors n numbers [] k = refl
symbol_at all selectors n numbers (row ∷ rows) zero = let e : n ≡ n + 0 = omega arith in ap (λ m. Some (class_symbol all selectors m numbers row)) e
symbol_at all selectors n numbers (row ∷ rows) (suc k) =
    symbol_at all selectors (n + 1) (numbers_after n numbers row) rows k
    ∙ ap (λ m. option_map (class_symbol all selectors m (numbers_at (n + 1) (numbers_after n numbers row) rows k)) (slice_get rows k)) (numbers_one n k)

pub row_at : (declared : List Declaration) (n : ℕ) (ds : List Declaration) (k : ℕ) → slice_get (rows_from declared n ds) k ≡ option_map (row_of declared (n + k)) (slice_get ds k)
row_at declared n [] k = refl
row_at declared n (d ∷ ds) zero = let e : n ≡ n + 0 = omega arith in ap (λ m. Some (row_of declared m d)) e
row_at declared n (d ∷ ds) (suc k) = row_at declared (n + 1) ds k ∙ ap (λ m. option_map (row_of declared m) (slice_get ds k)) (numbers_one n k)

pub length_rows : (declared : List Declaration) (n : ℕ) (ds : List Declaration) → length (rows_from declared n ds) ≡ length ds
length_rows declared n [] = refl
length_rows declared n (d ∷ ds) = ap suc (length_rows declared (n + 1) ds)

-- ---- lines

climb_short : (parents : List (Option ℕ)) (n : ℕ) (c : Option ℕ) → length (climb parents n c) ≤ n
unfolding climb
climb_short parents zero c = omega arith
climb_short parents (suc n) None = omega arith
climb_short parents (suc n) (Some c) = let shorter = climb_short parents n (parent_in parents c) in omega arith

-- a line isn't longer than there are classes
pub line_short : (declared : List Declaration) (c : ℕ) (row : ClassRow) → slice_get (rows_from declared 0 declared) c ≡ Some row → length row.line ≤ length declared
line_short declared c row is = of_found (slice_get declared c) refl (sym (row_at declared 0 declared c) ∙ is)
  where
    parents_length : length (parents_of declared) ≡ length declared
    parents_length = length-map declared (λ d. d.parent)

    short : (found : Option Declaration) → length (option_map_or (λ d. table_line.line_of (parents_of declared) (0 + c)) found []) ≤ length declared
    short None = omega arith
    short (Some d) = let s = climb_short (parents_of declared) (length (parents_of declared)) (Some (0 + c)) in omega (arith, parents_length)

    of_found : (found : Option Declaration) → slice_get declared c ≡ found → option_map (row_of declared (0 + c)) found ≡ Some row → length row.line ≤ length declared
    of_found None found_is e = absurd (none-some row e)
    of_found (Some d) found_is e = subst (λ r. length r.line ≤ length declared) (same_Some _ _ e) (short (slice_get declared (0 + c)))

module _ (table : ClassTable) (tree : FileTree) (constants : List (ℕ × Option Scalar)) where
  abbrev pub env_with : Environment
  env_with = record { symbols = symbols_of table; constants = constants; places = tree.places }

  abbrev pub program_with : Program
  program_with = program_in env_with table tree

  abbrev rows : List ClassRow
  rows = table.classes

  -- a class, in all three
  pub class_symbol_at : (c : ℕ) → class_at (symbols_of table) c ≡ option_map (class_symbol (names_of rows) (selectors_of rows) (0 + c) (numbers_at 0 (first_numbers rows) rows c)) (slice_get rows c)
  class_symbol_at c = symbol_at (names_of rows) (selectors_of rows) 0 (first_numbers rows) rows c

  pub class_core_at : (c : ℕ) → slice_get program_with.classes c ≡ option_map (core_class env_with tree (0 + c)) (slice_get rows c)
  class_core_at c = core_at env_with tree 0 rows c

  -- superclasses
  pub same_superclass : (c : ℕ) → superclass_of env_with c ≡ superclass program_with c
  same_superclass c = ap (option_and_then (λ class. class.parent)) (class_symbol_at c) ∙ cases (slice_get rows c) ∙ sym (ap (option_and_then (λ class. class.parent)) (class_core_at c))
    where
      cases : (found : Option ClassRow) → option_and_then (λ class. class.parent) (option_map (class_symbol (names_of rows) (selectors_of rows) (0 + c) (numbers_at 0 (first_numbers rows) rows c)) found)
          ≡ option_and_then (λ class. class.parent) (option_map (core_class env_with tree (0 + c)) found)
      cases None = refl
      cases (Some row) = refl

  -- classes by their names
  pub class_within : (x : Name) (c : ℕ) → class_named env_with x ≡ Some c → IsTrue (nat_lt c (length program_with.classes))
  class_within x c is =
      let below = (position-Some (same_name x) (names_of rows) c x is).0 in
      let lengths = length-map rows (λ row. row.name) in
      let classes = length_core env_with tree 0 rows in
      let within : c < length program_with.classes = omega arith in
      lt-ltb c (length program_with.classes) within

  module _ (is_table : IsTable table) (short : (c : ℕ) (row : ClassRow) → slice_get rows c ≡ Some row → length row.line ≤ length rows) where
    -- ---- the lines

    line_core : (steps c : ℕ) (row : ClassRow) → slice_get rows c ≡ Some row → length row.line ≤ steps → line_within steps program_with.classes c ≡ Some row.line
    unfolding line_within
    line_core zero c row is shorter =
        let line = ap length (is_table.rows c row is).line in absurd (none_short (length (line_above rows row.parent)) (length row.line) line shorter)
      where
        none_short : (m n : ℕ) → n ≡ suc m → n ≤ 0 → ⊥
        none_short m n same shorter = omega arith
    line_core (suc steps) c row is shorter =
        ap (option_and_then (λ class. option_map_or (λ parent. option_map (λ line. c ∷ line) (line_within steps program_with.classes parent)) class.parent (Some (c ∷ [])))) (class_core_at c ∙ ap (option_map (core_class env_with tree (0 + c))) is)
        ∙ cases row.parent refl (λ q. line_core steps q)
      where
        facts : IsRow rows c row
        facts = is_table.rows c row is

        cases : (parent : Option ℕ) → row.parent ≡ parent → ((q : ℕ) (other : ClassRow) → slice_get rows q ≡ Some other → length other.line ≤ steps → line_within steps program_with.classes q ≡ Some other.line) →
            option_map_or (λ parent. option_map (λ line. c ∷ line) (line_within steps program_with.classes parent)) parent (Some (c ∷ [])) ≡ Some row.line
        cases None is_parent above = ap Some (sym (facts.line ∙ ap (λ q. c ∷ line_above rows q) is_parent))
        cases (Some q) is_parent above =
            let other = some_within rows q (facts.superclass q is_parent) in
            let line : row.line ≡ c ∷ other.0.line = facts.line ∙ ap (λ q. c ∷ line_above rows q) is_parent ∙ ap (λ found. c ∷ option_map_or (λ row. row.line) found []) other.1 in
            let lengths = ap length line in
            ap (option_map (λ line. c ∷ line)) (above q other.0 other.1 (omega arith)) ∙ ap Some (sym line)

    no_line : (steps c : ℕ) → slice_get program_with.classes c ≡ None → line_within steps program_with.classes c ≡ None
    unfolding line_within
    no_line zero c is = refl
    no_line (suc steps) c is = ap (option_and_then (λ class. option_map_or (λ parent. option_map (λ line. c ∷ line) (line_within steps program_with.classes parent)) class.parent (Some (c ∷ [])))) is

    pub same_below : (c d : ℕ) → is_below (symbols_of table) c d ≡ is_subclass program_with.classes c d
    same_below c d = cases (slice_get rows c) refl
      where
        cases : (found : Option ClassRow) → slice_get rows c ≡ found → is_below (symbols_of table) c d ≡ is_subclass program_with.classes c d
        cases None is =
            ap (λ found. list_any (λ a. a == d) (option_map_or (λ class. class.line) found [])) (class_symbol_at c ∙ ap (option_map (class_symbol (names_of rows) (selectors_of rows) (0 + c) (numbers_at 0 (first_numbers rows) rows c))) is)
            ∙ sym (ap (λ line. option_map_or (λ line. list_any (λ a. a == d) line) line false) (no_line (length program_with.classes) c (class_core_at c ∙ ap (option_map (core_class env_with tree (0 + c))) is)))
        cases (Some row) is =
            let shorter = short c row is in
            let classes = length_core env_with tree 0 rows in
            ap (λ found. list_any (λ a. a == d) (option_map_or (λ class. class.line) found [])) (class_symbol_at c ∙ ap (option_map (class_symbol (names_of rows) (selectors_of rows) (0 + c) (numbers_at 0 (first_numbers rows) rows c))) is)
            ∙ sym (ap (λ line. option_map_or (λ line. list_any (λ a. a == d) line) line false) (line_core (length program_with.classes) c row is (omega arith)))
