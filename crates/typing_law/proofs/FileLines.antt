-- Lines of a file's classes, and methods that are found in a superclass.
use Rattle.std.proofs.Common.{◌≡◌, ◌∙◌, ⊎_elim, ℕ, zero, suc, ◌+◌, ◌≤◌, Bool, true, false, not, ◌||◌, ◌&&◌, ◌==◌, IsTrue, List, [], ◌∷◌, length, Option, Some, None, option_map, slice_get, refl, subst, sym, ap, arith}
use Rattle.std.specs.List.{list_any}
use Rattle.std.specs.Option.{option_map_or}
use Rattle.std.proofs.lemmas.Option.{none-some, same_Some, option_and_then_some}
use Rattle.std.proofs.lemmas.Bool.{false≢true, eqb-true, or_right, and_from}
use Rattle.core_tree.specs.Types.{is_subclass}
use Rattle.core_tree.specs.Typing.{all_fit, call_type, is_of_superclass, is_throwable}
use Rattle.java_syntax.specs.declared.class.FileTree.{FileTree}
use Rattle.class_table.specs.declared.row.ClassRow.{ClassRow}
use Rattle.class_table.specs.declared.row.ClassTable.{ClassTable}
use Rattle.class_table.specs.Members.{is_static}
use Rattle.class_table.specs.Table.{table_of}
use Rattle.class_table.specs.TableFacts.{IsTable, line_above}
use Rattle.java_names.specs.declared.symbol.MethodSymbol.{MethodSymbol}
use Rattle.java_names.specs.Lookups.{class_at, line_of, is_below}
use Rattle.java_names.specs.Numbers.{first_numbers}
use Rattle.java_names.specs.Symbols.{class_symbol}
use Rattle.primitive_operators.specs.declared.scalar.Scalar.{Scalar}
use Rattle.java_exprs.specs.Lookups.{superclass_of, method_of}
use Rattle.java_members.specs.Declarations.{declaration_faults}
use Rattle.java_members.specs.Files.{of_members}
use Rattle.typing_law.specs.Agrees.{AgreesOnSuper}
use Rattle.typing_law.proofs.Nodes.{where_holds}
use Rattle.typing_law.proofs.Tables.{numbers_at, env_with, program_with, class_symbol_at, same_below}
use Rattle.typing_law.proofs.FileMakers.{shifted, found_by}
use Rattle.typing_law.proofs.FileMethods.{IsGetMessage, IsOfFile, method_declared, all_names, all_selectors, first_method, symbols}
use Rattle.typing_law.proofs.Found.{some_within}
use Rattle.std.proofs.Math.Nat.{le_refl}

module _ (tree : FileTree) (constants : List (ℕ × Option Scalar)) (none : of_members (declaration_faults (env_with (table_of tree) tree [])) 18 tree.classes ≡ [])
    (is_table : IsTable (table_of tree)) (short : (c : ℕ) (row : ClassRow) → slice_get (table_of tree).classes c ≡ Some row → length row.line ≤ length (table_of tree).classes) where
  abbrev table : ClassTable
  table = table_of tree

  abbrev pub on : ℕ → List ℕ → Type 0
  on d line = IsTrue (list_any (λ a. a == d) line)

  -- a class on a line: the first of it, or one on the line of the superclass
  pub line_cases : (c : ℕ) (row : ClassRow) (d : ℕ) {Q : Type 0} → slice_get table.classes c ≡ Some row → on d row.line → (c ≡ d → Q) → ((q : ℕ) (above : ClassRow) → slice_get table.classes q ≡ Some above → row.parent ≡ Some q → row.line ≡ c ∷ above.line → on d above.line → Q) → Q
  line_cases c row d {Q = Q} is on_line here higher = either (c == d) refl (subst (on d) line on_line)
    where
      line : row.line ≡ c ∷ line_above table.classes row.parent
      line = (is_table.rows c row is).line

      of_parent : (parent : Option ℕ) → row.parent ≡ parent → on d (line_above table.classes parent) → Q
      of_parent None is_parent any = absurd (false≢true any)
      of_parent (Some q) is_parent any = of_row (slice_get table.classes q) refl any
        where
          of_row : (found : Option ClassRow) → slice_get table.classes q ≡ found → on d (option_map_or (λ row. row.line) found []) → Q
          of_row None is_q any = absurd (false≢true any)
          of_row (Some above) is_q any = higher q above is_q is_parent (line ∙ ap (λ parent. c ∷ line_above table.classes parent) is_parent ∙ ap (λ found. c ∷ option_map_or (λ row. row.line) found []) is_q) any

      either : (b : Bool) → (c == d) ≡ b → IsTrue (b || list_any (λ a. a == d) (line_above table.classes row.parent)) → Q
      either true same any = here (eqb-true c d same)
      either false other any = of_parent row.parent refl any

  -- the line of a class on a line is no longer
  pub line_within : (n c : ℕ) (row : ClassRow) (d : ℕ) → length row.line ≤ n → slice_get table.classes c ≡ Some row → on d row.line → (there : ClassRow) × (slice_get table.classes d ≡ Some there) × (length there.line ≤ length row.line)
  line_within zero c row d shorter is on_line = absurd (no_line row.line shorter on_line)
    where
      no_line : (line : List ℕ) → length line ≤ 0 → on d line → ⊥
      no_line [] shorter any = false≢true any
      no_line (a ∷ line) shorter any = absurd (omega arith)
  line_within (suc n) c row d shorter is on_line =
      line_cases c row d {Q = (there : ClassRow) × (slice_get table.classes d ≡ Some there) × (length there.line ≤ length row.line)} is on_line
      (λ same. (row, ap (slice_get table.classes) (sym same) ∙ is, le_refl (length row.line)))
      (λ q above is_q is_parent line on_above. let lengths = ap length line in let more = line_within n q above d (omega arith) is_q on_above in (more.0, more.1, omega (arith, more.2)))

  -- the line of a class in the symbols
  pub line_is : (c : ℕ) (row : ClassRow) → slice_get table.classes c ≡ Some row → line_of (symbols tree constants none) c ≡ row.line
  line_is c row is = ap (λ found. option_map_or (λ class. class.line) found []) (class_symbol_at table tree constants c ∙ ap (option_map (class_symbol (all_names tree constants none) (all_selectors tree constants none) (0 + c) (numbers_at 0 (first_numbers table.classes) table.classes c))) is)

  -- the superclass of a class
  record HasSuper (c b : ℕ) : Type 0 where
    row : ClassRow
    is_row : slice_get table.classes c ≡ Some row
    above : ClassRow
    is_above : slice_get table.classes b ≡ Some above
    line : row.line ≡ c ∷ above.line

  super_row : (c b : ℕ) → superclass_of (env_with table tree constants) c ≡ Some b → HasSuper c b
  super_row c b is =
      option_and_then_some (λ class. class.parent) (class_at (symbols tree constants none) c) b is (λ class is_class is_parent.
      let row = found_by (class_symbol (all_names tree constants none) (all_selectors tree constants none) (0 + c) (numbers_at 0 (first_numbers table.classes) table.classes c)) (slice_get table.classes c) class (sym (class_symbol_at table tree constants c) ∙ is_class) in
      let parent : row.0.parent ≡ Some b = ap (λ k. k.parent) (sym row.2) ∙ is_parent in
      let facts = is_table.rows c row.0 row.1 in
      let above = some_within table.classes b (facts.superclass b parent) in
      record {
        row = row.0;
        is_row = row.1;
        above = above.0;
        is_above = above.1;
        line = facts.line ∙ ap (λ q. c ∷ line_above table.classes q) parent ∙ ap (λ found. c ∷ option_map_or (λ row. row.line) found []) above.1;
      })

  below_above : (c b d : ℕ) → HasSuper c b → IsTrue (is_below (symbols tree constants none) b d) → IsTrue (is_below (symbols tree constants none) c d) × ((d == c) ≡ false)
  below_above c b d has below =
      let on_above : on d has.above.line = subst (on d) (line_is b has.above has.is_above) below in
      (subst (on d) (sym (line_is c has.row has.is_row ∙ has.line)) (or_right (c == d) (list_any (λ a. a == d) has.above.line) on_above), other (d == c) refl on_above)
    where
      other : (b : Bool) → (d == c) ≡ b → on d has.above.line → (d == c) ≡ false
      other false is on_above = is
      other true is on_above =
          let within = line_within (length has.above.line) b has.above d (le_refl (length has.above.line)) has.is_above on_above in
          let same : within.0 ≡ has.row = same_Some _ _ (sym within.1 ∙ ap (slice_get table.classes) (eqb-true d c is) ∙ has.is_row) in
          let lengths : length within.0.line ≡ suc (length has.above.line) = ap (λ r. length r.line) same ∙ ap length has.line in
          absurd (longer (length within.0.line) (length has.above.line) lengths within.2)
        where
          longer : (m n : ℕ) → m ≡ suc n → m ≤ n → ⊥
          longer m n same less = omega arith

  pub throwable_below : (c : ℕ) → is_throwable (program_with table tree constants) c ≡ is_below (symbols tree constants none) c 1
  throwable_below c = sym (same_below table tree constants is_table short c 1)

  -- every instance method that is found in a superclass
  pub super_agrees : (c b : ℕ) (x : List ℕ) (arity : ℕ) (m : MethodSymbol) → superclass_of (env_with table tree constants) c ≡ Some b → method_of (env_with table tree constants) b x arity ≡ Some m → m.is_static ≡ false → AgreesOnSuper (program_with table tree constants) c m
  unfolding shifted
  super_agrees c b x arity m is_super is instance = ⊎_elim of_message of_file (method_declared tree constants none b x arity m is)
    where
      has : HasSuper c b
      has = super_row c b is_super

      of_message : IsGetMessage tree constants none b arity m → AgreesOnSuper (program_with table tree constants) c m
      of_message get = record {
        of_file = λ number is_number. absurd (none-some number (sym get.number ∙ is_number));
        built_in = λ is_none. (throwable_below c ∙ (below_above c b 1 has get.below).0, get.answer);
      }

      of_file : IsOfFile tree constants none b (record { name = x; arity = arity }) m → AgreesOnSuper (program_with table tree constants) c m
      of_file it =
          let p = program_with table tree constants in
          let method = it.program.method in
          let number : m.number ≡ Some (first_method tree constants none it.class + it.found.place) = ap (λ s. s.number) it.found.is_symbol in
          let instance_row : is_static it.found.row.mods ≡ false = sym (ap (λ s. s.is_static) it.found.is_symbol) ∙ instance in
          let on_object : method.on_object ≡ true = it.program.is.on_object ∙ ap not instance_row in
          let params : method.params ≡ m.params = it.program.is.params ∙ sym (ap (λ s. s.params) it.found.is_symbol) in
          let answer : method.answer ≡ m.answer = it.program.is.answer ∙ sym (ap (λ s. s.answer) it.found.is_symbol) in
          let above = below_above c b it.class has it.below in
          let subclass : IsTrue (is_subclass p.classes c method.owner) = ap (is_subclass p.classes c) it.program.is.owner ∙ sym (same_below table tree constants is_table short c it.class) ∙ above.0 in
          let other : not (method.owner == c) ≡ true = ap (λ d. not (d == c)) it.program.is.owner ∙ ap not above.1 in
          record {
            of_file = λ k is_k arguments fit.
                ap (λ n. call_type p (is_of_superclass p c) arguments (slice_get p.methods n)) (sym (same_Some _ _ (sym number ∙ is_k)))
                ∙ ap (call_type p (is_of_superclass p c) arguments) it.program.found
                ∙ where_holds (is_of_superclass p c method && all_fit p method.params arguments) method.answer
                (and_from (is_of_superclass p c method) (all_fit p method.params arguments)
                (and_from method.on_object (is_subclass p.classes c method.owner && not (method.owner == c)) on_object (and_from (is_subclass p.classes c method.owner) (not (method.owner == c)) subclass other))
                (ap (λ ts. all_fit p ts arguments) params ∙ fit))
                ∙ ap Some answer;
            built_in = λ is_none. absurd (none-some (first_method tree constants none it.class + it.found.place) (sym is_none ∙ number));
          }
