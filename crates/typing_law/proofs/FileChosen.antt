-- A call on an object is typed by the method that is looked up.
use Rattle.std.proofs.Common.{◌≡◌, ◌∙◌, ℕ, ◌+◌, ◌<◌, ◌≤◌, Bool, true, false, not, ◌&&◌, ◌==◌, IsTrue, List, [], ◌∷◌, length, Option, Some, None, option_map, is_some, slice_get, refl, subst, sym, ap, arith, if◌then◌else◌}
use Rattle.std.specs.Prelude.{option_and_then, position, unwrap_or}
use Rattle.std.specs.List.{list_any, range_with_len}
use Rattle.std.specs.Option.{option_map_or}
use Rattle.std.proofs.lemmas.Option.{none-some, option_and_then_some, slice_get-map}
use Rattle.std.proofs.lemmas.Bool.{false≢true, eq-eqb, and_from}
use Rattle.std.proofs.lemmas.List.{length-map}
use Rattle.std.proofs.lemmas.List.Quantifiers.{position-Some}
use Rattle.core_tree.specs.declared.ty.Ty.TheVariants as ty
use Rattle.core_tree.specs.Typing.{PartType, all_fit, call_type, chosen_type, is_throwable, where_true}
use Rattle.core_tree.specs.Typing as typing
use Rattle.java_syntax.specs.declared.class.FileTree.{FileTree}
use Rattle.class_table.specs.declared.row.ClassRow.{ClassRow}
use Rattle.class_table.specs.declared.row.ClassTable.{ClassTable}
use Rattle.class_table.specs.declared.row.MethodRow.{MethodRow}
use Rattle.class_table.specs.BuiltIn.{get_message}
use Rattle.class_table.specs.Members.{is_static}
use Rattle.class_table.specs.Table.{table_of}
use Rattle.class_table.specs.TableFacts.{IsTable}
use Rattle.java_names.specs.declared.symbol.ClassSymbol.{ClassSymbol}
use Rattle.java_names.specs.declared.symbol.MethodSymbol.{MethodSymbol}
use Rattle.java_names.specs.declared.symbol.Selector.{Selector}
use Rattle.java_names.specs.BuiltIn.{in_file}
use Rattle.java_names.specs.Chosen.{picked, first_picked, methods_at, chosen_method, chosen_of}
use Rattle.java_names.specs.Lookups.{line_of, is_below, nearest, method_in, method_at}
use Rattle.java_names.specs.Numbers.{first_numbers}
use Rattle.java_names.specs.Selectors.{same_selector, selector_of, message_selector}
use Rattle.java_names.specs.Symbols.{class_symbol, method_symbol, method_symbols, selectors_in}
use Rattle.primitive_operators.specs.declared.scalar.Scalar.{Scalar}
use Rattle.java_exprs.specs.Lookups.{method_of}
use Rattle.java_members.specs.Declarations.{declaration_faults}
use Rattle.java_members.specs.Files.{of_members, core_class}
use Rattle.java_names.proofs.NumberingLemmas.{is_some-position}
use Rattle.typing_law.proofs.Nodes.{where_holds}
use Rattle.typing_law.proofs.Tables.{numbers_at, env_with, program_with, class_symbol_at, class_core_at, same_below}
use Rattle.typing_law.proofs.FileMakers.{shifted}
use Rattle.typing_law.proofs.FileMethods.{method_symbol_at, IsGetMessage, IsOfFile, all_names, all_selectors, first_method, symbols}
use Rattle.typing_law.proofs.FileSelectors.{same_parts, picks_none, picks_first, nearest_same, has_selector, first_selector}
use Rattle.typing_law.proofs.Found.{some_within, range_at}

-- ---- lists

-- a look-up that finds nothing among the methods of a class
no_position : (names : List (List ℕ)) (all : List Selector) (owner : ℕ) (number : Option ℕ) (ms : List MethodRow) (key : Selector) → option_and_then (λ n. slice_get (method_symbols names all owner number ms) n) (position (same_selector key) (selectors_in ms)) ≡ None →
    list_any (same_selector key) (selectors_in ms) ≡ false
no_position names all owner number ms key is = cases (position (same_selector key) (selectors_in ms)) refl is
  where
    cases : (place : Option ℕ) → position (same_selector key) (selectors_in ms) ≡ place → option_and_then (λ n. slice_get (method_symbols names all owner number ms) n) place ≡ None → list_any (same_selector key) (selectors_in ms) ≡ false
    cases None at is = sym (is_some-position (same_selector key) (selectors_in ms)) ∙ ap is_some at
    cases (Some n) at is =
        let below = (position-Some (same_selector key) (selectors_in ms) n key at).0 in
        let lengths = length-map ms selector_of in
        let r = some_within ms n (omega arith) in
        absurd (none-some (method_symbol names all owner (shifted number n) r.0) (sym is ∙ method_symbol_at names all owner number ms n ∙ ap (option_map (method_symbol names all owner (shifted number n))) r.1))

module _ (tree : FileTree) (constants : List (ℕ × Option Scalar)) (none : of_members (declaration_faults (env_with (table_of tree) tree [])) 18 tree.classes ≡ [])
    (is_table : IsTable (table_of tree)) (short : (c : ℕ) (row : ClassRow) → slice_get (table_of tree).classes c ≡ Some row → length row.line ≤ length (table_of tree).classes) where
  abbrev table : ClassTable
  table = table_of tree

  names : List (List ℕ)
  names = all_names tree constants none

  -- ---- what is picked in a class

  module _ (key : Selector) (k : ℕ) (is_key : position (same_selector key) (all_selectors tree constants none) ≡ Some k) (m : MethodSymbol) (it : ℕ) (picks : picked k m ≡ Some it) where
    abbrev symbol : ℕ → ClassRow → ClassSymbol
    symbol d row = class_symbol (all_names tree constants none) (all_selectors tree constants none) (0 + d) (numbers_at 0 (first_numbers table.classes) table.classes d) row

    picks_nothing : (d : ℕ) → method_at (symbols tree constants none) key d ≡ None → first_picked k (methods_at (symbols tree constants none) d) ≡ None
    picks_nothing d is =
        ap (λ found. first_picked k (option_map_or (λ class. class.methods.symbols) found [])) (class_symbol_at table tree constants d)
        ∙ cases (slice_get table.classes d) (ap (option_and_then (λ class. method_in class key)) (sym (class_symbol_at table tree constants d)) ∙ is)
      where
        cases : (found : Option ClassRow) → option_and_then (λ class. method_in class key) (option_map (symbol d) found) ≡ None → first_picked k (option_map_or (λ class. class.methods.symbols) (option_map (symbol d) found) []) ≡ None
        cases None is = refl
        cases (Some row) is =
            picks_none (all_names tree constants none) (all_selectors tree constants none) key k is_key (0 + d) (in_file (0 + d) (first_method tree constants none d)) row.methods
            (no_position (all_names tree constants none) (all_selectors tree constants none) (0 + d) (in_file (0 + d) (first_method tree constants none d)) row.methods key is)

    picks_it : (d : ℕ) → method_at (symbols tree constants none) key d ≡ Some m → first_picked k (methods_at (symbols tree constants none) d) ≡ Some it
    picks_it d is =
        ap (λ found. first_picked k (option_map_or (λ class. class.methods.symbols) found [])) (class_symbol_at table tree constants d)
        ∙ cases (slice_get table.classes d) (ap (option_and_then (λ class. method_in class key)) (sym (class_symbol_at table tree constants d)) ∙ is)
      where
        cases : (found : Option ClassRow) → option_and_then (λ class. method_in class key) (option_map (symbol d) found) ≡ Some m → first_picked k (option_map_or (λ class. class.methods.symbols) (option_map (symbol d) found) []) ≡ Some it
        cases None is = absurd (none-some m is)
        cases (Some row) is =
            let number = in_file (0 + d) (first_method tree constants none d) in
            option_and_then_some (λ n. slice_get (method_symbols (all_names tree constants none) (all_selectors tree constants none) (0 + d) number row.methods) n) (position (same_selector key) (selectors_in row.methods)) m is (λ n is_n is_m.
            picks_first (all_names tree constants none) (all_selectors tree constants none) key k is_key (0 + d) number row.methods n m it is_m (position-Some (same_selector key) (selectors_in row.methods) n key is_n).2 picks)

    pub chosen_is : (c : ℕ) → nearest (method_at (symbols tree constants none) key) (line_of (symbols tree constants none) c) ≡ Some m → chosen_method (symbols tree constants none) c k ≡ Some it
    chosen_is c is = nearest_same (method_at (symbols tree constants none) key) (λ d. first_picked k (methods_at (symbols tree constants none) d)) m it picks_nothing picks_it (line_of (symbols tree constants none) c) is

  -- ---- the program's choice

  pub row_of_below : (c d : ℕ) → IsTrue (is_below (symbols tree constants none) c d) → (row : ClassRow) × (slice_get table.classes c ≡ Some row)
  row_of_below c d below = cases (slice_get table.classes c) refl
    where
      cases : (found : Option ClassRow) → slice_get table.classes c ≡ found → (row : ClassRow) × (slice_get table.classes c ≡ Some row)
      cases None is = absurd (false≢true (sym (ap (λ found. list_any (λ a. a == d) (option_map_or (λ class. class.line) found [])) (class_symbol_at table tree constants c ∙ ap (option_map (class_symbol (all_names tree constants none) (all_selectors tree constants none) (0 + c) (numbers_at 0 (first_numbers table.classes) table.classes c))) is)) ∙ below))
      cases (Some row) is = (row, is)

  program_chosen : (c k it : ℕ) (row : ClassRow) → slice_get table.classes c ≡ Some row → k < length (all_selectors tree constants none) → chosen_method (symbols tree constants none) c k ≡ Some it → typing.chosen_number (program_with table tree constants) c k ≡ Some it
  program_chosen c k it row is_row below chosen =
      let from : 0 + c ≡ c = omega arith in
      let start : 0 + k ≡ k = omega arith in
      ap (option_and_then (λ class. option_and_then (λ m. m) (slice_get class.chosen k))) (class_core_at table tree constants c ∙ ap (option_map (core_class (env_with table tree constants) tree (0 + c))) is_row)
      ∙ ap (λ n. option_and_then (λ m. m) (slice_get (chosen_of (symbols tree constants none) n) k)) from
      ∙ ap (option_and_then (λ m. m)) (slice_get-map (chosen_method (symbols tree constants none) c) (range_with_len 0 (length (all_selectors tree constants none))) k ∙ ap (option_map (chosen_method (symbols tree constants none) c)) (range_at 0 (length (all_selectors tree constants none)) k below ∙ ap Some start))
      ∙ chosen

  if_message : (message : Bool) (p_fit : Bool) (m_answer : PartType) (r : PartType) → (message ≡ true → where_true p_fit ty.Text ≡ r) → (message ≡ false → m_answer ≡ r) → (if message then where_true p_fit ty.Text else m_answer) ≡ r
  if_message true p_fit m_answer r meant other = meant refl
  if_message false p_fit m_answer r meant other = other refl

  -- a call of an instance method of the file
  pub chosen_agrees : (c : ℕ) (x : List ℕ) (arity : ℕ) (m : MethodSymbol) → IsOfFile tree constants none c (record { name = x; arity = arity }) m → method_of (env_with table tree constants) c x arity ≡ Some m → m.is_static ≡ false →
      (((unwrap_or m.selector 0 == 0) && is_throwable (program_with table tree constants) c) ≡ true → (m.params ≡ []) × (m.answer ≡ ty.Text)) →
      (arguments : List PartType) → IsTrue (all_fit (program_with table tree constants) m.params arguments) → chosen_type (program_with table tree constants) (unwrap_or m.selector 0) arguments c ≡ Some m.answer
  unfolding shifted
  chosen_agrees c x arity m of_file is instance message arguments fit =
      let p = program_with table tree constants in
      let y = of_file.found.row in
      let key : Selector = record { name = x; arity = arity } in
      let instance_row : is_static y.mods ≡ false = sym (ap (λ s. s.is_static) of_file.found.is_symbol) ∙ instance in
      let has = has_selector table.classes of_file.class of_file.found.place of_file.row y of_file.is_row of_file.found.is_row instance_row in
      let k = has.0 in
      let parts = same_parts key (selector_of y) of_file.found.same in
      let key_is : key ≡ selector_of y = ap (λ n. record { name = n; arity = arity }) parts.0 ∙ ap (λ a. record { name = y.name; arity = a }) parts.1 in
      let is_key : position (same_selector key) (all_selectors tree constants none) ≡ Some k = ap (λ q. position (same_selector q) (all_selectors tree constants none)) key_is ∙ has.1 in
      let selector : m.selector ≡ Some k = ap (λ s. s.selector) of_file.found.is_symbol ∙ ap (λ b. if b then None else position (same_selector (selector_of y)) (all_selectors tree constants none)) instance_row ∙ has.1 in
      let it = first_method tree constants none of_file.class + of_file.found.place in
      let number : m.number ≡ Some it = ap (λ s. s.number) of_file.found.is_symbol in
      let picks : picked k m ≡ Some it = ap (option_and_then (λ s. if s == k then m.number else None)) selector ∙ ap (λ b. if b then m.number else None) (eq-eqb k k refl) ∙ number in
      let row = row_of_below c of_file.class of_file.below in
      let within = (position-Some (same_selector key) (all_selectors tree constants none) k message_selector is_key).0 in
      let method = of_file.program.method in
      let chosen : typing.chosen_method p c k ≡ Some method = ap (option_and_then (λ n. slice_get p.methods n)) (program_chosen c k it row.0 row.1 within (chosen_is key k is_key m it picks c is)) ∙ of_file.program.found in
      let params : method.params ≡ m.params = of_file.program.is.params ∙ sym (ap (λ s. s.params) of_file.found.is_symbol) in
      let answer : method.answer ≡ m.answer = of_file.program.is.answer ∙ sym (ap (λ s. s.answer) of_file.found.is_symbol) in
      let on_object : method.on_object ≡ true = of_file.program.is.on_object ∙ ap not instance_row in
      if_message ((unwrap_or m.selector 0 == 0) && is_throwable p c) (all_fit p [] arguments) (call_type p (λ m. m.on_object) arguments (typing.chosen_method p c (unwrap_or m.selector 0))) (Some m.answer)
      (λ is_message. let said = message is_message in where_holds (all_fit p [] arguments) ty.Text (subst (λ ts. IsTrue (all_fit p ts arguments)) said.0 fit) ∙ ap Some (sym said.1))
      (λ other. ap (λ s. call_type p (λ m. m.on_object) arguments (typing.chosen_method p c (unwrap_or s 0))) selector
      ∙ ap (call_type p (λ m. m.on_object) arguments) chosen
      ∙ where_holds (method.on_object && all_fit p method.params arguments) method.answer (and_from method.on_object (all_fit p method.params arguments) on_object (ap (λ ts. all_fit p ts arguments) params ∙ fit))
      ∙ ap Some answer)

  pub throwable_below : (c : ℕ) → is_throwable (program_with table tree constants) c ≡ is_below (symbols tree constants none) c 1
  throwable_below c = sym (same_below table tree constants is_table short c 1)

  -- a call of `getMessage` of Throwable
  pub get_message_agrees : (c arity : ℕ) (m : MethodSymbol) → IsGetMessage tree constants none c arity m →
      (arguments : List PartType) → IsTrue (all_fit (program_with table tree constants) m.params arguments) → chosen_type (program_with table tree constants) (unwrap_or m.selector 0) arguments c ≡ Some m.answer
  get_message_agrees c arity m get arguments fit =
      let p = program_with table tree constants in
      let first = first_selector table.classes in
      let selector : m.selector ≡ Some 0 = get.selector ∙ ap (position (same_selector (selector_of get_message))) first.1 ∙ message_first first.0 in
      ap (λ s. chosen_type p (unwrap_or s 0) arguments c) selector
      ∙ ap (λ b. if b then where_true (all_fit p [] arguments) ty.Text else call_type p (λ m. m.on_object) arguments (typing.chosen_method p c 0)) (throwable_below c ∙ get.below)
      ∙ where_holds (all_fit p [] arguments) ty.Text (subst (λ ts. IsTrue (all_fit p ts arguments)) get.params fit) ∙ ap Some (sym get.answer)
    where
      message_first : (rest : List Selector) → position (same_selector (selector_of get_message)) (message_selector ∷ rest) ≡ Some 0
      message_first rest = grind arith
