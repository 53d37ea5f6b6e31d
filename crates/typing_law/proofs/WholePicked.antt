-- The method that a selector picks among those of a class.
use Rattle.std.proofs.Common.{◌≡◌, ◌∙◌, ℕ, suc, ◌+◌, ◌≤◌, Bool, true, false, ◌==◌, cond, List, [], ◌∷◌, Option, Some, None, option_map, slice_get, refl, subst, sym, ap, arith, if◌then◌else◌}
use Rattle.std.specs.Prelude.{find, option_and_then, position}
use Rattle.std.specs.Option.{option_map_or, option_or}
use Rattle.std.proofs.lemmas.Option.{none-some, same_Some}
use Rattle.std.proofs.lemmas.Bool.{eqb-true, eq-eqb, ltb-false}
use Rattle.java_syntax.specs.declared.class.FileTree.{FileTree}
use Rattle.class_table.specs.declared.row.ClassRow.{ClassRow}
use Rattle.class_table.specs.declared.row.ClassTable.{ClassTable}
use Rattle.class_table.specs.declared.row.MethodRow.{MethodRow}
use Rattle.class_table.specs.Members.{is_static}
use Rattle.class_table.specs.Names.{Name}
use Rattle.class_table.specs.Table.{table_of}
use Rattle.java_names.specs.declared.symbol.Selector.{Selector}
use Rattle.core_tree.specs.BuiltIn.{is_built_in}
use Rattle.java_names.specs.BuiltIn.{in_file}
use Rattle.java_names.specs.Chosen.{picked, first_picked, methods_at}
use Rattle.java_names.specs.Numbers.{first_numbers}
use Rattle.java_names.specs.Selectors.{same_selector, selector_of}
use Rattle.java_names.specs.Symbols.{class_symbol, method_symbol, method_symbols}
use Rattle.primitive_operators.specs.declared.scalar.Scalar.{Scalar}
use Rattle.java_members.specs.Declarations.{declaration_faults}
use Rattle.java_members.specs.Files.{of_members}
use Rattle.typing_law.proofs.Tables.{numbers_at, env_with, class_symbol_at}
use Rattle.typing_law.proofs.FileMethods.{InProgram, in_program, all_names, all_selectors, first_method, symbols}
use Rattle.typing_law.proofs.FileSelectors.{same_parts, one_place}

-- two selectors that are the same stand at one place
key_place : (all : List Selector) (a b : Selector) (k : ℕ) → same_selector a b ≡ true → position (same_selector a) all ≡ Some k → position (same_selector b) all ≡ Some k
key_place all a b k same is =
    let parts = same_parts a b same in
    let key : a ≡ b = ap (λ n. record { name = n; arity = a.arity }) parts.0 ∙ ap (λ n. record { name = b.name; arity = n }) parts.1 in
    ap (λ q. position (same_selector q) all) (sym key) ∙ is

module _ (names : List Name) (all : List Selector) (owner : ℕ) (k : ℕ) where
  -- a method that is picked is an instance method with that selector
  picked_is : (number : Option ℕ) (m : MethodRow) (it : ℕ) → picked k (method_symbol names all owner number m) ≡ Some it → (is_static m.mods ≡ false) × (position (same_selector (selector_of m)) all ≡ Some k) × (number ≡ Some it)
  picked_is number m it is = cases (is_static m.mods) refl is
    where
      here : (s : ℕ) → position (same_selector (selector_of m)) all ≡ Some s → (b : Bool) → (s == k) ≡ b → (if b then number else None) ≡ Some it → (position (same_selector (selector_of m)) all ≡ Some k) × (number ≡ Some it)
      here s place true same is = (place ∙ ap Some (eqb-true s k same), is)
      here s place false other is = absurd (none-some it is)

      at : (place : Option ℕ) → position (same_selector (selector_of m)) all ≡ place → option_and_then (λ s. if s == k then number else None) place ≡ Some it → (position (same_selector (selector_of m)) all ≡ Some k) × (number ≡ Some it)
      at None place is = absurd (none-some it is)
      at (Some s) place is = here s place (s == k) refl is

      cases : (b : Bool) → is_static m.mods ≡ b → option_and_then (λ s. if s == k then number else None) (if b then None else position (same_selector (selector_of m)) all) ≡ Some it →
          (is_static m.mods ≡ false) × (position (same_selector (selector_of m)) all ≡ Some k) × (number ≡ Some it)
      cases true static is = absurd (none-some it is)
      cases false instance is = let found = at (position (same_selector (selector_of m)) all) refl is in (instance, found.0, found.1)

  -- and such a method is picked
  picks_it : (number : Option ℕ) (m : MethodRow) → is_static m.mods ≡ false → position (same_selector (selector_of m)) all ≡ Some k → picked k (method_symbol names all owner number m) ≡ number
  picks_it number m instance place =
      ap (λ b. option_and_then (λ s. if s == k then number else None) (if b then None else position (same_selector (selector_of m)) all)) instance
      ∙ ap (option_and_then (λ s. if s == k then number else None)) place ∙ ap (λ b. if b then number else None) (eq-eqb k k refl)

  -- the method that is picked among some that are numbered on from a number: the first instance method with that
  -- selector
  pub record Picked (number : ℕ) (ms : List MethodRow) (it : ℕ) : Type 0 where
    pub place : ℕ
    pub row : MethodRow
    pub is_row : slice_get ms place ≡ Some row
    pub instance : is_static row.mods ≡ false
    pub selector : position (same_selector (selector_of row)) all ≡ Some k
    pub is_number : it ≡ number + place
    pub first : (key : Selector) → position (same_selector key) all ≡ Some k → (a : MethodRow) → find (λ m. same_selector key (selector_of m)) ms ≡ Some a → is_static a.mods ≡ false → a ≡ row

  pub picked_among : (number : ℕ) (ms : List MethodRow) (it : ℕ) → first_picked k (method_symbols names all owner (Some number) ms) ≡ Some it → Picked number ms it
  picked_among number [] it is = absurd (none-some it is)
  picked_among number (m ∷ more) it is = cases (picked_among (number + 1) more it) (picked k (method_symbol names all owner (Some number) m)) refl is
    where
      cases : (first_picked k (method_symbols names all owner (Some (number + 1)) more) ≡ Some it → Picked (number + 1) more it) → (found : Option ℕ) → picked k (method_symbol names all owner (Some number) m) ≡ found →
          option_or found (first_picked k (method_symbols names all owner (Some (number + 1)) more)) ≡ Some it → Picked number (m ∷ more) it
      cases rest (Some j) found is =
          let facts = picked_is (Some number) m it (found ∙ is) in
          let e : number ≡ number + 0 = omega arith in
          record {
            place = 0;
            row = m;
            is_row = refl;
            instance = facts.0;
            selector = facts.1;
            is_number = same_Some _ _ (sym facts.2) ∙ e;
            first = λ key is_key a found instance. sym (same_Some _ _ (ap (λ b. cond b (Some m) (find (λ m. same_selector key (selector_of m)) more)) (sym (one_place all key (selector_of m) k is_key facts.1)) ∙ found));
          }
      cases rest None found is =
          let r = rest is in
          let e : number + 1 + r.place ≡ number + suc r.place = omega arith in
          record {
            place = suc r.place;
            row = r.row;
            is_row = r.is_row;
            instance = r.instance;
            selector = r.selector;
            is_number = r.is_number ∙ e;
            first = λ key is_key a is_a instance. later r key is_key a instance (same_selector key (selector_of m)) refl is_a;
          }
        where
          later : (r : Picked (number + 1) more it) (key : Selector) → position (same_selector key) all ≡ Some k → (a : MethodRow) → is_static a.mods ≡ false → (b : Bool) → same_selector key (selector_of m) ≡ b →
              cond b (Some m) (find (λ m. same_selector key (selector_of m)) more) ≡ Some a → a ≡ r.row
          later r key is_key a instance false other is_a = r.first key is_key a is_a instance
          later r key is_key a instance true same is_a =
              let here : m ≡ a = same_Some _ _ is_a in
              let picks = picks_it (Some number) m (ap (λ x. is_static x.mods) here ∙ instance) (key_place all key (selector_of m) k same is_key) in
              absurd (none-some number (sym found ∙ picks))

  -- among methods without numbers none is picked
  none_picked : (ms : List MethodRow) → first_picked k (method_symbols names all owner None ms) ≡ None
  none_picked [] = refl
  none_picked (m ∷ more) = ap (λ o. option_or o (first_picked k (method_symbols names all owner None more))) (nothing (if is_static m.mods then None else position (same_selector (selector_of m)) all)) ∙ none_picked more
    where
      neither : (b : Bool) → ◌≡◌ {A = Option ℕ} (if b then None else None) None
      neither true = refl
      neither false = refl

      nothing : (place : Option ℕ) → ◌≡◌ {A = Option ℕ} (option_and_then (λ s. if s == k then None else None) place) None
      nothing None = refl
      nothing (Some s) = neither (s == k)

module _ (tree : FileTree) (constants : List (ℕ × Option Scalar)) (none : of_members (declaration_faults (env_with (table_of tree) tree [])) 18 tree.classes ≡ []) where
  abbrev table : ClassTable
  table = table_of tree

  -- the method that selector k picks among those that class d declares
  pub record PickedIn (d k it : ℕ) : Type 0 where
    pub least : 18 ≤ d
    pub row : ClassRow
    pub is_row : slice_get table.classes d ≡ Some row
    pub found : Picked (all_names tree constants none) (all_selectors tree constants none) d k (first_method tree constants none d) row.methods it
    pub program : InProgram tree constants none d found.row it

  pub picked_in : (d k it : ℕ) → first_picked k (methods_at (symbols tree constants none) d) ≡ Some it → PickedIn d k it
  picked_in d k it is =
      of_row (slice_get table.classes d) refl (ap (λ found. first_picked k (option_map_or (λ class. class.methods.symbols) found [])) (sym (class_symbol_at table tree constants d)) ∙ is)
    where
      from : 0 + d ≡ d
      from = omega arith

      in_class : (row : ClassRow) → slice_get table.classes d ≡ Some row → (b : Bool) → is_built_in d ≡ b → first_picked k (method_symbols (all_names tree constants none) (all_selectors tree constants none) d (if b then None else Some (first_method tree constants none d)) row.methods) ≡ Some it → PickedIn d k it
      in_class row is_row true built_in is = absurd (none-some it (sym (none_picked (all_names tree constants none) (all_selectors tree constants none) d k row.methods) ∙ is))
      in_class row is_row false other is =
          let least = ltb-false d 18 other in
          let found = picked_among (all_names tree constants none) (all_selectors tree constants none) d k (first_method tree constants none d) row.methods it is in
          record {
            least = least;
            row = row;
            is_row = is_row;
            found = found;
            program = subst (InProgram tree constants none d found.row) (sym found.is_number) (in_program tree constants none d row found.place found.row least is_row found.is_row);
          }

      of_row : (found : Option ClassRow) → slice_get table.classes d ≡ found →
          first_picked k (option_map_or (λ class. class.methods.symbols) (option_map (class_symbol (all_names tree constants none) (all_selectors tree constants none) (0 + d) (numbers_at 0 (first_numbers table.classes) table.classes d)) found) []) ≡ Some it → PickedIn d k it
      of_row None is_row is = absurd (none-some it is)
      of_row (Some row) is_row is =
          in_class row is_row (is_built_in d) refl
          (subst (λ n. first_picked k (method_symbols (all_names tree constants none) (all_selectors tree constants none) n (in_file n (first_method tree constants none d)) row.methods) ≡ Some it) from is)
