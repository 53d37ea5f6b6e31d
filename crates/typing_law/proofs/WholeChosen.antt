-- What the selectors pick in a file's classes is declared on their lines, and fits what they pick in the superclass.
use Rattle.std.proofs.Common.{◌≡◌, ◌∙◌, ℕ, ◌≤◌, Bool, true, false, not, ◌||◌, ◌&&◌, ◌==◌, IsTrue, List, [], ◌∷◌, length, drop, map, get_or, Option, Some, None, slice_get, refl, subst, sym, ap}
use Rattle.std.specs.Prelude.{nat_eq, option_and_then}
use Rattle.std.specs.Bool.{beq}
use Rattle.std.specs.List.{list_all, list_any, range_with_len}
use Rattle.std.specs.Option.{option_map_or, option_or}
use Rattle.std.proofs.lemmas.Option.{same_Some}
use Rattle.std.proofs.lemmas.Bool.{false≢true, and_from, eqb-true}
use Rattle.std.proofs.lemmas.List.Folds.{list_all-map}
use Rattle.std.proofs.lemmas.List.Quantifiers.{position-Some}
use Rattle.std.specs.Cmp.{second_so}
use Rattle.core_tree.specs.declared.program.Program.{Program}
use Rattle.core_tree.specs.Types.{is_string, is_subclass}
use Rattle.core_tree.specs.Typing.{is_throwable}
use Rattle.core_tree.specs.Typing as typing
use Rattle.core_tree.specs.WellTyped.{is_chosen, is_message_method, overrides, same_signature, chosen_above}
use Rattle.core_tree.specs.WellTyped as typed
use Rattle.java_syntax.specs.declared.class.FileTree.{FileTree}
use Rattle.class_table.specs.declared.row.ClassRow.{ClassRow}
use Rattle.class_table.specs.declared.row.ClassTable.{ClassTable}
use Rattle.class_table.specs.Faults.{Clear}
use Rattle.class_table.specs.Members.{is_static}
use Rattle.class_table.specs.Names.{same_name}
use Rattle.class_table.specs.Rules.{Breaks}
use Rattle.class_table.specs.Table.{table_of}
use Rattle.class_table.specs.TableFacts.{IsTable}
use Rattle.java_names.specs.Chosen.{chosen_method, chosen_of, first_picked, methods_at}
use Rattle.java_names.specs.Lookups.{is_below, line_of, nearest}
use Rattle.java_names.specs.Selectors.{same_selector, selector_of, message_selector}
use Rattle.java_names.specs.Types.{answer_type, declared_types}
use Rattle.primitive_operators.specs.declared.scalar.Scalar.{Scalar}
use Rattle.java_members.specs.Declarations.{declaration_faults}
use Rattle.java_members.specs.Files.{of_members, core_class}
use Rattle.core_tree.proofs.TypeFacts as facts
use Rattle.typing_law.proofs.Tables.{env_with, program_with, same_below}
use Rattle.typing_law.proofs.FileMethods.{all_names, all_selectors, nearest_in, symbols}
use Rattle.typing_law.proofs.FileSelectors.{first_selector, one_place}
use Rattle.typing_law.proofs.FileLines.{line_is, throwable_below}
use Rattle.typing_law.proofs.FileMessages as messages
use Rattle.typing_law.proofs.WholeLists.{all_from}
use Rattle.typing_law.proofs.WholeClasses.{class_there}
use Rattle.typing_law.proofs.WholeFields.{row_above}
use Rattle.typing_law.proofs.WholePicked.{PickedIn, picked_in}
use Rattle.typing_law.proofs.WholeOverrides.{overrides_it, same_methods}
use Rattle.typing_law.proofs.Found.{find_there, empty_of_length}

-- where each that is picked above has one that fits it, all do
over_map : (p : Program) (f g : ℕ → Option ℕ) (ks : List ℕ) → ((k m : ℕ) → f k ≡ Some m → (it : ℕ) × (g k ≡ Some it) × IsTrue (same_signature p m it)) → IsTrue (overrides p (map f ks) (map g ks))
over_map p f g [] each = refl
over_map p f g (k ∷ ks) each = cases (over_map p f g ks each) (f k) refl
  where
    cases : IsTrue (overrides p (map f ks) (map g ks)) → (found : Option ℕ) → f k ≡ found → IsTrue (overrides p (found ∷ map f ks) (g k ∷ map g ks))
    cases more None is = more
    cases more (Some m) is =
        let it = each k m is in
        subst (λ o. IsTrue (overrides p (Some m ∷ map f ks) (o ∷ map g ks))) (sym it.1) (and_from (same_signature p m it.0) (overrides p (map f ks) (map g ks)) it.2 more)

instance_of : (a b : Bool) → a ≡ false → beq a b ≡ true → b ≡ false
instance_of true b is same = absurd (false≢true (sym is))
instance_of false true is same = absurd (false≢true same)
instance_of false false is same = refl

module _ (tree : FileTree) (constants : List (ℕ × Option Scalar)) (none : of_members (declaration_faults (env_with (table_of tree) tree [])) 18 tree.classes ≡ [])
    (is_table : IsTable (table_of tree)) (short : (c : ℕ) (row : ClassRow) → slice_get (table_of tree).classes c ≡ Some row → length row.line ≤ length (table_of tree).classes) (clear : Clear (Breaks tree)) where
  abbrev table : ClassTable
  table = table_of tree

  abbrev p : Program
  p = program_with table tree constants

  abbrev at : ℕ → ℕ → Option ℕ
  at k d = first_picked k (methods_at (symbols tree constants none) d)

  -- what selector k picks in class c, by the class that declares it
  pub record ChosenIn (c k it : ℕ) : Type 0 where
    pub class : ℕ
    pub below : IsTrue (is_below (symbols tree constants none) c class)
    pub picked : PickedIn tree constants none class k it

  pub chosen_in : (c k it : ℕ) → chosen_method (symbols tree constants none) c k ≡ Some it → ChosenIn c k it
  chosen_in c k it is =
      let near = nearest_in (at k) (line_of (symbols tree constants none) c) it is in
      record { class = near.0; below = near.1; picked = picked_in tree constants none near.0 k it near.2 }

  -- ---- it is an instance method that the class or a superclass declares

  chosen_right : (c k : ℕ) → IsTrue (is_chosen p c (chosen_method (symbols tree constants none) c k))
  chosen_right c k = cases (chosen_method (symbols tree constants none) c k) refl
    where
      cases : (found : Option ℕ) → chosen_method (symbols tree constants none) c k ≡ found → IsTrue (is_chosen p c found)
      cases None is = refl
      cases (Some it) is =
          let found = chosen_in c k it is in
          let method = found.picked.program.method in
          ap (λ found. option_map_or (λ method. method.on_object && is_subclass p.classes c method.owner) found false) found.picked.program.found
          ∙ and_from method.on_object (is_subclass p.classes c method.owner)
          (found.picked.program.is.on_object ∙ ap not found.picked.found.instance)
          (ap (is_subclass p.classes c) found.picked.program.is.owner ∙ sym (same_below table tree constants is_table short c found.class) ∙ found.below)

  pub all_chosen : (c : ℕ) → IsTrue (list_all (is_chosen p c) (chosen_of (symbols tree constants none) c))
  all_chosen c =
      let numbers = range_with_len 0 (length (all_selectors tree constants none)) in
      list_all-map (is_chosen p c) (chosen_method (symbols tree constants none) c) numbers
      ∙ all_from (λ k. is_chosen p c (chosen_method (symbols tree constants none) c k)) numbers (λ n k is. chosen_right c k)

  -- ---- it fits what is picked in the superclass

  same_again : (c k it : ℕ) → ChosenIn c k it → IsTrue (same_signature p it it)
  same_again c k it found = let method = found.picked.program.method in same_methods p it it method method found.picked.program.found found.picked.program.found refl refl

  -- a method that class c declares, over one of a superclass
  over_it : (c : ℕ) (line : List ℕ) (k m it : ℕ) (d : ℕ) → PickedIn tree constants none c k it → (row : ClassRow) → slice_get table.classes c ≡ Some row → row.line ≡ c ∷ line → IsTrue (list_any (λ a. a == d) line) → PickedIn tree constants none d k m → IsTrue (same_signature p m it)
  over_it c line k m it d mine row is_row line_is above theirs =
      let y = mine.found.row in
      let same_row : row ≡ mine.row = same_Some _ _ (sym is_row ∙ mine.is_row) in
      let stands : IsTrue (list_any (λ a. a == d) (drop 1 mine.row.line)) = subst (λ r. IsTrue (list_any (λ a. a == d) (drop 1 r.line))) same_row (subst (λ l. IsTrue (list_any (λ a. a == d) (drop 1 l))) (sym line_is) above) in
      let same = one_place (all_selectors tree constants none) (selector_of y) (selector_of theirs.found.row) k mine.found.selector theirs.found.selector in
      let a = find_there (λ m. same_selector (selector_of y) (selector_of m)) theirs.row.methods theirs.found.place theirs.found.row theirs.found.is_row same in
      let over = overrides_it tree clear c mine.row mine.found.place y d theirs.row a.0 mine.is_row mine.found.is_row stands theirs.is_row a.1 in
      let instance = instance_of (is_static y.mods) (is_static a.0.mods) mine.found.instance over.static in
      let it_is : a.0 ≡ theirs.found.row = theirs.found.first (selector_of y) mine.found.selector a.0 a.1 instance in
      let types = over.types (all_names tree constants none) in
      let params : theirs.program.method.params ≡ mine.program.method.params = theirs.program.is.params ∙ ap (λ r. declared_types (all_names tree constants none) r.params) (sym it_is) ∙ sym types.0 ∙ sym mine.program.is.params in
      let answer : theirs.program.method.answer ≡ mine.program.method.answer = theirs.program.is.answer ∙ ap (λ r. answer_type (all_names tree constants none) r.answer) (sym it_is) ∙ sym types.1 ∙ sym mine.program.is.answer in
      same_methods p m it theirs.program.method mine.program.method theirs.program.found mine.program.found params answer

  module _ (c b : ℕ) (row above : ClassRow) (is_row : slice_get table.classes c ≡ Some row) (is_above : slice_get table.classes b ≡ Some above) (line : row.line ≡ c ∷ above.line) where
    chosen_over : (k m : ℕ) → chosen_method (symbols tree constants none) b k ≡ Some m → (it : ℕ) × (chosen_method (symbols tree constants none) c k ≡ Some it) × IsTrue (same_signature p m it)
    chosen_over k m is = cases (at k c) refl
      where
        in_line : chosen_method (symbols tree constants none) c k ≡ option_or (at k c) (nearest (at k) above.line)
        in_line = ap (nearest (at k)) (line_is tree constants none is_table short c row is_row ∙ line)

        higher : nearest (at k) above.line ≡ Some m
        higher = ap (nearest (at k)) (sym (line_is tree constants none is_table short b above is_above)) ∙ is

        cases : (found : Option ℕ) → at k c ≡ found → (it : ℕ) × (chosen_method (symbols tree constants none) c k ≡ Some it) × IsTrue (same_signature p m it)
        cases None here = (m, in_line ∙ ap (λ o. option_or o (nearest (at k) above.line)) here ∙ higher, same_again b k m (chosen_in b k m is))
        cases (Some it) here =
            let theirs = chosen_in b k m is in
            let stands = subst (λ line. IsTrue (list_any (λ a. a == theirs.class) line)) (line_is tree constants none is_table short b above is_above) theirs.below in (
              it,
              in_line ∙ ap (λ o. option_or o (nearest (at k) above.line)) here,
              over_it c above.line k m it theirs.class (picked_in tree constants none c k it here) row is_row line stands theirs.picked,
            )

    all_over : IsTrue (overrides p (chosen_of (symbols tree constants none) b) (chosen_of (symbols tree constants none) c))
    all_over = over_map p (chosen_method (symbols tree constants none) b) (chosen_method (symbols tree constants none) c) (range_with_len 0 (length (all_selectors tree constants none))) chosen_over

  pub overrides_right : (c : ℕ) (row : ClassRow) → slice_get table.classes c ≡ Some row → IsTrue (overrides p (chosen_above p (core_class (env_with table tree constants) tree c row)) (chosen_of (symbols tree constants none) c))
  overrides_right c row is = cases row.parent refl
    where
      cases : (parent : Option ℕ) → row.parent ≡ parent → IsTrue (overrides p (option_map_or (λ above. above.chosen) (option_and_then (λ b. slice_get p.classes b) row.parent) []) (chosen_of (symbols tree constants none) c))
      cases None is_parent = ap (λ q. overrides p (option_map_or (λ above. above.chosen) (option_and_then (λ b. slice_get p.classes b) q) []) (chosen_of (symbols tree constants none) c)) is_parent
      cases (Some b) is_parent =
          let above = row_above tree constants none is_table short c b row is is_parent in
          ap (λ q. overrides p (option_map_or (λ above. above.chosen) (option_and_then (λ b. slice_get p.classes b) q) []) (chosen_of (symbols tree constants none) c)) is_parent
          ∙ ap (λ found. overrides p (option_map_or (λ above. above.chosen) found []) (chosen_of (symbols tree constants none) c)) (class_there tree constants b above.0 above.1)
          ∙ all_over c b row above.0 is above.1 above.2

  -- ---- `getMessage` below Throwable

  number_0 : (c : ℕ) (row : ClassRow) → slice_get table.classes c ≡ Some row → typing.chosen_number p c 0 ≡ chosen_method (symbols tree constants none) c 0
  number_0 c row is =
      ap (option_and_then (λ class. option_and_then (λ m. m) (slice_get class.chosen 0))) (class_there tree constants c row is)
      ∙ ap (λ all. option_and_then (λ m. m) (slice_get (map (chosen_method (symbols tree constants none) c) (range_with_len 0 (length all))) 0)) (first_selector table.classes).1

  message_method : (c it : ℕ) (row : ClassRow) → slice_get table.classes c ≡ Some row → IsTrue (is_below (symbols tree constants none) c 1) → ChosenIn c 0 it → IsTrue (is_message_method (slice_get p.methods it))
  message_method c it row is below found =
      let d = found.class in
      let y = found.picked.found.row in
      let all = all_selectors tree constants none in
      let line = line_is tree constants none is_table short c row is in
      let same : same_selector (selector_of y) message_selector ≡ true =
      ap (λ all. same_selector (selector_of y) (get_or all 0 message_selector)) (sym (first_selector table.classes).1) ∙ (position-Some (same_selector (selector_of y)) all 0 message_selector found.picked.found.selector).1 in
      let under = messages.below_throwable tree constants none is_table short clear c row d found.picked.least is (subst (λ l. IsTrue (list_any (λ a. a == d) l)) line found.below) (subst (λ l. IsTrue (list_any (λ a. a == 1) l)) line below) in
      let same_row : under.0 ≡ found.picked.row = same_Some _ _ (sym under.1 ∙ found.picked.is_row) in
      let answer = messages.overrides tree constants none is_table short clear d found.picked.row found.picked.found.place y found.picked.least found.picked.is_row (subst (λ r. IsTrue (list_any (λ a. a == 1) r.line)) same_row under.2) found.picked.found.is_row same in
      let arity : length y.params ≡ 0 = eqb-true (length y.params) 0 (second_so (same_name y.name message_selector.name) (nat_eq (length y.params) 0) same) in
      let method = found.picked.program.method in
      let params : method.params ≡ [] = found.picked.program.is.params ∙ ap (declared_types (all_names tree constants none)) (empty_of_length y.params arity) in
      ap is_message_method found.picked.program.found
      ∙ and_from (typed.same_types method.params []) (is_string method.answer) (ap (λ ts. typed.same_types ts []) params) (ap is_string (found.picked.program.is.answer ∙ answer) ∙ facts.is_string-Text)

  pub message_right : (c : ℕ) (row : ClassRow) → slice_get table.classes c ≡ Some row → IsTrue (not (is_throwable p c) || is_message_method (typing.chosen_method p c 0))
  message_right c row is = cases (is_throwable p c) refl
    where
      of_number : (found : Option ℕ) → chosen_method (symbols tree constants none) c 0 ≡ found → IsTrue (is_below (symbols tree constants none) c 1) → IsTrue (is_message_method (option_and_then (λ m. slice_get p.methods m) found))
      of_number None is_it below = refl
      of_number (Some it) is_it below = message_method c it row is below (chosen_in c 0 it is_it)

      cases : (b : Bool) → is_throwable p c ≡ b → IsTrue (not b || is_message_method (typing.chosen_method p c 0))
      cases false other = refl
      cases true throwable =
          let below = sym (throwable_below tree constants none is_table short c) ∙ throwable in
          ap (λ number. is_message_method (option_and_then (λ m. slice_get p.methods m) number)) (number_0 c row is)
          ∙ of_number (chosen_method (symbols tree constants none) c 0) refl below
