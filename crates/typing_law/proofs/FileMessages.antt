-- A `getMessage` that a class below Throwable declares has the parameters and the result of the built-in one (JLS
-- 8.4.8).
use Rattle.std.proofs.Common.{◌≡◌, ◌∙◌, ⊎_elim, ◌⊎◌, inl, inr, ℕ, zero, suc, ◌+◌, ◌≤◌, Bool, true, false, not, ◌||◌, ◌&&◌, ◌==◌, IsTrue, List, [], ◌∷◌, length, drop, codes, Option, Some, None, option_map, slice_get, get_or, refl, subst, sym, ap, arith, if◌then◌else◌}
use Rattle.std.specs.Prelude.{nat_eq, position, unwrap_or, find}
use Rattle.std.specs.Bool.{beq}
use Rattle.std.specs.List.{list_any, list_all}
use Rattle.std.specs.Option.{option_map_or}
use Rattle.std.specs.Cmp.Lexicographic.{same_text}
use Rattle.std.proofs.lemmas.Option.{same_Some}
use Rattle.std.proofs.lemmas.Bool.{false≢true, eqb-true}
use Rattle.std.proofs.lemmas.List.Quantifiers.{position-Some}
use Rattle.std.specs.Cmp.{first_so, second_so}
use Rattle.core_tree.specs.declared.built_in.BuiltIn.TheVariants as built_in_class
use Rattle.core_tree.specs.declared.ty.Ty.TheVariants as ty
use Rattle.core_tree.specs.Typing.{is_throwable}
use Rattle.java_syntax.specs.declared.class.FileTree.{FileTree}
use Rattle.token_reading.specs.declared.fault.Fault.{Fault}
use Rattle.token_reading.specs.declared.name.BaseType.{BaseType}
use Rattle.token_reading.specs.declared.name.BaseType.TheVariants as base
use Rattle.token_reading.specs.declared.name.TypeTree.{TypeTree}
use Rattle.class_table.specs.declared.declaration.Declaration.{Declaration}
use Rattle.class_table.specs.declared.row.ClassRow.{ClassRow}
use Rattle.class_table.specs.declared.row.ClassTable.{ClassTable}
use Rattle.class_table.specs.declared.row.MethodRow.{MethodRow}
use Rattle.class_table.specs.Ancestors.{climb, line_at, superclasses}
use Rattle.class_table.specs.BuiltIn.{built_in, declaration_of, get_message, string_type}
use Rattle.class_table.specs.Declarations.{declared_of}
use Rattle.class_table.specs.Faults.{Clear}
use Rattle.class_table.specs.Index.{signature_of}
use Rattle.class_table.specs.Members.{is_static, is_private, same_base, same_types, same_answer}
use Rattle.class_table.specs.Names.{Name, class_names, same_name}
use Rattle.class_table.specs.Rules.{Breaks, is_allowed, may_override, method_called, is_wrong_over}
use Rattle.class_table.specs.Table.{row_of, table_of}
use Rattle.class_table.specs.TableFacts.{IsTable, line_above}
use Rattle.java_names.specs.declared.symbol.MethodSymbol.{MethodSymbol}
use Rattle.java_names.specs.declared.symbol.Selector.{Selector}
use Rattle.java_names.specs.Lookups.{is_below}
use Rattle.typing_law.proofs.FileChosen.{row_of_below}
use Rattle.java_names.specs.Selectors.{same_selector, selector_of, message_selector}
use Rattle.java_names.specs.Types.{answer_type, arrays, base_type, named_type, declared_types}
use Rattle.primitive_operators.specs.declared.scalar.Scalar.{Scalar}
use Rattle.java_members.specs.Declarations.{declaration_faults}
use Rattle.java_members.specs.Files.{of_members}
use Rattle.typing_law.proofs.Tables.{row_at, env_with, program_with}
use Rattle.typing_law.proofs.FileMakers.{shifted, found_by}
use Rattle.typing_law.proofs.FileMethods.{IsOfFile, all_names, all_selectors, symbols}
use Rattle.typing_law.proofs.FileSelectors.{has_selector, first_selector}
use Rattle.typing_law.proofs.FileLines.{line_cases, line_is, throwable_below}
use Rattle.typing_law.proofs.Found.{empty_of_length, any_of}
use Rattle.std.proofs.Math.Nat.{le_refl}

-- a result that is spelled as String
string_answer : (names : List Name) (t : Option TypeTree) → same_answer t (Some string_type) ≡ true → answer_type names t ≡ ty.Text
string_answer names None same = absurd (false≢true same)
string_answer names (Some a) same =
    of_base a.base (first_so (same_base a.base string_type.base) (a.dimensions == 0) same)
  where
    dimensions : a.dimensions ≡ 0
    dimensions = eqb-true a.dimensions 0 (second_so (same_base a.base string_type.base) (a.dimensions == 0) same)

    of_base : (b : BaseType) → same_base b string_type.base ≡ true → unwrap_or (option_map (arrays a.dimensions) (base_type names b)) ty.Void ≡ ty.Text
    of_base (base.Class c) same =
        ap (λ n. unwrap_or (option_map (arrays n) (base_type names (base.Class c))) ty.Void) dimensions
        ∙ ap (λ x. unwrap_or (option_map (arrays 0) (named_type names x)) ty.Void) (same_text c.name (codes "String") (sym same))
    of_base _ same = absurd (false≢true same)

tail_of : (c d : ℕ) (xs ys : List ℕ) → ◌≡◌ {A = List ℕ} (c ∷ xs) (d ∷ ys) → xs ≡ ys
tail_of c d xs ys is = cc

-- Throwable
throwable_row : (tree : FileTree) → slice_get (table_of tree).classes 1 ≡ Some (row_of (declared_of tree.classes) 1 (declaration_of built_in_class.Throwable))
unfolding declared_of built_in
throwable_row tree = refl

throwable_line : (tree : FileTree) → (row_of (declared_of tree.classes) 1 (declaration_of built_in_class.Throwable)).line ≡ 1 ∷ 0 ∷ []
unfolding declared_of built_in climb
throwable_line tree = refl

throwable_called : (tree : FileTree) (y : MethodRow) → same_selector (selector_of y) message_selector ≡ true → method_called (declared_of tree.classes) (signature_of y) 1 ≡ Some get_message
unfolding declared_of built_in
throwable_called tree y same = found same
  where
    found : same_selector (selector_of y) message_selector ≡ true → find (λ a. same_name y.name a.name && nat_eq (length y.params) (length a.params)) (get_message ∷ []) ≡ Some get_message
    found same = grind (arith, same)

module _ (tree : FileTree) (constants : List (ℕ × Option Scalar)) (none : of_members (declaration_faults (env_with (table_of tree) tree [])) 18 tree.classes ≡ [])
    (is_table : IsTable (table_of tree)) (short : (c : ℕ) (row : ClassRow) → slice_get (table_of tree).classes c ≡ Some row → length row.line ≤ length (table_of tree).classes) (clear : Clear (Breaks tree)) where
  abbrev table : ClassTable
  table = table_of tree

  abbrev stands : ℕ → List ℕ → Type 0
  stands d line = IsTrue (list_any (λ a. a == d) line)

  -- of two classes on a line one is on the line of the other
  chain : (n c : ℕ) (row : ClassRow) (d e : ℕ) → length row.line ≤ n → slice_get table.classes c ≡ Some row → stands d row.line → stands e row.line →
      ((r : ClassRow) × (slice_get table.classes d ≡ Some r) × stands e r.line) ⊎ ((r : ClassRow) × (slice_get table.classes e ≡ Some r) × stands d r.line)
  chain zero c row d e shorter is on_d on_e = absurd (no_line row.line shorter on_d)
    where
      no_line : (line : List ℕ) → length line ≤ 0 → stands d line → ⊥
      no_line [] shorter any = false≢true any
      no_line (a ∷ line) shorter any = absurd (omega arith)
  chain (suc n) c row d e shorter is on_d on_e =
      line_cases tree constants none is_table short c row d {Q = ((r : ClassRow) × (slice_get table.classes d ≡ Some r) × stands e r.line) ⊎ ((r : ClassRow) × (slice_get table.classes e ≡ Some r) × stands d r.line)} is on_d
      (λ same. inl (row, ap (slice_get table.classes) (sym same) ∙ is, on_e))
      (λ q above is_q is_parent line higher_d.
      line_cases tree constants none is_table short c row e {Q = ((r : ClassRow) × (slice_get table.classes d ≡ Some r) × stands e r.line) ⊎ ((r : ClassRow) × (slice_get table.classes e ≡ Some r) × stands d r.line)} is on_e
      (λ same. inr (row, ap (slice_get table.classes) (sym same) ∙ is, on_d))
      (λ k other is_k is_other_parent other_line higher_e.
      let same_lines : other.line ≡ above.line = tail_of c c other.line above.line (sym other_line ∙ line) in
      let lengths = ap length line in
      chain n q above d e (omega arith) is_q higher_d (subst (stands e) same_lines higher_e)))

  too_small : (d : ℕ) → 18 ≤ d → stands d (1 ∷ 0 ∷ []) → ⊥
  too_small d least any = cases (1 == d) refl any
    where
      small : (k : ℕ) → k ≤ 1 → k ≡ d → ⊥
      small k less same = absurd (omega arith)

      zero_case : (b : Bool) → (0 == d) ≡ b → IsTrue (b || false) → ⊥
      zero_case true same any = small 0 (omega arith) (eqb-true 0 d same)
      zero_case false other any = false≢true any

      cases : (b : Bool) → (1 == d) ≡ b → IsTrue (b || list_any (λ a. a == d) (0 ∷ [])) → ⊥
      cases true same any = small 1 (omega arith) (eqb-true 1 d same)
      cases false other any = zero_case (0 == d) refl any

  -- a class of the file that is above a class below Throwable, and on its line, is below Throwable
  pub below_throwable : (c : ℕ) (row : ClassRow) (d : ℕ) → 18 ≤ d → slice_get table.classes c ≡ Some row → stands d row.line → stands 1 row.line → (r : ClassRow) × (slice_get table.classes d ≡ Some r) × stands 1 r.line
  below_throwable c row d least is on_d on_1 = ⊎_elim (λ found. found)
      (λ found. absurd (too_small d least (subst (stands d) (ap (λ r. r.line) (same_Some _ _ (sym found.1 ∙ throwable_row tree)) ∙ throwable_line tree) found.2)))
      (chain (length row.line) c row d 1 (le_refl (length row.line)) is on_d on_1)

  -- rule 6 of a method called `getMessage` without parameters
  pub overrides : (d : ℕ) (row : ClassRow) (i : ℕ) (y : MethodRow) → 18 ≤ d → slice_get table.classes d ≡ Some row → stands 1 row.line → slice_get row.methods i ≡ Some y → same_selector (selector_of y) message_selector ≡ true → answer_type (all_names tree constants none) y.answer ≡ ty.Text
  overrides d row i y least is_row on_1 is_y same =
      string_answer (all_names tree constants none) y.answer (cases (is_wrong_over (class_names tree.classes) (declared_of tree.classes) y 1) refl)
    where
      declared : (e : Declaration) × (slice_get (declared_of tree.classes) d ≡ Some e) × (row ≡ row_of (declared_of tree.classes) (0 + d) e)
      declared = found_by (row_of (declared_of tree.classes) (0 + d)) (slice_get (declared_of tree.classes) d) row (sym (row_at (declared_of tree.classes) 0 (declared_of tree.classes) d) ∙ is_row)

      from : 0 + d ≡ d
      from = omega arith

      line : line_at (declared_of tree.classes) d ≡ d ∷ line_above table.classes row.parent
      line = ap (line_at (declared_of tree.classes)) (sym from) ∙ ap (λ r. r.line) (sym declared.2) ∙ (is_table.rows d row is_row).line

      above : stands 1 (superclasses (declared_of tree.classes) d)
      above = subst (stands 1) (sym (ap (drop 1) line)) (behind (d == 1) refl (subst (stands 1) (is_table.rows d row is_row).line on_1))
        where
          not_one : d ≡ 1 → ⊥
          not_one same = absurd (omega arith)

          behind : (b : Bool) → (d == 1) ≡ b → IsTrue (b || list_any (λ a. a == 1) (line_above table.classes row.parent)) → stands 1 (line_above table.classes row.parent)
          behind true same any = absurd (not_one (eqb-true d 1 same))
          behind false other any = any

      its_fault : Fault
      its_fault = record { rule = 6; at = y.at }

      cases : (b : Bool) → is_wrong_over (class_names tree.classes) (declared_of tree.classes) y 1 ≡ b → same_answer y.answer (Some string_type) ≡ true
      cases true wrong = absurd (clear.none (record { rule = 6; at = y.at }) (inr (inr (inr (inr (inr (inl (record {
        rule_is = refl;
        holds = record {
          number = d;
          element = declared.0;
          found = declared.1;
          holds = record {
            number = i;
            element = y;
            found = ap (λ r. slice_get r.methods i) (sym declared.2) ∙ is_y;
            holds = (any_of (is_wrong_over (class_names tree.classes) (declared_of tree.classes) y) (superclasses (declared_of tree.classes) d) 1 above wrong, refl);
          };
        };
      }))))))))
      cases false right = of_override (may_override (class_names tree.classes) (declared_of tree.classes) y get_message) refl (sym (ap (λ found. option_map_or (λ a. not (may_override (class_names tree.classes) (declared_of tree.classes) y a)) found false) (throwable_called tree y same)) ∙ right)
        where
          of_override : (b : Bool) → may_override (class_names tree.classes) (declared_of tree.classes) y get_message ≡ b → not b ≡ false → same_answer y.answer (Some string_type) ≡ true
          of_override false is wrong = absurd (false≢true (sym wrong))
          of_override true is wrong =
              let a = not (is_private get_message.mods) in
              let b = same_types y.params get_message.params in
              let k = same_answer y.answer get_message.answer in
              let s = beq (is_static y.mods) (is_static get_message.mods) in
              let q = not (is_private y.mods) in
              let t = list_all (is_allowed (class_names tree.classes) (declared_of tree.classes) get_message.throws) y.throws in
              second_so (a && b) k (first_so ((a && b) && k) s (first_so (((a && b) && k) && s) q (first_so ((((a && b) && k) && s) && q) t is)))

  -- a `getMessage` that is called by selector 0 below Throwable
  pub message_is : (c : ℕ) (key : Selector) (m : MethodSymbol) → IsOfFile tree constants none c key m → m.is_static ≡ false → ((unwrap_or m.selector 0 == 0) && is_throwable (program_with table tree constants) c) ≡ true → (m.params ≡ []) × (m.answer ≡ ty.Text)
  unfolding shifted
  message_is c key m it instance is =
      let y = it.found.row in
      let instance_row : is_static y.mods ≡ false = sym (ap (λ s. s.is_static) it.found.is_symbol) ∙ instance in
      let has = has_selector table.classes it.class it.found.place it.row y it.is_row it.found.is_row instance_row in
      let selector : m.selector ≡ Some has.0 = ap (λ s. s.selector) it.found.is_symbol ∙ ap (λ b. if b then None else position (same_selector (selector_of y)) (all_selectors tree constants none)) instance_row ∙ has.1 in
      let zero_is : has.0 ≡ 0 = eqb-true has.0 0 (ap (λ s. unwrap_or s 0 == 0) (sym selector) ∙ first_so (unwrap_or m.selector 0 == 0) (is_throwable (program_with table tree constants) c) is) in
      let first = first_selector table.classes in
      let same : same_selector (selector_of y) message_selector ≡ true =
      ap (λ all. same_selector (selector_of y) (get_or all 0 message_selector)) (sym first.1) ∙ ap (λ k. same_selector (selector_of y) (get_or (all_selectors tree constants none) k message_selector)) (sym zero_is) ∙ (position-Some (same_selector (selector_of y)) (all_selectors tree constants none) has.0 message_selector has.1).1 in
      let below : IsTrue (is_below (symbols tree constants none) c 1) = sym (throwable_below tree constants none is_table short c) ∙ second_so (unwrap_or m.selector 0 == 0) (is_throwable (program_with table tree constants) c) is in
      let row = row_there c 1 below in
      let under = below_throwable c row.0 it.class it.least row.1 (subst (stands it.class) (line_is tree constants none is_table short c row.0 row.1) it.below) (subst (stands 1) (line_is tree constants none is_table short c row.0 row.1) below) in
      let same_row : under.0 ≡ it.row = same_Some _ _ (sym under.1 ∙ it.is_row) in
      let answer = overrides it.class it.row it.found.place y it.least it.is_row (subst (λ r. stands 1 r.line) same_row under.2) it.found.is_row same in
      let arity : length y.params ≡ 0 = eqb-true (length y.params) 0 (second_so (same_name y.name message_selector.name) (nat_eq (length y.params) 0) same) in
      (ap (λ s. s.params) it.found.is_symbol ∙ ap (declared_types (all_names tree constants none)) (empty_of_length y.params arity), ap (λ s. s.answer) it.found.is_symbol ∙ answer)
    where
      row_there : (c d : ℕ) → IsTrue (is_below (symbols tree constants none) c d) → (row : ClassRow) × (slice_get table.classes c ≡ Some row)
      row_there c d below = row_of_below tree constants none is_table short c d below
