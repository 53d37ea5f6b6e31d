-- A method that overrides another has the same parameter types and result (rule 6).
use Rattle.std.proofs.Common.{◌≡◌, ◌∙◌, inl, inr, ℕ, ◌+◌, Bool, true, false, not, ◌&&◌, ◌==◌, IsTrue, List, [], ◌∷◌, drop, Option, Some, None, option_map, slice_get, refl, subst, sym, ap, arith}
use Rattle.std.specs.Prelude.{find, option_and_then, unwrap_or}
use Rattle.std.specs.Bool.{beq}
use Rattle.std.specs.List.{list_all, list_any}
use Rattle.std.specs.Option.{option_map_or}
use Rattle.std.specs.Cmp.Lexicographic.{same_text}
use Rattle.std.proofs.lemmas.Bool.{false≢true, and_from, eqb-true}
use Rattle.std.specs.Cmp.{first_so, second_so}
use Rattle.core_tree.specs.declared.ty.Ty.{Ty}
use Rattle.core_tree.specs.declared.ty.Ty.TheVariants as ty
use Rattle.core_tree.specs.declared.program.Method.{Method}
use Rattle.core_tree.specs.declared.program.Program.{Program}
use Rattle.core_tree.specs.Types.{is_same_type}
use Rattle.core_tree.specs.WellTyped.{same_signature}
use Rattle.core_tree.specs.WellTyped as typed
use Rattle.token_reading.specs.declared.name.BaseType.{BaseType}
use Rattle.token_reading.specs.declared.name.BaseType.TheVariants as base
use Rattle.token_reading.specs.declared.name.TypeTree.{TypeTree}
use Rattle.java_syntax.specs.declared.class.FileTree.{FileTree}
use Rattle.class_table.specs.declared.declaration.Declaration.{Declaration}
use Rattle.class_table.specs.declared.row.ClassRow.{ClassRow}
use Rattle.class_table.specs.declared.row.ClassTable.{ClassTable}
use Rattle.class_table.specs.declared.row.MethodRow.{MethodRow}
use Rattle.class_table.specs.Ancestors.{superclasses}
use Rattle.class_table.specs.Declarations.{declared_of}
use Rattle.class_table.specs.Faults.{Clear}
use Rattle.class_table.specs.Index.{signature_of}
use Rattle.class_table.specs.Members.{is_static, is_private, same_base, same_type, same_types, same_answer}
use Rattle.class_table.specs.Names.{Name, class_names}
use Rattle.class_table.specs.Rules.{Breaks, is_allowed, may_override, method_called, is_wrong_over}
use Rattle.class_table.specs.Table.{row_of, table_of}
use Rattle.java_names.specs.Selectors.{same_selector, selector_of}
use Rattle.java_names.specs.Types.{answer_type, arrays, base_type, declared_type, declared_types, named_type}
use Rattle.typing_law.proofs.SameTypes.{same_refl}
use Rattle.typing_law.proofs.Tables.{row_at}
use Rattle.typing_law.proofs.FileMakers.{found_by}
use Rattle.typing_law.proofs.Found.{any_of}

-- ---- types that are spelled alike are the same

module _ (names : List Name) where
  same_bases : (a b : BaseType) → same_base a b ≡ true → base_type names a ≡ base_type names b
  same_bases base.Int base.Int same = refl
  same_bases base.Boolean base.Boolean same = refl
  same_bases (base.Class c) (base.Class d) same = ap (named_type names) (same_text c.name d.name (sym same))
  same_bases _ _ same = absurd (false≢true same)

  same_declared : (a b : TypeTree) → same_type a b ≡ true → declared_type names a ≡ declared_type names b
  same_declared a b same =
      ap (λ n. unwrap_or (option_map (arrays n) (base_type names a.base)) ty.Void) (eqb-true a.dimensions b.dimensions (second_so (same_base a.base b.base) (a.dimensions == b.dimensions) same))
      ∙ ap (λ t. unwrap_or (option_map (arrays b.dimensions) t) ty.Void) (same_bases a.base b.base (first_so (same_base a.base b.base) (a.dimensions == b.dimensions) same))

  pub same_params : (xs ys : List TypeTree) → same_types xs ys ≡ true → declared_types names xs ≡ declared_types names ys
  same_params [] [] same = refl
  same_params [] (y ∷ ys) same = absurd (false≢true same)
  same_params (x ∷ xs) [] same = absurd (false≢true same)
  same_params (x ∷ xs) (y ∷ ys) same =
      ap (λ t. t ∷ declared_types names xs) (same_declared x y (first_so (same_type x y) (same_types xs ys) same))
      ∙ ap (λ ts. declared_type names y ∷ ts) (same_params xs ys (second_so (same_type x y) (same_types xs ys) same))

  pub same_answers : (a b : Option TypeTree) → same_answer a b ≡ true → answer_type names a ≡ answer_type names b
  same_answers None None same = refl
  same_answers (Some a) (Some b) same = same_declared a b same
  same_answers None (Some b) same = absurd (false≢true same)
  same_answers (Some a) None same = absurd (false≢true same)

-- ---- methods with the same types

types_refl : (ts : List Ty) → IsTrue (typed.same_types ts ts)
types_refl [] = refl
types_refl (t ∷ ts) = and_from (is_same_type t t) (typed.same_types ts ts) (same_refl t) (types_refl ts)

pub same_methods : (p : Program) (m k : ℕ) (a b : Method) → slice_get p.methods m ≡ Some a → slice_get p.methods k ≡ Some b → a.params ≡ b.params → a.answer ≡ b.answer → IsTrue (same_signature p m k)
same_methods p m k a b is_a is_b params answer =
    ap (λ found. option_map_or (λ a. option_map_or (λ b. typed.same_types a.params b.params && is_same_type a.answer b.answer) (slice_get p.methods k) false) found false) is_a
    ∙ ap (λ found. option_map_or (λ b. typed.same_types a.params b.params && is_same_type a.answer b.answer) found false) is_b
    ∙ and_from (typed.same_types a.params b.params) (is_same_type a.answer b.answer)
    (subst (λ ts. IsTrue (typed.same_types a.params ts)) params (types_refl a.params)) (subst (λ t. IsTrue (is_same_type a.answer t)) answer (same_refl a.answer))

module _ (tree : FileTree) (clear : Clear (Breaks tree)) where
  abbrev table : ClassTable
  table = table_of tree

  abbrev names : List Name
  names = class_names tree.classes

  abbrev declared : List Declaration
  declared = declared_of tree.classes

  -- the declaration of a row
  pub declared_row : (c : ℕ) (row : ClassRow) → slice_get table.classes c ≡ Some row → (d : Declaration) × (slice_get declared c ≡ Some d) × (row ≡ row_of declared c d)
  declared_row c row is =
      let from : 0 + c ≡ c = omega arith in
      let found = found_by (row_of declared (0 + c)) (slice_get declared c) row (sym (row_at declared 0 declared c) ∙ is) in
      (found.0, found.1, found.2 ∙ ap (λ n. row_of declared n found.0) from)

  -- no method wrongly overrides one of a superclass
  right_over : (c : ℕ) (row : ClassRow) (i : ℕ) (y : MethodRow) (e : ℕ) → slice_get table.classes c ≡ Some row → slice_get row.methods i ≡ Some y → IsTrue (list_any (λ a. a == e) (superclasses declared c)) → is_wrong_over names declared y e ≡ false
  right_over c row i y e is_row is_y above = cases (is_wrong_over names declared y e) refl
    where
      cases : (b : Bool) → is_wrong_over names declared y e ≡ b → b ≡ false
      cases false right = refl
      cases true wrong =
          let d = declared_row c row is_row in
          absurd (clear.none (record { rule = 6; at = y.at }) (inr (inr (inr (inr (inr (inl (record {
            rule_is = refl;
            holds = record {
              number = c;
              element = d.0;
              found = d.1;
              holds = record {
                number = i;
                element = y;
                found = ap (λ r. slice_get r.methods i) (sym d.2) ∙ is_y;
                holds = (any_of (is_wrong_over names declared y) (superclasses declared c) e above wrong, refl);
              };
            };
          }))))))))

  -- a method of class c and the one that a superclass e declares under its signature
  pub record Overrides (y a : MethodRow) : Type 0 where
    pub static : beq (is_static y.mods) (is_static a.mods) ≡ true
    pub types : (names : List Name) → (declared_types names y.params ≡ declared_types names a.params) × (answer_type names y.answer ≡ answer_type names a.answer)

  pub overrides_it : (c : ℕ) (row : ClassRow) (i : ℕ) (y : MethodRow) (e : ℕ) (above : ClassRow) (a : MethodRow) → slice_get table.classes c ≡ Some row → slice_get row.methods i ≡ Some y → IsTrue (list_any (λ a. a == e) (drop 1 row.line)) →
      slice_get table.classes e ≡ Some above → find (λ m. same_selector (selector_of y) (selector_of m)) above.methods ≡ Some a → Overrides y a
  overrides_it c row i y e above a is_row is_y is_above is_e is_a = of_override (may_override names declared y a) refl (sym wrong ∙ right_over c row i y e is_row is_y on_line)
    where
      d : (d : Declaration) × (slice_get declared c ≡ Some d) × (row ≡ row_of declared c d)
      d = declared_row c row is_row

      o : (d : Declaration) × (slice_get declared e ≡ Some d) × (above ≡ row_of declared e d)
      o = declared_row e above is_e

      on_line : IsTrue (list_any (λ a. a == e) (superclasses declared c))
      on_line = subst (λ r. IsTrue (list_any (λ a. a == e) (drop 1 r.line))) d.2 is_above

      called : method_called declared (signature_of y) e ≡ Some a
      called = ap (option_and_then (λ d. find (λ m. same_selector (selector_of y) (selector_of m)) d.methods)) o.1 ∙ ap (λ r. find (λ m. same_selector (selector_of y) (selector_of m)) r.methods) (sym o.2) ∙ is_a

      wrong : is_wrong_over names declared y e ≡ not (may_override names declared y a)
      wrong = ap (λ found. option_map_or (λ a. not (may_override names declared y a)) found false) called

      of_override : (b : Bool) → may_override names declared y a ≡ b → not b ≡ false → Overrides y a
      of_override false is wrong = absurd (false≢true (sym wrong))
      of_override true is wrong =
          let k1 = not (is_private a.mods) in
          let k2 = same_types y.params a.params in
          let k3 = same_answer y.answer a.answer in
          let k4 = beq (is_static y.mods) (is_static a.mods) in
          let k5 = not (is_private y.mods) in
          let k6 = list_all (is_allowed names declared a.throws) y.throws in
          let front = first_so (((k1 && k2) && k3) && k4) k5 (first_so ((((k1 && k2) && k3) && k4) && k5) k6 is) in
          let three = first_so ((k1 && k2) && k3) k4 front in
          let params = second_so k1 k2 (first_so (k1 && k2) k3 three) in
          let answer = second_so (k1 && k2) k3 three in
          record {
            static = second_so ((k1 && k2) && k3) k4 front;
            types = λ names. (same_params names y.params a.params params, same_answers names y.answer a.answer answer);
          }
