-- The rows of a file's classes, and what their declarations break.
use Rattle.std.proofs.Common.{◌≡◌, ◌∙◌, ℕ, zero, suc, ◌+◌, ◌-◌, ◌≤◌, ◌||◌, IsTrue, List, [], ◌∷◌, ◌++◌, length, Option, Some, None, option_map, slice_get, refl, subst, sym, ap, arith, nat_lt}
use Rattle.std.specs.List.{flat_map, list_all}
use Rattle.std.proofs.lemmas.Option.{none-some, same_Some}
use Rattle.std.proofs.lemmas.Bool.{and_from, or_left, or_right}
use Rattle.core_tree.specs.declared.ty.Ty.TheVariants as ty
use Rattle.core_tree.specs.Types.{is_void}
use Rattle.token_reading.specs.declared.name.TypeTree.{TypeTree}
use Rattle.core_tree.proofs.TypeFacts as facts
use Rattle.core_tree.specs.declared.program.Program.{Program}
use Rattle.core_tree.specs.WellTyped.{is_value}
use Rattle.java_syntax.specs.declared.class.Member.{Member}
use Rattle.java_syntax.specs.declared.class.Member.TheVariants as member
use Rattle.java_syntax.specs.declared.class.ClassTree.{ClassTree}
use Rattle.token_reading.specs.declared.name.ParamTree.{ParamTree}
use Rattle.class_table.specs.declared.row.ClassRow.{ClassRow}
use Rattle.class_table.specs.declared.row.MakerRow.{MakerRow}
use Rattle.class_table.specs.declared.row.MethodRow.{MethodRow}
use Rattle.class_table.specs.Names.{Name, class_names}
use Rattle.class_table.specs.BuiltIn.{built_in}
use Rattle.class_table.specs.Declarations.{declaration, declarations, declared_of}
use Rattle.class_table.specs.Members.{makers_in, methods_in, maker_row, method_row, types_of}
use Rattle.class_table.specs.Table.{row_of, rows_from}
use Rattle.java_names.specs.declared.scope.Scope.{Scope}
use Rattle.java_names.specs.Types.{declared_type, declared_types, answer_type}
use Rattle.java_exprs.specs.declared.environment.Environment.{Environment}
use Rattle.java_exprs.specs.Attr.{of_rule}
use Rattle.java_exprs.specs.Lookups.{class_named, unknown_type}
use Rattle.java_statements.specs.Statements.{again_10, exception_10}
use Rattle.java_members.specs.Declarations.{with_param, params_10, answer_10, declared_10, declared_11, declared_20, declaration_faults}
use Rattle.java_names.specs.Scope.{method_scope, maker_scope}
use Rattle.java_members.specs.Files.{of_members}
use Rattle.typing_law.proofs.NoFaults.{empty_parts, empty_rule}
use Rattle.typing_law.proofs.Spelled.{declared_value}
use Rattle.typing_law.proofs.Tables.{row_at}
use Rattle.typing_law.proofs.Found.{numbers_one}

-- ---- rows

pub declaration_at : (known : List Name) (n : ℕ) (ks : List ClassTree) (j : ℕ) → slice_get (declarations known n ks) j ≡ option_map (declaration known (n + j)) (slice_get ks j)
declaration_at known n [] j = refl
declaration_at known n (k ∷ ks) zero = let e : n ≡ n + 0 = omega arith in ap (λ m. Some (declaration known m k)) e
declaration_at known n (k ∷ ks) (suc j) = declaration_at known (n + 1) ks j ∙ ap (λ m. option_map (declaration known m) (slice_get ks j)) (numbers_one n j)

pub behind : (ks : List ClassTree) (j : ℕ) → slice_get (declared_of ks) (suc (suc (suc (suc (suc (suc (suc (suc (suc (suc (suc (suc (suc (suc (suc (suc (suc (suc j)))))))))))))))))) ≡ option_map (declaration (class_names ks) (18 + j)) (slice_get ks j)
unfolding declared_of built_in
behind ks j = declaration_at (class_names ks) 18 ks j

found_both : {X Y Z : Type 0} (f : X → Y) (g : Y → Z) (found : Option X) (z : Z) → option_map g (option_map f found) ≡ Some z → (x : X) × (found ≡ Some x) × (z ≡ g (f x))
found_both f g None z is = absurd (none-some z is)
found_both f g (Some x) z is = (x, refl, sym (same_Some _ _ is))

-- the class of the file that has a row
pub record HasTree (ks : List ClassTree) (c : ℕ) (row : ClassRow) : Type 0 where
  pub tree : ClassTree
  pub place : slice_get ks (c - 18) ≡ Some tree
  pub row_is : row ≡ row_of (declared_of ks) c (declaration (class_names ks) c tree)

pub tree_at : (ks : List ClassTree) (c : ℕ) (row : ClassRow) → 18 ≤ c → slice_get (rows_from (declared_of ks) 0 (declared_of ks)) c ≡ Some row → HasTree ks c row
tree_at ks c row least is =
    let shape : suc (suc (suc (suc (suc (suc (suc (suc (suc (suc (suc (suc (suc (suc (suc (suc (suc (suc (c - 18)))))))))))))))))) ≡ c = omega arith in
    let place : 18 + (c - 18) ≡ c = omega arith in
    let from : 0 + c ≡ c = omega arith in
    let there = found_both (declaration (class_names ks) (18 + (c - 18))) (row_of (declared_of ks) (0 + c)) (slice_get ks (c - 18)) row
    (ap (option_map (row_of (declared_of ks) (0 + c))) (sym (behind ks (c - 18)) ∙ ap (slice_get (declared_of ks)) shape) ∙ sym (row_at (declared_of ks) 0 (declared_of ks) c) ∙ is) in
    record { tree = there.0; place = there.1; row_is = there.2 ∙ ap (λ m. row_of (declared_of ks) (0 + c) (declaration (class_names ks) m there.0)) place ∙ ap (λ m. row_of (declared_of ks) m (declaration (class_names ks) c there.0)) from }

-- ---- faults of declarations

pub of_class : {X : Type 0} (give : ℕ → Member → List X) (n : ℕ) (ks : List ClassTree) (j : ℕ) (k : ClassTree) → of_members give n ks ≡ [] → slice_get ks j ≡ Some k → flat_map (give (n + j)) k.members ≡ []
unfolding of_members
of_class give n [] j k none is = absurd (none-some k is)
of_class give n (h ∷ ks) zero k none is =
    let e : n ≡ n + 0 = omega arith in
    ap (λ m. flat_map (give m) k.members) (sym e) ∙ ap (λ k. flat_map (give n) k.members) (sym (same_Some h k is)) ∙ (empty_parts (flat_map (give n) h.members) (of_members give (suc n) ks) none).0
of_class give n (h ∷ ks) (suc j) k none is =
    let e : suc n + j ≡ n + suc j = omega arith in
    ap (λ m. flat_map (give m) k.members) (sym e) ∙ of_class give (suc n) ks j k (empty_parts (flat_map (give n) h.members) (of_members give (suc n) ks) none).1 is

-- what is declared without a fault has types that variables have
module _ (env : Environment) (p : Program) (classes : (x : Name) (c : ℕ) → class_named env x ≡ Some c → IsTrue (nat_lt c (length p.classes))) where
  params_values : (params : List ParamTree) (s : Scope) → params_10 env params s ≡ [] → IsTrue (list_all (is_value p) (declared_types env.symbols.names (types_of params)))
  unfolding params_10
  params_values [] s none = refl
  params_values (q ∷ qs) s none =
      let parts = empty_parts (unknown_type env q.ty ++ again_10 s q.name) (params_10 env qs (with_param env q s)) none in
      and_from (is_value p (declared_type env.symbols.names q.ty)) (list_all (is_value p) (declared_types env.symbols.names (types_of qs)))
      (declared_value env p classes q.ty (empty_parts (unknown_type env q.ty) (again_10 s q.name) parts.0).0) (params_values qs (with_param env q s) parts.1)

  pub none_10 : (c : ℕ) (m : Member) → declaration_faults env c m ≡ [] → declared_10 env c m ≡ []
  none_10 c m none = (empty_rule 10 (declared_10 env c m) (of_rule 11 (declared_11 env m) (of_rule 20 (declared_20 env m) [])) none).0

  pub maker_values : (c : ℕ) (members : List Member) (i : ℕ) (y : MakerRow) → flat_map (declaration_faults env c) members ≡ [] → slice_get (makers_in members) i ≡ Some y → IsTrue (list_all (is_value p) (declared_types env.symbols.names y.params))
  maker_values c [] i y none is = absurd (none-some y is)
  maker_values c (member.Maker m ∷ more) zero y none is =
      let here = none_10 c (member.Maker m) (empty_parts (declaration_faults env c (member.Maker m)) (flat_map (declaration_faults env c) more) none).0 in
      subst (λ r. IsTrue (list_all (is_value p) (declared_types env.symbols.names r.params))) (same_Some (maker_row m) y is) (params_values m.params (maker_scope c) (empty_parts (params_10 env m.params (maker_scope c)) (flat_map (exception_10 env) m.throws) here).0)
  maker_values c (member.Maker m ∷ more) (suc i) y none is = maker_values c more i y (empty_parts (declaration_faults env c (member.Maker m)) (flat_map (declaration_faults env c) more) none).1 is
  maker_values c (x ∷ more) i y none is = maker_values c more i y (empty_parts (declaration_faults env c x) (flat_map (declaration_faults env c) more) none).1 is

  answer_value : (t : Option TypeTree) → answer_10 env t ≡ [] → IsTrue (is_value p (answer_type env.symbols.names t) || is_void (answer_type env.symbols.names t))
  answer_value None none = or_right (is_value p ty.Void) (is_void ty.Void) facts.is_void-Void
  answer_value (Some t) none = or_left (is_value p (declared_type env.symbols.names t)) (is_void (declared_type env.symbols.names t)) (declared_value env p classes t none)

  -- the types of a method's parameters and result
  abbrev pub HasMethodValues : MethodRow → Type 0
  HasMethodValues y = IsTrue (list_all (is_value p) (declared_types env.symbols.names y.params)) × IsTrue (is_value p (answer_type env.symbols.names y.answer) || is_void (answer_type env.symbols.names y.answer))

  pub method_values : (c : ℕ) (members : List Member) (i : ℕ) (y : MethodRow) → flat_map (declaration_faults env c) members ≡ [] → slice_get (methods_in members) i ≡ Some y → HasMethodValues y
  method_values c [] i y none is = absurd (none-some y is)
  method_values c (member.Method m ∷ more) zero y none is =
      let here = none_10 c (member.Method m) (empty_parts (declaration_faults env c (member.Method m)) (flat_map (declaration_faults env c) more) none).0 in
      let parts = empty_parts (answer_10 env m.answer) (params_10 env m.params (method_scope env.symbols c m) ++ flat_map (exception_10 env) m.throws) here in
      subst HasMethodValues (same_Some (method_row m) y is)
      (params_values m.params (method_scope env.symbols c m) (empty_parts (params_10 env m.params (method_scope env.symbols c m)) (flat_map (exception_10 env) m.throws) parts.1).0, answer_value m.answer parts.0)
  method_values c (member.Method m ∷ more) (suc i) y none is = method_values c more i y (empty_parts (declaration_faults env c (member.Method m)) (flat_map (declaration_faults env c) more) none).1 is
  method_values c (x ∷ more) i y none is = method_values c more i y (empty_parts (declaration_faults env c x) (flat_map (declaration_faults env c) more) none).1 is
