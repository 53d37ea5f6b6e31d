-- Each method and each constructor of a file's program is well typed.
use Rattle.std.proofs.Common.{◌≡◌, ◌∙◌, ℕ, ◌+◌, true, IsTrue, List, [], ◌∷◌, ◌++◌, Option, Some, slice_get, refl, sym, ap}
use Rattle.std.specs.List.{flat_map, list_all}
use Rattle.std.proofs.lemmas.Bool.{and_from}
use Rattle.std.proofs.lemmas.List.Folds.{list_all-append}
use Rattle.core_tree.specs.declared.program.Program.{Program}
use Rattle.core_tree.specs.WellTyped.{is_method}
use Rattle.core_tree.specs.WellTyped as typed
use Rattle.java_syntax.specs.declared.class.Member.{Member}
use Rattle.java_syntax.specs.declared.class.Member.TheVariants as member
use Rattle.java_syntax.specs.declared.class.ClassTree.{ClassTree}
use Rattle.java_syntax.specs.declared.class.FileTree.{FileTree}
use Rattle.token_reading.specs.declared.name.ParamTree.{ParamTree}
use Rattle.class_table.specs.declared.row.ClassTable.{ClassTable}
use Rattle.class_table.specs.Faults.{Clear}
use Rattle.class_table.specs.Rules.{Breaks}
use Rattle.class_table.specs.Table.{table_of}
use Rattle.java_names.specs.declared.scope.Scope.{Scope}
use Rattle.java_exprs.specs.declared.environment.Environment.{Environment}
use Rattle.primitive_operators.specs.declared.scalar.Scalar.{Scalar}
use Rattle.java_exprs.specs.Lookups.{unknown_type}
use Rattle.java_statements.specs.Statements.{again_10, exception_10}
use Rattle.java_members.specs.Bodies.{core_method, core_maker, made_maker}
use Rattle.java_members.specs.Declarations.{answer_10, declaration_faults, params_10, with_param}
use Rattle.java_names.specs.Scope.{maker_scope, method_scope}
use Rattle.java_members.specs.Files.{of_members, of_made, is_maker, where_none, member_faults, made_faults, own_method, own_maker}
use Rattle.typing_law.specs.Agrees.{Agrees, IsOfFile}
use Rattle.typing_law.proofs.Members.{method_right, maker_right, made_right}
use Rattle.typing_law.proofs.NoFaults.{empty_parts}
use Rattle.typing_law.proofs.Tables.{env_with, program_with, class_within}
use Rattle.typing_law.proofs.FileClasses.{none_10, of_class}
use Rattle.typing_law.proofs.WholeLists.{all_members, all_made, none_made, none_of}
use Rattle.typing_law.proofs.WholeClasses.{of_file}

module _ (tree : FileTree) (constants : List (ℕ × Option Scalar)) (none : of_members (declaration_faults (env_with (table_of tree) tree [])) 18 tree.classes ≡ []) (clear : Clear (Breaks tree))
    (agrees : Agrees (env_with (table_of tree) tree constants) (program_with (table_of tree) tree constants)) where
  abbrev table : ClassTable
  table = table_of tree

  abbrev first : Environment
  first = env_with table tree []

  abbrev env : Environment
  env = env_with table tree constants

  abbrev p : Program
  p = program_with table tree constants

  -- what is known of types is the same with and without constants
  same_params : (params : List ParamTree) (s : Scope) → params_10 first params s ≡ params_10 env params s
  unfolding params_10
  same_params [] s = refl
  same_params (q ∷ qs) s = ap (λ more. (unknown_type env q.ty ++ again_10 s q.name) ++ more) (same_params qs (with_param env q s))

  -- the declaration of each member breaks no rule
  pub declared_clear : (j : ℕ) (k : ClassTree) → slice_get tree.classes j ≡ Some k → (i : ℕ) (m : Member) → slice_get k.members i ≡ Some m → declaration_faults first (18 + j) m ≡ []
  declared_clear j k is_k i m is_m = none_of (declaration_faults first (18 + j)) k.members i m (of_class (declaration_faults first) 18 tree.classes j k none is_k) is_m

  -- ---- methods

  method_typed : (c : ℕ) (m : Member) → IsOfFile env p c → declaration_faults first c m ≡ [] → member_faults env c m ≡ [] → IsTrue (list_all (is_method p) (own_method env c m))
  method_typed c (member.Method m) file declared body =
      let here = none_10 first p (class_within table tree constants) c (member.Method m) declared in
      let parts = empty_parts (answer_10 first m.answer) (params_10 first m.params (method_scope first.symbols c m) ++ flat_map (exception_10 first) m.throws) here in
      let params = (empty_parts (params_10 first m.params (method_scope first.symbols c m)) (flat_map (exception_10 first) m.throws) parts.1).0 in
      and_from (is_method p (core_method env c m)) true (method_right env p agrees c m file parts.0 (sym (same_params m.params (method_scope first.symbols c m)) ∙ params) body) refl
  method_typed c _ file declared body = refl

  pub methods_typed : of_members (member_faults env) 18 tree.classes ≡ [] → IsTrue (list_all (is_method p) p.methods)
  methods_typed bodies = all_members (is_method p) (own_method env) 18 tree.classes (λ j k is_k i m is_m.
      method_typed (18 + j) m (of_file tree constants clear j k is_k) (declared_clear j k is_k i m is_m)
      (none_of (member_faults env (18 + j)) k.members i m (of_class (member_faults env) 18 tree.classes j k bodies is_k) is_m))

  -- ---- constructors

  maker_typed : (c : ℕ) (m : Member) → IsOfFile env p c → declaration_faults first c m ≡ [] → member_faults env c m ≡ [] → IsTrue (list_all (typed.is_maker p) (own_maker env c m))
  maker_typed c (member.Maker m) file declared body =
      let here = none_10 first p (class_within table tree constants) c (member.Maker m) declared in
      let params = (empty_parts (params_10 first m.params (maker_scope c)) (flat_map (exception_10 first) m.throws) here).0 in
      and_from (typed.is_maker p (core_maker env c m)) true (maker_right env p agrees c m file (sym (same_params m.params (maker_scope c)) ∙ params) body) refl
  maker_typed c _ file declared body = refl

  -- a constructor that is made for a class without one
  made_typed : (c : ℕ) (k : ClassTree) (makers : List Member) → IsOfFile env p c → where_none makers (made_faults env c k) ≡ [] → IsTrue (list_all (typed.is_maker p) (where_none makers (made_maker env c ∷ [])))
  made_typed c k [] file none = and_from (typed.is_maker p (made_maker env c)) true (made_right env p agrees c k.name.at file none) refl
  made_typed c k (m ∷ makers) file none = refl

  pub makers_typed : of_members (member_faults env) 18 tree.classes ≡ [] → of_made (made_faults env) 18 tree.classes ≡ [] → IsTrue (list_all (typed.is_maker p) p.makers)
  makers_typed bodies made =
      let written = of_members (own_maker env) 18 tree.classes in
      let others = of_made (λ c k. made_maker env c ∷ []) 18 tree.classes in
      list_all-append (typed.is_maker p) written others
      ∙ and_from (list_all (typed.is_maker p) written) (list_all (typed.is_maker p) others)
      (all_members (typed.is_maker p) (own_maker env) 18 tree.classes (λ j k is_k i m is_m.
      maker_typed (18 + j) m (of_file tree constants clear j k is_k) (declared_clear j k is_k i m is_m)
      (none_of (member_faults env (18 + j)) k.members i m (of_class (member_faults env) 18 tree.classes j k bodies is_k) is_m)))
      (all_made (typed.is_maker p) (λ c k. made_maker env c ∷ []) 18 tree.classes (λ j k is_k.
      made_typed (18 + j) k (flat_map is_maker k.members) (of_file tree constants clear j k is_k) (none_made (made_faults env) 18 tree.classes j k made is_k)))
