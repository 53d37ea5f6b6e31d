-- The method that a file's program begins with is static and takes a String[].
use Rattle.std.proofs.Common.{◌≡◌, ◌∙◌, inl, inr, ℕ, suc, ◌+◌, Bool, true, false, not, ◌||◌, ◌&&◌, ◌==◌, IsTrue, List, [], ◌∷◌, ◌++◌, map, codes, Option, Some, None, is_some, option_map, slice_get, get_or, refl, sym, ap}
use Rattle.std.specs.Prelude.{is_none, position, unwrap_or}
use Rattle.std.specs.List.{flat_map, list_any}
use Rattle.std.specs.Option.{option_map_or}
use Rattle.std.specs.Cmp.Lexicographic.{same_text}
use Rattle.std.proofs.lemmas.Option.{none-some, slice_get-map, slice_get-get_or}
use Rattle.std.proofs.lemmas.Bool.{false≢true, eqb-true, and_from}
use Rattle.std.proofs.lemmas.List.{map-append}
use Rattle.std.proofs.lemmas.List.Folds.{list_any-append}
use Rattle.std.proofs.lemmas.List.Quantifiers.{position-Some}
use Rattle.std.specs.Cmp.{first_so, second_so}
use Rattle.core_tree.specs.declared.ty.Ty.TheVariants as ty
use Rattle.core_tree.specs.declared.ty.Ty.TheViews as type
use Rattle.core_tree.specs.declared.program.Method.{Method}
use Rattle.core_tree.specs.Types.{is_same_type}
use Rattle.core_tree.specs.WellTyped.{same_types}
use Rattle.core_tree.specs.WellTyped as typed
use Rattle.token_reading.specs.declared.name.BaseType.{BaseType}
use Rattle.token_reading.specs.declared.name.BaseType.TheVariants as base
use Rattle.token_reading.specs.declared.name.TypeTree.{TypeTree}
use Rattle.java_syntax.specs.declared.class.Member.{Member}
use Rattle.java_syntax.specs.declared.class.Member.TheVariants as member
use Rattle.java_syntax.specs.declared.class.MethodTree.{MethodTree}
use Rattle.java_syntax.specs.declared.class.ClassTree.{ClassTree}
use Rattle.java_syntax.specs.declared.class.FileTree.{FileTree}
use Rattle.class_table.specs.declared.row.ClassTable.{ClassTable}
use Rattle.class_table.specs.BuiltIn.{built_in}
use Rattle.class_table.specs.Declarations.{declarations, declared_of}
use Rattle.class_table.specs.Faults.{Clear}
use Rattle.class_table.specs.Members.{methods_in, method_row, is_static, types_of}
use Rattle.class_table.specs.Names.{Name, class_names, same_name}
use Rattle.class_table.specs.Rules.{Breaks, is_main, is_string_array, main_name}
use Rattle.class_table.specs.Rules as rules
use Rattle.class_table.specs.Table.{table_of}
use Rattle.java_names.specs.Types.{arrays, base_type, declared_types, named_type}
use Rattle.java_exprs.specs.declared.environment.Environment.{Environment}
use Rattle.primitive_operators.specs.declared.scalar.Scalar.{Scalar}
use Rattle.java_members.specs.Bodies.{core_method}
use Rattle.java_members.specs.Files.{of_members, own_method, method_tree, method_trees}
use Rattle.java_names.proofs.NumberingLemmas.{is_some-position}
use Rattle.typing_law.proofs.SameTypes.{same_refl}
use Rattle.typing_law.proofs.Tables.{env_with, program_with}
use Rattle.typing_law.proofs.FileMakers.{found_by}

-- ---- the methods of a file, each with the number of its class

record Numbered : Type 0 where
  class : ℕ
  tree : MethodTree

own_numbered : ℕ → Member → List Numbered
own_numbered c (member.Method m) = record { class = c; tree = m } ∷ []
own_numbered c _ = []

module _ (env : Environment) where
  abbrev resolved : Numbered → Method
  resolved m = core_method env m.class m.tree

  own_resolved : (c : ℕ) (members : List Member) → map resolved (flat_map (own_numbered c) members) ≡ flat_map (own_method env c) members
  unfolding own_numbered
  own_resolved c [] = refl
  own_resolved c (member.Method m ∷ more) = ap (λ ms. core_method env c m ∷ ms) (own_resolved c more)
  own_resolved c (_ ∷ more) = own_resolved c more

  all_resolved : (n : ℕ) (ks : List ClassTree) → map resolved (of_members own_numbered n ks) ≡ of_members (own_method env) n ks
  unfolding of_members
  all_resolved n [] = refl
  all_resolved n (k ∷ ks) =
      map-append resolved (flat_map (own_numbered n) k.members) (of_members own_numbered (suc n) ks)
      ∙ ap (λ ms. ms ++ map resolved (of_members own_numbered (suc n) ks)) (own_resolved n k.members) ∙ ap (λ ms. flat_map (own_method env n) k.members ++ ms) (all_resolved (suc n) ks)

own_trees : (c : ℕ) (members : List Member) → map (λ m. m.tree) (flat_map (own_numbered c) members) ≡ flat_map method_tree members
unfolding own_numbered
own_trees c [] = refl
own_trees c (member.Method m ∷ more) = ap (λ ms. m ∷ ms) (own_trees c more)
own_trees c (_ ∷ more) = own_trees c more

all_trees : (n : ℕ) (ks : List ClassTree) → map (λ m. m.tree) (of_members own_numbered n ks) ≡ flat_map (λ k. flat_map method_tree k.members) ks
unfolding of_members
all_trees n [] = refl
all_trees n (k ∷ ks) =
    map-append (λ m. m.tree) (flat_map (own_numbered n) k.members) (of_members own_numbered (suc n) ks)
    ∙ ap (λ ms. ms ++ map (λ m. m.tree) (of_members own_numbered (suc n) ks)) (own_trees n k.members) ∙ ap (λ ms. flat_map method_tree k.members ++ ms) (all_trees (suc n) ks)

-- a method of the file stands at its number in the program
method_there : (env : Environment) (n : ℕ) (ks : List ClassTree) (i : ℕ) (m : MethodTree) → slice_get (flat_map (λ k. flat_map method_tree k.members) ks) i ≡ Some m → (c : ℕ) × (slice_get (of_members (own_method env) n ks) i ≡ Some (core_method env c m))
method_there env n ks i m is =
    let all = of_members own_numbered n ks in
    let found = found_by (λ m. m.tree) (slice_get all i) m (sym (slice_get-map (λ m. m.tree) all i) ∙ ap (λ ms. slice_get ms i) (all_trees n ks) ∙ is) in (
      found.0.class,
      ap (λ ms. slice_get ms i) (sym (all_resolved env n ks)) ∙ slice_get-map (resolved env) all i ∙ ap (option_map (resolved env)) found.1 ∙ ap (λ t. Some (core_method env found.0.class t)) (sym found.2),
    )

-- ---- one of them is `main` (rule 7)

tree_is_main : MethodTree → Bool
tree_is_main m = is_main (method_row m)

own_main : (members : List Member) → list_any is_main (methods_in members) ≡ list_any tree_is_main (flat_map method_tree members)
unfolding tree_is_main
own_main [] = refl
own_main (member.Method m ∷ more) = ap (λ b. is_main (method_row m) || b) (own_main more)
own_main (_ ∷ more) = own_main more

all_main : (known : List Name) (n : ℕ) (ks : List ClassTree) → list_any (λ d. list_any is_main d.methods) (declarations known n ks) ≡ list_any tree_is_main (flat_map (λ k. flat_map method_tree k.members) ks)
all_main known n [] = refl
all_main known n (k ∷ ks) =
    ap (λ b. b || list_any (λ d. list_any is_main d.methods) (declarations known (n + 1) ks)) (own_main k.members) ∙ ap (λ b. list_any tree_is_main (flat_map method_tree k.members) || b) (all_main known (n + 1) ks)
    ∙ sym (list_any-append tree_is_main (flat_map method_tree k.members) (flat_map (λ k. flat_map method_tree k.members) ks))

no_built_main : list_any (λ d. list_any is_main d.methods) built_in ≡ false
unfolding built_in
no_built_main = refl

declared_main : (ks : List ClassTree) → list_any (λ d. list_any is_main d.methods) (declared_of ks) ≡ list_any tree_is_main (flat_map (λ k. flat_map method_tree k.members) ks)
unfolding declared_of
declared_main ks =
    list_any-append (λ d. list_any is_main d.methods) built_in (declarations (class_names ks) 18 ks)
    ∙ ap (λ b. b || list_any (λ d. list_any is_main d.methods) (declarations (class_names ks) 18 ks)) no_built_main ∙ all_main (class_names ks) 18 ks

-- ---- what `main` is

string_base : (names : List Name) (b : BaseType) → rules.is_string b ≡ true → base_type names b ≡ Some ty.Text
string_base names (base.Class c) is = ap (named_type names) (same_text c.name (codes "String") (sym is))
string_base names _ is = absurd (false≢true is)

string_array : (names : List Name) (types : List TypeTree) → is_string_array types ≡ true → declared_types names types ≡ ty.Array ty.Text ∷ []
string_array names (t ∷ []) is =
    let dimensions = eqb-true t.dimensions 1 (second_so (rules.is_string t.base) (t.dimensions == 1) is) in
    ap (λ b. unwrap_or (option_map (arrays t.dimensions) b) ty.Void ∷ []) (string_base names t.base (first_so (rules.is_string t.base) (t.dimensions == 1) is))
    ∙ ap (λ n. arrays n ty.Text ∷ []) dimensions
string_array names _ is = absurd (false≢true is)

module _ (tree : FileTree) (constants : List (ℕ × Option Scalar)) (clear : Clear (Breaks tree)) where
  abbrev table : ClassTable
  table = table_of tree

  some_main : list_any tree_is_main (method_trees tree) ≡ true
  some_main = cases (list_any (λ d. list_any is_main d.methods) (declared_of tree.classes)) refl
    where
      cases : (b : Bool) → list_any (λ d. list_any is_main d.methods) (declared_of tree.classes) ≡ b → list_any tree_is_main (method_trees tree) ≡ true
      cases true is = sym (declared_main tree.classes) ∙ is
      cases false is = absurd (clear.none (record { rule = 7; at = 0 }) (inr (inr (inr (inr (inr (inr (inl (record { rule_is = refl; holds = (is, refl) })))))))))

  main_typed : (env : Environment) (c : ℕ) (m : MethodTree) → is_main (method_row m) ≡ true → IsTrue (typed.is_main (core_method env c m))
  main_typed env c m is =
      let row = method_row m in
      let a = same_name row.name main_name in
      let b = is_static row.mods in
      let d = is_none row.answer in
      let e = is_string_array row.params in
      let array = string_array env.symbols.names row.params (second_so ((a && b) && d) e is) in
      let static = second_so a b (first_so (a && b) d (first_so ((a && b) && d) e is)) in
      and_from (not (not (is_static m.mods))) (same_types (declared_types env.symbols.names (types_of m.params)) (type.Array ty.Text ∷ []))
      (ap (λ s. not (not s)) static)
      (ap (λ ts. same_types ts (type.Array ty.Text ∷ [])) array ∙ and_from (is_same_type (ty.Array ty.Text) (type.Array ty.Text)) true (same_refl (ty.Array ty.Text)) refl)

  -- the program begins with such a method
  pub main_there : IsTrue (option_map_or typed.is_main (slice_get (program_with table tree constants).methods (program_with table tree constants).main) false)
  unfolding tree_is_main
  main_there = cases (position tree_is_main (method_trees tree)) refl (is_some-position tree_is_main (method_trees tree) ∙ some_main)
    where
      env : Environment
      env = env_with table tree constants

      cases : (found : Option ℕ) → position tree_is_main (method_trees tree) ≡ found → is_some found ≡ true → IsTrue (option_map_or typed.is_main (slice_get (program_with table tree constants).methods (program_with table tree constants).main) false)
      cases None is some = absurd (false≢true some)
      cases (Some n) is some =
          let trees = method_trees tree in
          let first = some_first trees n is in
          let there = method_there (env_with table tree constants) 18 tree.classes n first.0 first.1 in
          ap (λ at. option_map_or typed.is_main (slice_get (program_with table tree constants).methods (unwrap_or at 0)) false) is
          ∙ ap (λ found. option_map_or typed.is_main found false) there.1
          ∙ main_typed (env_with table tree constants) there.0 first.0 first.2
        where
          some_first : (trees : List MethodTree) (n : ℕ) → position tree_is_main trees ≡ Some n → (m : MethodTree) × (slice_get trees n ≡ Some m) × (is_main (method_row m) ≡ true)
          some_first [] n is = absurd (none-some n is)
          some_first (t ∷ trees) n is =
              let found = position-Some tree_is_main (t ∷ trees) n t is in
              (get_or (t ∷ trees) n t, slice_get-get_or (t ∷ trees) n t found.0, found.1)
