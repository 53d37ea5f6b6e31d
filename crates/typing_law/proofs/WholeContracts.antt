-- The methods of a file's program have no contracts, so that each that they have is well typed.
use Rattle.std.proofs.Common.{ℕ, zero, suc, ◌+◌, Bool, true, IsTrue, List, [], ◌∷◌, Option, is_none, slice_get, refl}
use Rattle.std.specs.Option.{option_map_or}
use Rattle.std.specs.List.{list_all}
use Rattle.std.proofs.lemmas.Bool.{and_from, and_parts}
use Rattle.core_tree.specs.declared.program.Method.{Method}
use Rattle.core_tree.specs.declared.program.Program.{Program}
use Rattle.core_tree.specs.TypedContracts.{has_contract, has_contracts}
use Rattle.java_syntax.specs.declared.class.Member.{Member}
use Rattle.java_syntax.specs.declared.class.Member.TheVariants as member
use Rattle.java_syntax.specs.declared.class.FileTree.{FileTree}
use Rattle.class_table.specs.Table.{table_of}
use Rattle.java_exprs.specs.declared.environment.Environment.{Environment}
use Rattle.primitive_operators.specs.declared.scalar.Scalar.{Scalar}
use Rattle.java_members.specs.Bodies.{core_method}
use Rattle.java_members.specs.Files.{own_method}
use Rattle.typing_law.proofs.Tables.{env_with, program_with}
use Rattle.typing_law.proofs.WholeLists.{all_members}

-- a test that all pass, of the one at a place
found_passes : (test : Method → Bool) (methods : List Method) (n : ℕ) → IsTrue (list_all test methods) → IsTrue (option_map_or test (slice_get methods n) true)
found_passes test [] n all = refl
found_passes test (m ∷ ms) zero all = (and_parts (test m) (list_all test ms) all).0
found_passes test (m ∷ ms) (suc n) all = found_passes test ms n (and_parts (test m) (list_all test ms) all).1

module _ (tree : FileTree) (constants : List (ℕ × Option Scalar)) where
  abbrev env : Environment
  env = env_with (table_of tree) tree constants

  abbrev p : Program
  p = program_with (table_of tree) tree constants

  member_passes : (test : Method → Bool) → ((c : ℕ) (m : _) → IsTrue (test (core_method env c m))) → (c : ℕ) (m : Member) → IsTrue (list_all test (own_method env c m))
  member_passes test passes c (member.Method m) = and_from (test (core_method env c m)) true (passes c m) refl
  member_passes test passes c _ = refl

  all_pass : (test : Method → Bool) → ((c : ℕ) (m : _) → IsTrue (test (core_method env c m))) → IsTrue (list_all test p.methods)
  all_pass test passes = all_members test (own_method env) 18 tree.classes (λ j k is_k i m is_m. member_passes test passes (18 + j) m)

  pub contracts_typed : IsTrue (has_contracts p)
  contracts_typed =
      and_from (list_all (has_contract p.classes) p.methods) (option_map_or (λ main. is_none main.contract) (slice_get p.methods p.main) true)
      (all_pass (has_contract p.classes) (λ c m. refl))
      (found_passes (λ main. is_none main.contract) p.methods p.main (all_pass (λ main. is_none main.contract) (λ c m. refl)))
