-- A file: declarations, then constants, then bodies.
use Rattle.std.proofs.Common.{◌≡◌, ◌∙◌, refl, sym, ap, subst, ℕ, suc, List, [], ◌∷◌, ◌++◌, flat_map, Option, Result, Ok, Err}
use Rattle.std.specs.Prelude.{IfErr}
use Rattle.token_reading.specs.declared.fault.Fault.{Fault}
use Rattle.token_reading.specs.declared.fault.CheckError.{CheckError}
use Rattle.token_reading.specs.declared.name.ParamTree.{ParamTree}
use Rattle.java_syntax.specs.declared.class.Member.{Member}
use Rattle.java_syntax.specs.declared.class.Member.TheVariants as member
use Rattle.java_syntax.specs.declared.class.ClassTree.{ClassTree}
use Rattle.java_syntax.specs.declared.class.FileTree.{FileTree}
use Rattle.core_tree.specs.declared.program.Program.{Program}
use Rattle.class_table.specs.declared.row.ClassTable.{ClassTable}
use Rattle.java_names.specs.declared.scope.Scope.{Scope}
use Rattle.java_exprs.specs.declared.environment.Environment.{Environment}
use Rattle.primitive_operators.specs.declared.scalar.Scalar.{Scalar}
use Rattle.java_exprs.specs.Attr.{of_rule}
use Rattle.java_names.specs.Refusals.{Refuses}
use Rattle.java_exprs.specs.Lookups.{unknown_type}
use Rattle.java_names.proofs.RefusalLemmas.{refuses_left}
use Rattle.java_statements.specs.Statements.{again_10, exception_10, exception_11}
use Rattle.java_members.specs.Declarations.{answer_10, params_10, with_param, method_words_20, maker_words_20, declaration_faults}
use Rattle.java_names.specs.Scope.{method_scope, maker_scope}
use Rattle.java_members.specs.Constants.{read_classes, with_constants}
use Rattle.java_members.specs.Answers.{faults_in, read_in}
use Rattle.core_tree.specs.BuiltIn.{first_class}
use Rattle.java_members.specs.Files.{first_env, env_of, reading_of, of_members, of_made, member_faults, made_faults, declared_faults, body_faults, faults_of, program_in, program_of}
use Rattle.java_members.proofs.FileLemmas.{refuses_declared, refuses_first_of, refuses_second, then_body}

-- ---- declarations read no constants

module _ (env : Environment) (cs : List (ℕ × Option Scalar)) where
  params_same : (ps : List ParamTree) (s : Scope) → params_10 (with_constants env cs) ps s ≡ params_10 env ps s
  unfolding params_10
  params_same [] s = refl
  params_same (p ∷ ps) s = ap (λ (more : List ℕ). (unknown_type env p.ty ++ again_10 s p.name) ++ more) (params_same ps (with_param env p s))

  declaration_same : (c : ℕ) (m : Member) → declaration_faults (with_constants env cs) c m ≡ declaration_faults env c m
  declaration_same c (member.Field f) = refl
  declaration_same c (member.Method m) =
      ap (λ (places : List ℕ). of_rule 10 (answer_10 env m.answer ++ (places ++ flat_map (exception_10 env) m.throws))
      (of_rule 11 (flat_map (exception_11 env) m.throws) (of_rule 20 (method_words_20 m.mods m.name.at) [])))
      (params_same m.params (method_scope env.symbols c m))
  declaration_same c (member.Maker m) =
      ap (λ (places : List ℕ). of_rule 10 (places ++ flat_map (exception_10 env) m.throws)
      (of_rule 11 (flat_map (exception_11 env) m.throws) (of_rule 20 (maker_words_20 m.mods m.name.at) [])))
      (params_same m.params (maker_scope c))
  declaration_same c member.Empty = refl

  in_class_same : (c : ℕ) (ms : List Member) → flat_map (declaration_faults (with_constants env cs) c) ms ≡ flat_map (declaration_faults env c) ms
  in_class_same c [] = refl
  in_class_same c (m ∷ ms) =
      ap (λ (fs : List Fault). fs ++ flat_map (declaration_faults (with_constants env cs) c) ms) (declaration_same c m)
      ∙ ap (λ (fs : List Fault). declaration_faults env c m ++ fs) (in_class_same c ms)

  declared_same : (c : ℕ) (ks : List ClassTree) → of_members (declaration_faults (with_constants env cs)) c ks ≡ of_members (declaration_faults env) c ks
  unfolding of_members
  declared_same c [] = refl
  declared_same c (k ∷ ks) =
      ap (λ (fs : List Fault). fs ++ of_members (declaration_faults (with_constants env cs)) (suc c) ks) (in_class_same c k.members)
      ∙ ap (λ (fs : List Fault). flat_map (declaration_faults env c) k.members ++ fs) (declared_same (suc c) ks)

-- ---- the three parts of the check of a file

-- what members break in an environment, and made constructors
abbrev pub member_part : Environment → FileTree → List Fault
member_part env tree = of_members (member_faults env) first_class tree.classes ++ of_made (made_faults env) first_class tree.classes

module _ (table : ClassTable) (tree : FileTree) (first : Environment) (first_is : first ≡ first_env table tree) where
  pub declared_refused : (e : CheckError) → Refuses (of_members (declaration_faults first) first_class tree.classes) e → Refuses (faults_of table tree) e
  unfolding faults_of
  declared_refused e h =
      refuses_declared (declared_faults table tree) (body_faults table tree) e
      (subst (λ (x : Environment). Refuses (of_members (declaration_faults x) first_class tree.classes) e) first_is h)

  module _ (declared : of_members (declaration_faults first) first_class tree.classes ≡ []) where
    whole_is : faults_of table tree ≡ body_faults table tree
    unfolding faults_of
    whole_is =
        then_body (declared_faults table tree) (body_faults table tree)
        (ap (λ (x : Environment). of_members (declaration_faults x) first_class tree.classes) (sym first_is) ∙ declared)

    pub constants_refused : (e : CheckError) → Refuses (read_classes first first_class tree.classes (read_in first)).faults e → Refuses (faults_of table tree) e
    constants_refused e h =
        subst (λ fs. Refuses fs e) (sym whole_is)
        (refuses_left (reading_of table tree).faults (member_part (env_of table tree) tree) e
        (subst (λ (x : Environment). Refuses (read_classes x first_class tree.classes (read_in x)).faults e) first_is h))

    module _ (env : Environment) (same : env ≡ with_constants first env.constants) (read : read_classes first first_class tree.classes (read_in first) ≡ read_in env) where
      reading_is : reading_of table tree ≡ read_in env
      reading_is = ap (λ (x : Environment). read_classes x first_class tree.classes (read_in x)) (sym first_is) ∙ read

      env_is : env ≡ env_of table tree
      env_is =
          same ∙ ap (λ (x : Environment). with_constants x env.constants) first_is
          ∙ ap (with_constants (first_env table tree)) (sym (ap (λ r. r.constants) reading_is))

      pub body_is : faults_of table tree ≡ member_part env tree
      body_is =
          whole_is
          ∙ ap (λ fs. fs ++ member_part (env_of table tree) tree) (ap (λ r. r.faults) reading_is)
          ∙ ap (λ (x : Environment). member_part x tree) (sym env_is)

      pub program_is : program_in env table tree ≡ program_of table tree
      unfolding program_of
      program_is = ap (λ (x : Environment). program_in x table tree) env_is

      still_declared : of_members (declaration_faults env) first_class tree.classes ≡ []
      still_declared =
          ap (λ (x : Environment). of_members (declaration_faults x) first_class tree.classes) same
          ∙ declared_same first env.constants first_class tree.classes ∙ declared

      pub program_refused : (e : CheckError) → Refuses (of_members (faults_in env) first_class tree.classes ++ of_made (made_faults env) first_class tree.classes) e → Refuses (faults_of table tree) e
      program_refused e h =
          subst (λ fs. Refuses fs e) (sym body_is)
          (refuses_first_of (of_members (faults_in env) first_class tree.classes) (of_members (member_faults env) first_class tree.classes) (of_made (made_faults env) first_class tree.classes) e
          (refuses_second (declaration_faults env) (member_faults env) first_class tree.classes e still_declared) h)

      pub program_fault : (r : Result Program CheckError) → IfErr r (Refuses (of_members (faults_in env) first_class tree.classes ++ of_made (made_faults env) first_class tree.classes)) → IfErr r (Refuses (faults_of table tree))
      program_fault (Ok p) h = h
      program_fault (Err e) h = program_refused e h
