-- What is broken in a part of a method or constructor is broken in the member.
use Rattle.std.proofs.Common.{◌≡◌, ◌∙◌, sym, ap, subst, ℕ, List, [], ◌++◌, map, flat_map, append_assoc}
use Rattle.token_reading.specs.declared.fault.Fault.{Fault}
use Rattle.token_reading.specs.declared.fault.CheckError.{CheckError}
use Rattle.java_syntax.specs.declared.expression.Expr.{Expr}
use Rattle.java_syntax.specs.declared.statement.Stmt.{Stmt}
use Rattle.token_reading.specs.declared.name.ParamTree.{ParamTree}
use Rattle.java_syntax.specs.declared.class.MethodTree.{MethodTree}
use Rattle.java_syntax.specs.declared.class.MakerTree.{MakerTree}
use Rattle.java_syntax.specs.declared.class.Member.TheVariants as member
use Rattle.java_names.specs.declared.scope.Scope.{Scope}
use Rattle.java_exprs.specs.declared.environment.Environment.{Environment}
use Rattle.java_exprs.specs.Attr.{of_rule, values_faults}
use Rattle.java_names.specs.Refusals.{Refuses}
use Rattle.java_exprs.specs.Checks.{attr}
use Rattle.java_names.proofs.RefusalLemmas.{refuses_left, refuses_right}
use Rattle.java_exprs.proofs.RulesLemmas.{refuses_here, refuses_there, both_places}
use Rattle.java_statements.specs.Effects.{sequence}
use Rattle.java_statements.specs.Statements.{effect, exception_10}
use Rattle.java_members.specs.Declarations.{answer_10, params_10, with_params, declaration_faults}
use Rattle.java_names.specs.Scope.{method_scope, maker_scope}
use Rattle.java_names.specs.Beginnings.{beginning}
use Rattle.java_members.specs.Bodies.{parent_faults, maker_effects, given_of, params_scope}
use Rattle.java_members.specs.Files.{member_faults}
use Rattle.java_members.specs.Answers.{faults_in}

-- places of rule 10 that a declaration has among others
among_10 : (as_first ps more : List ℕ) (others : List Fault) (e : CheckError) → Refuses (of_rule 10 ps []) e → Refuses (of_rule 10 (as_first ++ (ps ++ more)) others) e
among_10 as_first ps more others e h =
    subst (λ fs. Refuses fs e) (sym (both_places 10 as_first (ps ++ more) others ∙ ap (of_rule 10 as_first) (both_places 10 ps more others)))
    (refuses_there 10 as_first (of_rule 10 ps (of_rule 10 more others)) e (refuses_here 10 ps (of_rule 10 more others) e h))

module _ (env : Environment) (c : ℕ) (m : MethodTree) (ps : List ParamTree) (s : Scope) (e : CheckError) (params_are : ps ≡ m.params) (scope_is : s ≡ method_scope env.symbols c m) where
  pub method_params_refused : Refuses (of_rule 10 (params_10 env ps s) []) e → Refuses (faults_in env c (member.Method m)) e
  method_params_refused h =
      refuses_left (declaration_faults env c (member.Method m)) (member_faults env c (member.Method m)) e
      (among_10 (answer_10 env m.answer) (params_10 env m.params (method_scope env.symbols c m)) (flat_map (exception_10 env) m.throws) _ e
      (subst (λ (t : Scope). Refuses (of_rule 10 (params_10 env m.params t) []) e) scope_is (subst (λ (qs : List ParamTree). Refuses (of_rule 10 (params_10 env qs s) []) e) params_are h)))

  pub method_body_refused : (inside : Scope) (body : List Stmt) → inside ≡ with_params env ps s → body ≡ m.body
      → Refuses (sequence (map (effect env) body) inside).faults e → Refuses (faults_in env c (member.Method m)) e
  method_body_refused inside body inside_is body_is h =
      refuses_right (declaration_faults env c (member.Method m)) (member_faults env c (member.Method m)) e
      (subst (λ (t : Scope). Refuses (sequence (map (effect env) m.body) t).faults e) (inside_is ∙ ap (λ (qs : List ParamTree). with_params env qs s) params_are ∙ ap (with_params env m.params) scope_is)
      (subst (λ (b : List Stmt). Refuses (sequence (map (effect env) b) inside).faults e) body_is h))

-- what a call of the superclass's constructor breaks, at a token with some arguments in a scope
abbrev call_faults : Environment → ℕ → Scope → List Expr → ℕ → List Fault
call_faults env c s given at = values_faults (map (attr env s) given) ++ parent_faults env c at (map (attr env s) given)

module _ (env : Environment) (c : ℕ) (m : MakerTree) (ps : List ParamTree) (s : Scope) (e : CheckError) (params_are : ps ≡ m.params) (scope_is : s ≡ maker_scope c) where
  pub maker_params_refused : Refuses (of_rule 10 (params_10 env ps s) []) e → Refuses (faults_in env c (member.Maker m)) e
  maker_params_refused h =
      refuses_left (declaration_faults env c (member.Maker m)) (member_faults env c (member.Maker m)) e
      (among_10 [] (params_10 env m.params (maker_scope c)) (flat_map (exception_10 env) m.throws) _ e
      (subst (λ (t : Scope). Refuses (of_rule 10 (params_10 env m.params t) []) e) scope_is (subst (λ (qs : List ParamTree). Refuses (of_rule 10 (params_10 env qs s) []) e) params_are h)))

  module _ (inside : Scope) (inside_is : inside ≡ with_params env ps s) (body : List Stmt) (body_is : body ≡ m.body) where
    scope_of : inside ≡ params_scope env c m
    scope_of = inside_is ∙ ap (λ (qs : List ParamTree). with_params env qs s) params_are ∙ ap (with_params env m.params) scope_is

    pub maker_parent_refused : (at : ℕ) (given : List Expr) → at ≡ (beginning m.name.at body).at → given ≡ (beginning m.name.at body).given
        → Refuses (values_faults (map (attr env inside) given) ++ parent_faults env c at (map (attr env inside) given)) e → Refuses (faults_in env c (member.Maker m)) e
    maker_parent_refused at given at_is given_is h =
        refuses_right (declaration_faults env c (member.Maker m)) (member_faults env c (member.Maker m)) e
        (subst (λ fs. Refuses fs e) (append_assoc (values_faults (given_of env c m)) (parent_faults env c (beginning m.name.at m.body).at (given_of env c m)) (maker_effects env c m).faults)
        (refuses_left (values_faults (given_of env c m) ++ parent_faults env c (beginning m.name.at m.body).at (given_of env c m)) (maker_effects env c m).faults e
        (subst (λ (t : Scope). Refuses (call_faults env c t (beginning m.name.at m.body).given (beginning m.name.at m.body).at) e) scope_of
        (subst (λ (a : ℕ). Refuses (call_faults env c inside (beginning m.name.at m.body).given a) e) (at_is ∙ ap (λ (b : List Stmt). (beginning m.name.at b).at) body_is)
        (subst (λ (es : List Expr). Refuses (call_faults env c inside es at) e) (given_is ∙ ap (λ (b : List Stmt). (beginning m.name.at b).given) body_is) h)))))

    pub maker_body_refused : (rest : List Stmt) → rest ≡ (beginning m.name.at body).rest → Refuses (sequence (map (effect env) rest) inside).faults e → Refuses (faults_in env c (member.Maker m)) e
    maker_body_refused rest rest_is h =
        refuses_right (declaration_faults env c (member.Maker m)) (member_faults env c (member.Maker m)) e
        (refuses_right (values_faults (given_of env c m)) _ e
        (refuses_right (parent_faults env c (beginning m.name.at m.body).at (given_of env c m)) (maker_effects env c m).faults e
        (subst (λ (t : Scope). Refuses (sequence (map (effect env) (beginning m.name.at m.body).rest) t).faults e) scope_of
        (subst (λ (b : List Stmt). Refuses (sequence (map (effect env) b) inside).faults e) (rest_is ∙ ap (λ (b : List Stmt). (beginning m.name.at b).rest) body_is) h))))
