-- What a node that breaks no rule says of each rule.
use Rattle.std.proofs.Common.{◌≡◌, Bool, IsTrue, [], Some, inl, refl, ap}
use Rattle.core_tree.specs.declared.ty.Ty.{Ty}
use Rattle.core_tree.specs.declared.ty.Ty.TheVariants as ty
use Rattle.core_tree.specs.declared.expr.Expr.{Expr as Core}
use Rattle.core_tree.specs.declared.program.Program.{Program}
use Rattle.core_tree.specs.Typing.{Scope as CoreScope, type_of, where_true}
use Rattle.java_names.specs.declared.scope.Scope.{Scope}
use Rattle.java_exprs.specs.declared.environment.Environment.{Environment}
use Rattle.java_exprs.specs.Attr.{Node, of_rule}
use Rattle.java_exprs.specs.Rules.{rule_10, rule_11, rule_12, rule_13, rule_14, rule_15, rule_16, rule_19, rule_21, broken_below, broken_here}
use Rattle.java_exprs.specs.Checks.{attr_at}
use Rattle.typing_law.specs.Means.{HasType, has_values}
use Rattle.typing_law.proofs.NoFaults.{empty_parts, empty_rule}
use Rattle.typing_law.proofs.Values.{values_int, values_bool, values_text}

-- no rule is broken at the node or below it
pub record BreaksNone (env : Environment) (s : Scope) (n : Node) : Type 0 where
  pub below : broken_below n ≡ []
  pub rule_10 : rule_10 env s n ≡ []
  pub rule_11 : rule_11 env s n ≡ []
  pub rule_12 : rule_12 env s n ≡ []
  pub rule_14 : rule_14 env s n ≡ []
  pub rule_15 : rule_15 env n ≡ []
  pub rule_16 : rule_16 n ≡ []
  pub rule_19 : rule_19 n ≡ []
  pub rule_21 : rule_21 n ≡ []

pub breaks_none : (env : Environment) (s : Scope) (n : Node) → (attr_at env s n).faults ≡ [] → BreaksNone env s n
breaks_none env s n none =
    let all = empty_parts (broken_below n) (broken_here env s n) none in
    let r21 = of_rule 21 (rule_21 n) [] in
    let r19 = of_rule 19 (rule_19 n) r21 in
    let r16 = of_rule 16 (rule_16 n) r19 in
    let r15 = of_rule 15 (rule_15 env n) r16 in
    let r14 = of_rule 14 (rule_14 env s n) r15 in
    let r13 = of_rule 13 (rule_13 env s n) r14 in
    let r12 = of_rule 12 (rule_12 env s n) r13 in
    let r11 = of_rule 11 (rule_11 env s n) r12 in
    let e10 = empty_rule 10 (rule_10 env s n) r11 all.1 in
    let e11 = empty_rule 11 (rule_11 env s n) r12 e10.1 in
    let e12 = empty_rule 12 (rule_12 env s n) r13 e11.1 in
    let e13 = empty_rule 13 (rule_13 env s n) r14 e12.1 in
    let e14 = empty_rule 14 (rule_14 env s n) r15 e13.1 in
    let e15 = empty_rule 15 (rule_15 env n) r16 e14.1 in
    let e16 = empty_rule 16 (rule_16 n) r19 e15.1 in
    let e19 = empty_rule 19 (rule_19 n) r21 e16.1 in
    record { below = all.0; rule_10 = e10.0; rule_11 = e11.0; rule_12 = e12.0; rule_14 = e14.0; rule_15 = e15.0; rule_16 = e16.0; rule_19 = e19.0; rule_21 = (empty_rule 21 (rule_21 n) [] e19.1).0 }

-- an expression of exactly this type
pub has_type : (p : Program) (s : CoreScope) (core : Core) (t : Ty) → type_of p s core ≡ Some t → IsTrue (has_values p t) → HasType p s core t
has_type p s core t is values = record { actual = t; typed = is; stands = inl refl; values = values }

pub has_type_int : (p : Program) (s : CoreScope) (core : Core) → type_of p s core ≡ Some ty.Int → HasType p s core ty.Int
has_type_int p s core is = has_type p s core ty.Int is (values_int p)

pub has_type_bool : (p : Program) (s : CoreScope) (core : Core) → type_of p s core ≡ Some ty.Bool → HasType p s core ty.Bool
has_type_bool p s core is = has_type p s core ty.Bool is (values_bool p)

pub has_type_text : (p : Program) (s : CoreScope) (core : Core) → type_of p s core ≡ Some ty.Text → HasType p s core ty.Text
has_type_text p s core is = has_type p s core ty.Text is (values_text p)

-- a type where its test holds
pub where_holds : (b : Bool) (t : Ty) → IsTrue b → where_true b t ≡ Some t
where_holds b t is = ap (λ c. where_true c t) is
