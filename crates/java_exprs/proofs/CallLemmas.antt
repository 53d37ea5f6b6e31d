-- Lemmas on calls.
use Rattle.std.proofs.Common.{◌≡◌, ℕ, Bool, true, false, not, ◌&&◌, List, [], ◌∷◌, ◌++◌, Option, Some, None, refl, sym, subst, inl}
use Rattle.std.specs.Prelude.{Result}
use Rattle.core_tree.specs.declared.ty.Ty.{Ty}
use Rattle.core_tree.specs.Types.{class_of, is_string}
use Rattle.core_tree.specs.declared.expr.Expr.{Expr as Core}
use Rattle.core_tree.specs.declared.expr.Expr.TheVariants as core
use Rattle.token_reading.specs.declared.fault.Fault.{Fault}
use Rattle.token_reading.specs.declared.fault.CheckError.{CheckError}
use Rattle.token_reading.specs.declared.fault.CheckError.TheVariants as error
use Rattle.token_reading.specs.declared.name.Ident.{Ident}
use Rattle.java_syntax.specs.declared.expression.Expr.TheOpen.{Expr-F}
use Rattle.java_names.specs.declared.symbol.MethodSymbol.{MethodSymbol}
use Rattle.java_names.specs.declared.scope.Scope.{Scope}
use Rattle.java_names.specs.Lookups.{is_accessible}
use Rattle.java_exprs.specs.declared.environment.Environment.{Environment}
use Rattle.java_exprs.specs.declared.qualifier.Qualifier.TheVariants as qualifier
use Rattle.java_denotes.specs.declared.through.Through.TheVariants as through
use Rattle.java_denotes.specs.declared.denotation.Denotation.{Denotation}
use Rattle.java_denotes.specs.declared.denotation.Denotation.TheVariants as denotes
use Rattle.java_exprs.specs.declared.typed.Form.{Form}
use Rattle.java_exprs.specs.declared.typed.Form.TheVariants as form
use Rattle.java_exprs.specs.declared.typed.Typed.{Typed}
use Rattle.java_exprs.specs.declared.value.Value.{Value}
use Rattle.java_exprs.specs.Attr.{Attr, of_rule, only_if, unless, is_no_value, nothing_11, value_faults, values_faults, prefix_faults}
use Rattle.java_exprs.specs.Calls.{qualifier_of, calling_of, call_faults, call_attr, print_attr, text_faults, text_attr}
use Rattle.java_exprs.specs.Checks.{Checks, attr_at, clean, of_value, of_values}
use Rattle.java_names.specs.Refusals.{Has, Refuses}
use Rattle.java_denotes.specs.Denotes.{text_method}
use Rattle.java_exprs.specs.Lookups.{superclass_of}
use Rattle.java_exprs.specs.Members.{Calling}
use Rattle.java_exprs.specs.Resolved.{cores, text_core}
use Rattle.java_exprs.specs.Rules.{method_at, is_misplaced, needs_this, wants_each, calling_10, calling_11, calling_12, calling_13, rule_10, rule_11, rule_12, rule_13, broken_here}
use Rattle.java_exprs.proofs.RulesLemmas.{no_faults, has_there, refuses_here, refuses_there}
use Rattle.java_names.proofs.RefusalLemmas.{refuses_left, refuses_right, has_right}

-- ---- what is broken by a call whose method is found

pub refuses_11 : (env : Environment) (s : Scope) (k : Calling) (found : MethodSymbol) (e : CheckError) → method_at env k ≡ Some found
    → Refuses (of_rule 11 (only_if (is_misplaced k.through found) k.name.at ++ wants_each env k.arguments found.params) []) e
    → Refuses (call_faults env s k) e
refuses_11 env s k found e is h = refuses_there 10 (calling_10 env k) _ e (rw is (refuses_here 11 _ _ e h))

pub refuses_13 : (env : Environment) (s : Scope) (k : Calling) (found : MethodSymbol) (e : CheckError) → method_at env k ≡ Some found
    → Refuses (of_rule 13 (unless (is_accessible s.class found.owner found.is_private) k.name.at) []) e → Refuses (call_faults env s k) e
refuses_13 env s k found e is h =
    refuses_there 10 (calling_10 env k) _ e (refuses_there 11 (calling_11 env k) _ e (refuses_there 12 (calling_12 env k) _ e (rw is (refuses_here 13 _ _ e h))))

pub refuses_14 : (env : Environment) (s : Scope) (k : Calling) (found : MethodSymbol) (e : CheckError) → method_at env k ≡ Some found
    → Refuses (of_rule 14 (only_if (s.is_static && (needs_this k.through && not found.is_static)) k.name.at) []) e → Refuses (call_faults env s k) e
refuses_14 env s k found e is h =
    refuses_there 10 (calling_10 env k) _ e (refuses_there 11 (calling_11 env k) _ e (refuses_there 12 (calling_12 env k) _ e (refuses_there 13 (calling_13 env s k) _ e (rw is h))))

-- a fault of rule 14, after those of rules 10 to 13
behind_names : (xs ys zs ws : List ℕ) (test : Bool) (at : ℕ) → test ≡ true
    → Has (of_rule 10 xs (of_rule 11 ys (of_rule 12 zs (of_rule 13 ws (of_rule 14 (only_if test at) []))))) (record { rule = 14; at = at })
behind_names xs ys zs ws test at is =
    has_there 10 xs _ _ (has_there 11 ys _ _ (has_there 12 zs _ _ (has_there 13 ws _ _ (rw is (inl refl)))))

-- `super` where there is no `this`
pub super_in_static : (env : Environment) (s : Scope) (at : ℕ) (m : Ident) (vs : List Value) (e : CheckError)
    → s.is_static ≡ true → e ≡ error.Fault (record { rule = 14; at = at }) → Refuses (attr_at env s (Expr-F.Super at m (of_values vs))).faults e
super_in_static env s at m vs e static is =
    let node = Expr-F.Super at m (of_values vs) in
    let here : Has (broken_here env s node) (record { rule = 14; at = at })
    = behind_names (rule_10 env s node) (rule_11 env s node) (rule_12 env s node) (rule_13 env s node) s.is_static at static in
    rw is (has_right (values_faults (of_values vs)) (broken_here env s node) (record { rule = 14; at = at }) here)

-- ---- what is known of a call, where its parts break nothing

call_known : (env : Environment) (s : Scope) (m : Ident) (vs : List Value)
    → call_attr env s m.at (calling_of (record { at = m.at; through = through.This; class = s.class }) core.This m vs)
    ≡ attr_at env s (Expr-F.Call m (of_values vs))
call_known env s m vs = rw (no_faults vs) refl

super_known : (env : Environment) (s : Scope) (at : ℕ) (m : Ident) (c : ℕ) (vs : List Value)
    → s.is_static ≡ false → superclass_of env s.class ≡ Some c
    → call_attr env s at (calling_of (record { at = at; through = through.Super; class = c }) core.This m vs)
    ≡ attr_at env s (Expr-F.Super at m (of_values vs))
super_known env s at m c vs dynamic found = rw (no_faults vs, dynamic, found) refl

class_known : (env : Environment) (s : Scope) (o : Typed) (c : ℕ) (m : Ident) (vs : List Value) → o.denotes ≡ denotes.Class c → o.needs_minus ≡ false
    → call_attr env s o.at (calling_of (record { at = o.at; through = through.Class; class = c }) core.This m vs)
    ≡ attr_at env s (Expr-F.Method (clean o) m (of_values vs))
class_known env s o c m vs is minus = rw (no_faults vs, is, minus) refl

object_known : (env : Environment) (s : Scope) (o : Value) (c : ℕ) (m : Ident) (vs : List Value) → class_of o.ty ≡ Some c
    → call_attr env s o.at (calling_of (record { at = o.at; through = through.Object; class = c }) o.core m vs)
    ≡ attr_at env s (Expr-F.Method (of_value o) m (of_values vs))
object_known env s o c m vs is = rw (no_faults vs, is) refl

text_known : (env : Environment) (s : Scope) (o : Value) (m : Ident) (vs : List Value) → class_of o.ty ≡ None
    → text_attr env (of_value o) m (of_values vs) ≡ attr_at env s (Expr-F.Method (of_value o) m (of_values vs))
text_known env s o m vs is = rw (no_faults vs, is) refl

print_known : (env : Environment) (s : Scope) (o : Typed) (m : Ident) (vs : List Value) → o.denotes ≡ denotes.Output → o.needs_minus ≡ false
    → print_attr o.at m (of_values vs) ≡ attr_at env s (Expr-F.Method (clean o) m (of_values vs))
print_known env s o m [] is minus = rw (is, minus) refl
print_known env s o m (v ∷ []) is minus = rw (is, minus) refl
print_known env s o m (v ∷ w ∷ vs) is minus = rw (no_faults vs, is, minus) refl

of_parts : (at : ℕ) (d : Option Denotation) (f : Form) (c : Core) (faults : List Fault) (result : Typed)
    → d ≡ Some result.denotes → c ≡ result.core → faults ≡ [] → result.at ≡ at → result.form ≡ f → result.needs_minus ≡ false
    → record { at = at; denotes = d; form = f; needs_minus = false; core = c; faults = faults } ≡ clean result
of_parts at d f c faults result denotes_is core_is none at_is form_is minus_is = cc

-- a method of a String that breaks nothing
pub text_clean : (env : Environment) (o : Value) (m : Ident) (xs : List Attr) (t : Ty) (c : Core)
    → is_string o.ty ≡ true → text_method m.name ≡ Some (denotes.Value t) → ((m : List ℕ) → c ≡ text_core (of_value o) m (cores xs))
    → text_faults env (of_value o) m xs ≡ []
    → text_attr env (of_value o) m xs ≡ clean (record { at = o.at; denotes = denotes.Value t; form = form.Call; needs_minus = false; core = c })
text_clean env o m xs t c text method core_is none =
    of_parts o.at _ form.Call _ _ (record { at = o.at; denotes = denotes.Value t; form = form.Call; needs_minus = false; core = c })
    (rw text method) (sym (core_is m.name)) none refl refl refl

known_checks : (a b : Attr) (result : Result Typed CheckError) → a ≡ b → Checks a result → Checks b result
known_checks a b result is h = subst (λ a. Checks a result) is h

-- what is known of it checks it

pub call_checks : (env : Environment) (s : Scope) (m : Ident) (vs : List Value) (result : Result Typed CheckError)
    → Checks (call_attr env s m.at (calling_of (record { at = m.at; through = through.This; class = s.class }) core.This m vs)) result
    → Checks (attr_at env s (Expr-F.Call m (of_values vs))) result
call_checks env s m vs result = known_checks _ _ result (call_known env s m vs)

pub super_checks : (env : Environment) (s : Scope) (at : ℕ) (m : Ident) (c : ℕ) (vs : List Value) (result : Result Typed CheckError)
    → s.is_static ≡ false → superclass_of env s.class ≡ Some c
    → Checks (call_attr env s at (calling_of (record { at = at; through = through.Super; class = c }) core.This m vs)) result
    → Checks (attr_at env s (Expr-F.Super at m (of_values vs))) result
super_checks env s at m c vs result dynamic found = known_checks _ _ result (super_known env s at m c vs dynamic found)

pub object_checks : (env : Environment) (s : Scope) (o : Value) (c : ℕ) (m : Ident) (vs : List Value) (result : Result Typed CheckError) → class_of o.ty ≡ Some c
    → Checks (call_attr env s o.at (calling_of (record { at = o.at; through = through.Object; class = c }) o.core m vs)) result
    → Checks (attr_at env s (Expr-F.Method (of_value o) m (of_values vs))) result
object_checks env s o c m vs result is = known_checks _ _ result (object_known env s o c m vs is)

pub text_checks : (env : Environment) (s : Scope) (o : Value) (m : Ident) (vs : List Value) (result : Result Typed CheckError) → class_of o.ty ≡ None
    → Checks (text_attr env (of_value o) m (of_values vs)) result → Checks (attr_at env s (Expr-F.Method (of_value o) m (of_values vs))) result
text_checks env s o m vs result is = known_checks _ _ result (text_known env s o m vs is)

-- ---- what stands before the dot

is_class : (d : Denotation) (c : ℕ) → qualifier_of d ≡ Some (qualifier.Class c) → d ≡ denotes.Class c
is_class (denotes.Class d) c is = cc
is_class denotes.Output c is = cc
is_class denotes.System c is = cc
is_class (denotes.Value t) c is = cc
is_class denotes.Nothing c is = cc
is_class (denotes.Print p) c is = cc

is_output : (d : Denotation) → qualifier_of d ≡ Some qualifier.Output → d ≡ denotes.Output
is_output (denotes.Class d) is = cc
is_output denotes.Output is = cc
is_output denotes.System is = cc
is_output (denotes.Value t) is = cc
is_output denotes.Nothing is = cc
is_output (denotes.Print p) is = cc

is_value : (d : Denotation) → qualifier_of d ≡ Some qualifier.Value → is_no_value (Some d) ≡ false
is_value (denotes.Class d) is = cc
is_value denotes.Output is = cc
is_value denotes.System is = cc
is_value (denotes.Value t) is = refl
is_value denotes.Nothing is = refl
is_value (denotes.Print p) is = refl

pub class_checks : (env : Environment) (s : Scope) (o : Typed) (c : ℕ) (m : Ident) (vs : List Value) (result : Result Typed CheckError)
    → qualifier_of o.denotes ≡ Some (qualifier.Class c) → o.needs_minus ≡ false
    → Checks (call_attr env s o.at (calling_of (record { at = o.at; through = through.Class; class = c }) core.This m vs)) result
    → Checks (attr_at env s (Expr-F.Method (clean o) m (of_values vs))) result
class_checks env s o c m vs result is minus = known_checks _ _ result (class_known env s o c m vs (is_class o.denotes c is) minus)

pub print_checks : (env : Environment) (s : Scope) (o : Typed) (m : Ident) (vs : List Value) (result : Result Typed CheckError)
    → qualifier_of o.denotes ≡ Some qualifier.Output → o.needs_minus ≡ false
    → Checks (print_attr o.at m (of_values vs)) result → Checks (attr_at env s (Expr-F.Method (clean o) m (of_values vs))) result
print_checks env s o m vs result is minus = known_checks _ _ result (print_known env s o m vs (is_output o.denotes is) minus)

pub value_checks : (env : Environment) (s : Scope) (o : Typed) (v : Value) (m : Ident) (vs : List Value) (result : Result Typed CheckError)
    → clean o ≡ of_value v
    → Checks (attr_at env s (Expr-F.Method (of_value v) m (of_values vs))) result → Checks (attr_at env s (Expr-F.Method (clean o) m (of_values vs))) result
value_checks env s o v m vs result is h = subst (λ a. Checks (attr_at env s (Expr-F.Method a m (of_values vs))) result) (sym is) h

-- the faults of what stands before the dot, where it is no value
of_value_faults : (a : Attr) → is_no_value a.denotes ≡ false → value_faults a ≡ prefix_faults a
of_value_faults a is = rw is refl

pub value_refused : (env : Environment) (s : Scope) (o : Typed) (m : Ident) (vs : List Value) (e : CheckError)
    → qualifier_of o.denotes ≡ Some qualifier.Value → Refuses (value_faults (clean o)) e
    → Refuses (attr_at env s (Expr-F.Method (clean o) m (of_values vs))).faults e
value_refused env s o m vs e is h =
    refuses_left (prefix_faults (clean o) ++ values_faults (of_values vs)) (broken_here env s (Expr-F.Method (clean o) m (of_values vs))) e
    (refuses_left (prefix_faults (clean o)) (values_faults (of_values vs)) e
    (subst (λ fs. Refuses fs e) (of_value_faults (clean o) (is_value o.denotes is)) h))

-- the number 2147483648 before a dot
bare_refused : (a : Attr) → a.needs_minus ≡ true → Has (prefix_faults a) (record { rule = 19; at = a.at })
bare_refused a is = has_right a.faults _ _ (has_there 11 (nothing_11 a) _ _ (rw is (inl refl)))

pub minus_refused : (env : Environment) (s : Scope) (o : Typed) (m : Ident) (vs : List Value) (e : CheckError)
    → o.needs_minus ≡ true → e ≡ error.Fault (record { rule = 19; at = o.at })
    → Refuses (attr_at env s (Expr-F.Method (clean o) m (of_values vs))).faults e
minus_refused env s o m vs e minus is =
    refuses_left (prefix_faults (clean o) ++ values_faults (of_values vs)) (broken_here env s (Expr-F.Method (clean o) m (of_values vs))) e
    (refuses_left (prefix_faults (clean o)) (values_faults (of_values vs)) e (rw is (bare_refused (clean o) minus)))

-- `System` before the dot
pub system_refused : (env : Environment) (s : Scope) (o : Typed) (m : Ident) (vs : List Value) (e : CheckError)
    → o.denotes ≡ denotes.System → e ≡ error.Fault (record { rule = 10; at = m.at })
    → Refuses (attr_at env s (Expr-F.Method (clean o) m (of_values vs))).faults e
system_refused env s o m vs e system is =
    refuses_right (prefix_faults (clean o) ++ values_faults (of_values vs)) (broken_here env s (Expr-F.Method (clean o) m (of_values vs))) e
    (rw (is, system) (inl refl))
