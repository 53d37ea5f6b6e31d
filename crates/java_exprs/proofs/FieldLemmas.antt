-- Lemmas on names after a dot.
use Rattle.std.proofs.Common.{◌≡◌, ℕ, true, false, [], ◌++◌, Some, refl, sym, ap, subst, inl}
use Rattle.std.specs.Prelude.{Result}
use Rattle.core_tree.specs.declared.ty.Ty.{Ty}
use Rattle.core_tree.specs.declared.expr.Expr.{Expr as Core}
use Rattle.core_tree.specs.declared.expr.Expr.TheVariants as core
use Rattle.token_reading.specs.declared.fault.CheckError.{CheckError}
use Rattle.token_reading.specs.declared.fault.CheckError.TheVariants as error
use Rattle.token_reading.specs.declared.name.Ident.{Ident}
use Rattle.java_syntax.specs.declared.expression.Expr.TheOpen.{Expr-F}
use Rattle.java_names.specs.declared.symbol.FieldSymbol.{FieldSymbol}
use Rattle.java_names.specs.declared.scope.Scope.{Scope}
use Rattle.java_exprs.specs.declared.environment.Environment.{Environment}
use Rattle.java_exprs.specs.declared.receiver.Receiver.{Receiver}
use Rattle.java_denotes.specs.declared.through.Through.TheVariants as through
use Rattle.java_denotes.specs.declared.denotation.Denotation.TheVariants as denotes
use Rattle.java_denotes.specs.declared.denotation.Printing.{Printing}
use Rattle.java_exprs.specs.declared.typed.Typed.{Typed}
use Rattle.java_exprs.specs.declared.value.Value.{Value}
use Rattle.java_exprs.specs.Attr.{Attr, nothing_11, value_faults, prefix_faults}
use Rattle.java_exprs.specs.Checks.{Checks, attr_at, clean, of_value}
use Rattle.java_names.specs.Refusals.{Has, Refuses}
use Rattle.java_exprs.specs.Fields.{field_attr, naming_attr, naming_of, output_attr}
use Rattle.java_denotes.specs.Members.{named_member}
use Rattle.java_exprs.specs.Rules.{broken_here}
use Rattle.java_names.proofs.RefusalLemmas.{refuses_left, refuses_right, has_right}
use Rattle.java_exprs.proofs.RulesLemmas.{has_there}

known_checks : (a b : Attr) (result : Result Typed CheckError) → a ≡ b → Checks a result → Checks b result
known_checks a b result is h = subst (λ a. Checks a result) is h

-- ---- what is known

class_known : (env : Environment) (s : Scope) (o : Typed) (c : ℕ) (f : Ident) → o.denotes ≡ denotes.Class c → o.needs_minus ≡ false
    → naming_attr env s (record { at = o.at; through = through.Class; class = c }) core.This f ≡ attr_at env s (Expr-F.Field (clean o) f)
class_known env s o c f is minus = rw (is, minus) refl

output_known : (env : Environment) (s : Scope) (o : Typed) (f : Ident) → o.denotes ≡ denotes.System → o.needs_minus ≡ false
    → output_attr o.at o.core f ≡ attr_at env s (Expr-F.Field (clean o) f)
output_known env s o f is minus = rw (is, minus) refl

pub class_checks : (env : Environment) (s : Scope) (o : Typed) (c : ℕ) (f : Ident) (result : Result Typed CheckError)
    → o.denotes ≡ denotes.Class c → o.needs_minus ≡ false
    → Checks (naming_attr env s (record { at = o.at; through = through.Class; class = c }) core.This f) result
    → Checks (attr_at env s (Expr-F.Field (clean o) f)) result
class_checks env s o c f result is minus = known_checks _ _ result (class_known env s o c f is minus)

pub output_checks : (env : Environment) (s : Scope) (o : Typed) (f : Ident) (result : Result Typed CheckError)
    → o.denotes ≡ denotes.System → o.needs_minus ≡ false
    → Checks (output_attr o.at o.core f) result → Checks (attr_at env s (Expr-F.Field (clean o) f)) result
output_checks env s o f result is minus = known_checks _ _ result (output_known env s o f is minus)

pub value_checks : (env : Environment) (s : Scope) (o : Typed) (v : Value) (f : Ident) (result : Result Typed CheckError) → clean o ≡ of_value v
    → Checks (attr_at env s (Expr-F.Field (of_value v) f)) result → Checks (attr_at env s (Expr-F.Field (clean o) f)) result
value_checks env s o v f result is = known_checks _ _ result (ap (λ a. attr_at env s (Expr-F.Field a f)) (sym is))

member_known : (env : Environment) (s : Scope) (r : Receiver) (object : Core) (x : Ident) (m : FieldSymbol)
    → named_member env.symbols (naming_of r core.This x) ≡ Some m → field_attr env s r object x m ≡ naming_attr env s r object x
member_known env s r object x m is = rw is refl

pub member_checks : (env : Environment) (s : Scope) (r : Receiver) (object : Core) (x : Ident) (m : FieldSymbol) (result : Result Typed CheckError)
    → named_member env.symbols (naming_of r core.This x) ≡ Some m
    → Checks (field_attr env s r object x m) result → Checks (naming_attr env s r object x) result
member_checks env s r object x m result is = known_checks _ _ result (member_known env s r object x m is)

-- ---- refusals

-- the faults of what stands before the dot
before_dot : (env : Environment) (s : Scope) (o : Typed) (f : Ident) (e : CheckError)
    → Refuses (prefix_faults (clean o)) e → Refuses (attr_at env s (Expr-F.Field (clean o) f)).faults e
before_dot env s o f e h = refuses_left (prefix_faults (clean o)) (broken_here env s (Expr-F.Field (clean o) f)) e h

value_faults_before : (o : Typed) (t : Ty) → o.denotes ≡ denotes.Value t → value_faults (clean o) ≡ prefix_faults (clean o)
value_faults_before o t is = rw is refl

pub value_refused : (env : Environment) (s : Scope) (o : Typed) (t : Ty) (f : Ident) (e : CheckError)
    → o.denotes ≡ denotes.Value t → Refuses (value_faults (clean o)) e → Refuses (attr_at env s (Expr-F.Field (clean o) f)).faults e
value_refused env s o t f e is h = before_dot env s o f e (rw (value_faults_before o t is) at h)

bare : (a : Attr) → a.needs_minus ≡ true → Has (prefix_faults a) (record { rule = 19; at = a.at })
bare a is = has_right a.faults _ _ (has_there 11 (nothing_11 a) _ _ (rw is (inl refl)))

pub minus_refused : (env : Environment) (s : Scope) (o : Typed) (f : Ident) (e : CheckError)
    → o.needs_minus ≡ true → e ≡ error.Fault (record { rule = 19; at = o.at }) → Refuses (attr_at env s (Expr-F.Field (clean o) f)).faults e
minus_refused env s o f e minus is = before_dot env s o f e (rw is (bare (clean o) minus))

pub nothing_refused : (env : Environment) (s : Scope) (o : Typed) (f : Ident) (e : CheckError)
    → o.denotes ≡ denotes.Nothing → e ≡ error.Fault (record { rule = 11; at = o.at }) → Refuses (attr_at env s (Expr-F.Field (clean o) f)).faults e
nothing_refused env s o f e nothing is = before_dot env s o f e (rw (is, nothing) (inl refl))

pub print_refused : (env : Environment) (s : Scope) (o : Typed) (p : Printing) (f : Ident) (e : CheckError)
    → o.denotes ≡ denotes.Print p → e ≡ error.Fault (record { rule = 11; at = o.at }) → Refuses (attr_at env s (Expr-F.Field (clean o) f)).faults e
print_refused env s o p f e print is = before_dot env s o f e (rw (is, print) (inl refl))

pub output_refused : (env : Environment) (s : Scope) (o : Typed) (f : Ident) (e : CheckError)
    → o.denotes ≡ denotes.Output → e ≡ error.Fault (record { rule = 10; at = f.at }) → Refuses (attr_at env s (Expr-F.Field (clean o) f)).faults e
output_refused env s o f e output is =
    refuses_right (prefix_faults (clean o)) (broken_here env s (Expr-F.Field (clean o) f)) e (rw (is, output) (inl refl))

pub ruleset behind = (class_checks, output_checks, value_checks, value_refused, minus_refused, nothing_refused, print_refused, output_refused)
