-- What is known of each kind of expression, from what is known of its parts.
use Rattle.std.proofs.Common.{◌≡◌, ◌∙◌, ℕ, Bool, List, map, sym, ap}
use Rattle.token_reading.specs.declared.name.Ident.{Ident}
use Rattle.token_reading.specs.declared.name.TypeTree.{TypeTree}
use Rattle.token_reading.specs.declared.name.BaseType.{BaseType}
use Rattle.token_reading.specs.declared.fault.CheckError.{CheckError}
use Rattle.java_syntax.specs.declared.operator.UnaryOp.{UnaryOp}
use Rattle.java_syntax.specs.declared.operator.BinaryOp.{BinaryOp}
use Rattle.java_syntax.specs.declared.expression.Expr.{Expr}
use Rattle.java_syntax.specs.declared.expression.Expr.TheVariants as tree
use Rattle.java_syntax.specs.declared.expression.Expr.TheOpen.{Expr-F}
use Rattle.java_syntax.specs.declared.expression.Expr.TheFolds.{fold-Expr, fold-roll-Expr}
use Rattle.java_names.specs.declared.scope.Scope.{Scope}
use Rattle.java_exprs.specs.Attr.{Attr, value_faults, values_faults}
use Rattle.java_exprs.specs.declared.environment.Environment.{Environment}
use Rattle.java_names.specs.Refusals.{Refuses}
use Rattle.java_exprs.specs.Checks.{attr, attr_at}
use Rattle.java_names.proofs.RefusalLemmas.{refuses_left, refuses_right}

pub attr_number : (env : Environment) (s : Scope) (at : ℕ) (n : ℕ) → attr env s (tree.Number at n) ≡ attr_at env s (Expr-F.Number at n)
unfolding attr
attr_number env s at n = ap (fold-Expr Attr (attr_at env s)) (sym (tree.rolls-Number at n)) ∙ fold-roll-Expr Attr (attr_at env s) (Expr-F.Number at n)

pub attr_text : (env : Environment) (s : Scope) (at : ℕ) (t : List ℕ) → attr env s (tree.Text at t) ≡ attr_at env s (Expr-F.Text at t)
unfolding attr
attr_text env s at t = ap (fold-Expr Attr (attr_at env s)) (sym (tree.rolls-Text at t)) ∙ fold-roll-Expr Attr (attr_at env s) (Expr-F.Text at t)

pub attr_bool : (env : Environment) (s : Scope) (at : ℕ) (b : Bool) → attr env s (tree.Bool at b) ≡ attr_at env s (Expr-F.Bool at b)
unfolding attr
attr_bool env s at b = ap (fold-Expr Attr (attr_at env s)) (sym (tree.rolls-Bool at b)) ∙ fold-roll-Expr Attr (attr_at env s) (Expr-F.Bool at b)

pub attr_null : (env : Environment) (s : Scope) (at : ℕ) → attr env s (tree.Null at) ≡ attr_at env s (Expr-F.Null at)
unfolding attr
attr_null env s at = ap (fold-Expr Attr (attr_at env s)) (sym (tree.rolls-Null at)) ∙ fold-roll-Expr Attr (attr_at env s) (Expr-F.Null at)

pub attr_this : (env : Environment) (s : Scope) (at : ℕ) → attr env s (tree.This at) ≡ attr_at env s (Expr-F.This at)
unfolding attr
attr_this env s at = ap (fold-Expr Attr (attr_at env s)) (sym (tree.rolls-This at)) ∙ fold-roll-Expr Attr (attr_at env s) (Expr-F.This at)

pub attr_name : (env : Environment) (s : Scope) (x : Ident) → attr env s (tree.Name x) ≡ attr_at env s (Expr-F.Name x)
unfolding attr
attr_name env s x = ap (fold-Expr Attr (attr_at env s)) (sym (tree.rolls-Name x)) ∙ fold-roll-Expr Attr (attr_at env s) (Expr-F.Name x)

pub attr_call : (env : Environment) (s : Scope) (m : Ident) (xs : List Expr) → attr env s (tree.Call m xs) ≡ attr_at env s (Expr-F.Call m (map (attr env s) xs))
unfolding attr
attr_call env s m xs = ap (fold-Expr Attr (attr_at env s)) (sym (tree.rolls-Call m xs)) ∙ fold-roll-Expr Attr (attr_at env s) (Expr-F.Call m xs)

pub attr_paren : (env : Environment) (s : Scope) (at : ℕ) (e : Expr) → attr env s (tree.Paren at e) ≡ attr_at env s (Expr-F.Paren at (attr env s e))
unfolding attr
attr_paren env s at e = ap (fold-Expr Attr (attr_at env s)) (sym (tree.rolls-Paren at e)) ∙ fold-roll-Expr Attr (attr_at env s) (Expr-F.Paren at e)

pub attr_super : (env : Environment) (s : Scope) (at : ℕ) (m : Ident) (xs : List Expr) → attr env s (tree.Super at m xs) ≡ attr_at env s (Expr-F.Super at m (map (attr env s) xs))
unfolding attr
attr_super env s at m xs = ap (fold-Expr Attr (attr_at env s)) (sym (tree.rolls-Super at m xs)) ∙ fold-roll-Expr Attr (attr_at env s) (Expr-F.Super at m xs)

pub attr_new : (env : Environment) (s : Scope) (at : ℕ) (c : Ident) (xs : List Expr) → attr env s (tree.New at c xs) ≡ attr_at env s (Expr-F.New at c (map (attr env s) xs))
unfolding attr
attr_new env s at c xs = ap (fold-Expr Attr (attr_at env s)) (sym (tree.rolls-New at c xs)) ∙ fold-roll-Expr Attr (attr_at env s) (Expr-F.New at c xs)

pub attr_new_array : (env : Environment) (s : Scope) (at : ℕ) (base : BaseType) (e : Expr) (dimensions : ℕ) → attr env s (tree.NewArray at base e dimensions) ≡ attr_at env s (Expr-F.NewArray at base (attr env s e) dimensions)
unfolding attr
attr_new_array env s at base e dimensions = ap (fold-Expr Attr (attr_at env s)) (sym (tree.rolls-NewArray at base e dimensions)) ∙ fold-roll-Expr Attr (attr_at env s) (Expr-F.NewArray at base e dimensions)

pub attr_field : (env : Environment) (s : Scope) (o : Expr) (f : Ident) → attr env s (tree.Field o f) ≡ attr_at env s (Expr-F.Field (attr env s o) f)
unfolding attr
attr_field env s o f = ap (fold-Expr Attr (attr_at env s)) (sym (tree.rolls-Field o f)) ∙ fold-roll-Expr Attr (attr_at env s) (Expr-F.Field o f)

pub attr_method : (env : Environment) (s : Scope) (o : Expr) (m : Ident) (xs : List Expr) → attr env s (tree.Method o m xs) ≡ attr_at env s (Expr-F.Method (attr env s o) m (map (attr env s) xs))
unfolding attr
attr_method env s o m xs = ap (fold-Expr Attr (attr_at env s)) (sym (tree.rolls-Method o m xs)) ∙ fold-roll-Expr Attr (attr_at env s) (Expr-F.Method o m xs)

pub attr_element : (env : Environment) (s : Scope) (a : Expr) (i : Expr) → attr env s (tree.Element a i) ≡ attr_at env s (Expr-F.Element (attr env s a) (attr env s i))
unfolding attr
attr_element env s a i = ap (fold-Expr Attr (attr_at env s)) (sym (tree.rolls-Element a i)) ∙ fold-roll-Expr Attr (attr_at env s) (Expr-F.Element a i)

pub attr_unary : (env : Environment) (s : Scope) (at : ℕ) (op : UnaryOp) (e : Expr) → attr env s (tree.Unary at op e) ≡ attr_at env s (Expr-F.Unary at op (attr env s e))
unfolding attr
attr_unary env s at op e = ap (fold-Expr Attr (attr_at env s)) (sym (tree.rolls-Unary at op e)) ∙ fold-roll-Expr Attr (attr_at env s) (Expr-F.Unary at op e)

pub attr_cast : (env : Environment) (s : Scope) (at : ℕ) (t : TypeTree) (e : Expr) → attr env s (tree.Cast at t e) ≡ attr_at env s (Expr-F.Cast at t (attr env s e))
unfolding attr
attr_cast env s at t e = ap (fold-Expr Attr (attr_at env s)) (sym (tree.rolls-Cast at t e)) ∙ fold-roll-Expr Attr (attr_at env s) (Expr-F.Cast at t e)

pub attr_binary : (env : Environment) (s : Scope) (op : BinaryOp) (l : Expr) (r : Expr) → attr env s (tree.Binary op l r) ≡ attr_at env s (Expr-F.Binary op (attr env s l) (attr env s r))
unfolding attr
attr_binary env s op l r = ap (fold-Expr Attr (attr_at env s)) (sym (tree.rolls-Binary op l r)) ∙ fold-roll-Expr Attr (attr_at env s) (Expr-F.Binary op l r)

pub attr_instance_of : (env : Environment) (s : Scope) (e : Expr) (t : TypeTree) → attr env s (tree.InstanceOf e t) ≡ attr_at env s (Expr-F.InstanceOf (attr env s e) t)
unfolding attr
attr_instance_of env s e t = ap (fold-Expr Attr (attr_at env s)) (sym (tree.rolls-InstanceOf e t)) ∙ fold-roll-Expr Attr (attr_at env s) (Expr-F.InstanceOf e t)

pub attr_conditional : (env : Environment) (s : Scope) (c : Expr) (a : Expr) (b : Expr) → attr env s (tree.Conditional c a b) ≡ attr_at env s (Expr-F.Conditional (attr env s c) (attr env s a) (attr env s b))
unfolding attr
attr_conditional env s c a b = ap (fold-Expr Attr (attr_at env s)) (sym (tree.rolls-Conditional c a b)) ∙ fold-roll-Expr Attr (attr_at env s) (Expr-F.Conditional c a b)

pub ruleset attrs = (
  attr_number,
  attr_text,
  attr_bool,
  attr_null,
  attr_this,
  attr_name,
  attr_call,
  attr_paren,
  attr_super,
  attr_new,
  attr_new_array,
  attr_field,
  attr_method,
  attr_element,
  attr_unary,
  attr_cast,
  attr_binary,
  attr_instance_of,
  attr_conditional,
)

-- ---- a fault of a part is a fault of the whole

pub in_call : (env : Environment) (s : Scope) (m : Ident) (xs : List Expr) (e : CheckError) → Refuses (values_faults (map (attr env s) xs)) e → Refuses (attr env s (tree.Call m xs)).faults e
in_call env s m xs e h = rw (attr_call env s m xs) (refuses_left _ _ e h)

pub in_paren : (env : Environment) (s : Scope) (at : ℕ) (x : Expr) (e : CheckError) → Refuses (value_faults (attr env s x)) e → Refuses (attr env s (tree.Paren at x)).faults e
in_paren env s at x e h = rw (attr_paren env s at x) (refuses_left _ _ e h)

pub in_super : (env : Environment) (s : Scope) (at : ℕ) (m : Ident) (xs : List Expr) (e : CheckError) → Refuses (values_faults (map (attr env s) xs)) e → Refuses (attr env s (tree.Super at m xs)).faults e
in_super env s at m xs e h = rw (attr_super env s at m xs) (refuses_left _ _ e h)

pub in_new : (env : Environment) (s : Scope) (at : ℕ) (c : Ident) (xs : List Expr) (e : CheckError) → Refuses (values_faults (map (attr env s) xs)) e → Refuses (attr env s (tree.New at c xs)).faults e
in_new env s at c xs e h = rw (attr_new env s at c xs) (refuses_left _ _ e h)

pub in_size : (env : Environment) (s : Scope) (at : ℕ) (base : BaseType) (x : Expr) (dimensions : ℕ) (e : CheckError) → Refuses (value_faults (attr env s x)) e → Refuses (attr env s (tree.NewArray at base x dimensions)).faults e
in_size env s at base x dimensions e h = rw (attr_new_array env s at base x dimensions) (refuses_left _ _ e h)

pub in_field : (env : Environment) (s : Scope) (o : Expr) (f : Ident) (e : CheckError) → Refuses ((attr env s o).faults) e → Refuses (attr env s (tree.Field o f)).faults e
in_field env s o f e h = rw (attr_field env s o f) (refuses_left _ _ e (refuses_left _ _ e h))

pub in_cast : (env : Environment) (s : Scope) (at : ℕ) (t : TypeTree) (x : Expr) (e : CheckError) → Refuses (value_faults (attr env s x)) e → Refuses (attr env s (tree.Cast at t x)).faults e
in_cast env s at t x e h = rw (attr_cast env s at t x) (refuses_left _ _ e h)

pub in_instance_of : (env : Environment) (s : Scope) (x : Expr) (t : TypeTree) (e : CheckError) → Refuses (value_faults (attr env s x)) e → Refuses (attr env s (tree.InstanceOf x t)).faults e
in_instance_of env s x t e h = rw (attr_instance_of env s x t) (refuses_left _ _ e h)

-- where a value is needed
pub in_value : (a : Attr) (e : CheckError) → Refuses a.faults e → Refuses (value_faults a) e
in_value a e h = refuses_left _ _ e h

pub ruleset below = (
  in_call,
  in_paren,
  in_super,
  in_new,
  in_size,
  in_field,
  in_cast,
  in_instance_of,
)
