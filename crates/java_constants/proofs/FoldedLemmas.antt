-- What each kind of expression is as a part of a constant's initialiser, from what its parts are.
use Rattle.std.proofs.Common.{◌≡◌, ◌∙◌, ℕ, Bool, List, sym, ap}
use Rattle.token_reading.specs.declared.name.Ident.{Ident}
use Rattle.token_reading.specs.declared.name.TypeTree.{TypeTree}
use Rattle.token_reading.specs.declared.name.BaseType.{BaseType}
use Rattle.java_syntax.specs.declared.operator.UnaryOp.{UnaryOp}
use Rattle.java_syntax.specs.declared.operator.BinaryOp.{BinaryOp}
use Rattle.java_syntax.specs.declared.expression.Expr.{Expr}
use Rattle.java_syntax.specs.declared.expression.Expr.TheVariants as tree
use Rattle.java_syntax.specs.declared.expression.Expr.TheOpen.{Expr-F}
use Rattle.java_syntax.specs.declared.expression.Expr.TheFolds.{fold-Expr, fold-roll-Expr}
use Rattle.java_names.specs.declared.scope.Scope.{Scope}
use Rattle.java_exprs.specs.declared.environment.Environment.{Environment}
use Rattle.java_exprs.specs.declared.folded.Folded.{Folded}
use Rattle.java_exprs.specs.declared.folded.Folded.TheVariants as folded
use Rattle.java_exprs.specs.Constants.{folded_of, folded_at}

pub folded_number : (env : Environment) (s : Scope) (at : ℕ) (n : ℕ) → folded_of env s (tree.Number at n) ≡ folded_at env s (Expr-F.Number at n)
unfolding folded_of
folded_number env s at n = ap (fold-Expr Folded (folded_at env s)) (sym (tree.rolls-Number at n)) ∙ fold-roll-Expr Folded (folded_at env s) (Expr-F.Number at n)

pub folded_text : (env : Environment) (s : Scope) (at : ℕ) (t : List ℕ) → folded_of env s (tree.Text at t) ≡ folded_at env s (Expr-F.Text at t)
unfolding folded_of
folded_text env s at t = ap (fold-Expr Folded (folded_at env s)) (sym (tree.rolls-Text at t)) ∙ fold-roll-Expr Folded (folded_at env s) (Expr-F.Text at t)

pub folded_bool : (env : Environment) (s : Scope) (at : ℕ) (b : Bool) → folded_of env s (tree.Bool at b) ≡ folded_at env s (Expr-F.Bool at b)
unfolding folded_of
folded_bool env s at b = ap (fold-Expr Folded (folded_at env s)) (sym (tree.rolls-Bool at b)) ∙ fold-roll-Expr Folded (folded_at env s) (Expr-F.Bool at b)

pub folded_null : (env : Environment) (s : Scope) (at : ℕ) → folded_of env s (tree.Null at) ≡ folded_at env s (Expr-F.Null at)
unfolding folded_of
folded_null env s at = ap (fold-Expr Folded (folded_at env s)) (sym (tree.rolls-Null at)) ∙ fold-roll-Expr Folded (folded_at env s) (Expr-F.Null at)

pub folded_this : (env : Environment) (s : Scope) (at : ℕ) → folded_of env s (tree.This at) ≡ folded.Other
unfolding folded_of
folded_this env s at = ap (fold-Expr Folded (folded_at env s)) (sym (tree.rolls-This at)) ∙ fold-roll-Expr Folded (folded_at env s) (Expr-F.This at)

pub folded_name : (env : Environment) (s : Scope) (x : Ident) → folded_of env s (tree.Name x) ≡ folded_at env s (Expr-F.Name x)
unfolding folded_of
folded_name env s x = ap (fold-Expr Folded (folded_at env s)) (sym (tree.rolls-Name x)) ∙ fold-roll-Expr Folded (folded_at env s) (Expr-F.Name x)

pub folded_call : (env : Environment) (s : Scope) (m : Ident) (xs : List Expr) → folded_of env s (tree.Call m xs) ≡ folded.Other
unfolding folded_of
folded_call env s m xs = ap (fold-Expr Folded (folded_at env s)) (sym (tree.rolls-Call m xs)) ∙ fold-roll-Expr Folded (folded_at env s) (Expr-F.Call m xs)

pub folded_paren : (env : Environment) (s : Scope) (at : ℕ) (e : Expr) → folded_of env s (tree.Paren at e) ≡ folded_at env s (Expr-F.Paren at (folded_of env s e))
unfolding folded_of
folded_paren env s at e = ap (fold-Expr Folded (folded_at env s)) (sym (tree.rolls-Paren at e)) ∙ fold-roll-Expr Folded (folded_at env s) (Expr-F.Paren at e)

pub folded_super : (env : Environment) (s : Scope) (at : ℕ) (m : Ident) (xs : List Expr) → folded_of env s (tree.Super at m xs) ≡ folded.Other
unfolding folded_of
folded_super env s at m xs = ap (fold-Expr Folded (folded_at env s)) (sym (tree.rolls-Super at m xs)) ∙ fold-roll-Expr Folded (folded_at env s) (Expr-F.Super at m xs)

pub folded_new : (env : Environment) (s : Scope) (at : ℕ) (c : Ident) (xs : List Expr) → folded_of env s (tree.New at c xs) ≡ folded.Other
unfolding folded_of
folded_new env s at c xs = ap (fold-Expr Folded (folded_at env s)) (sym (tree.rolls-New at c xs)) ∙ fold-roll-Expr Folded (folded_at env s) (Expr-F.New at c xs)

pub folded_new_array : (env : Environment) (s : Scope) (at : ℕ) (base : BaseType) (e : Expr) (dimensions : ℕ) → folded_of env s (tree.NewArray at base e dimensions) ≡ folded.Other
unfolding folded_of
folded_new_array env s at base e dimensions = ap (fold-Expr Folded (folded_at env s)) (sym (tree.rolls-NewArray at base e dimensions)) ∙ fold-roll-Expr Folded (folded_at env s) (Expr-F.NewArray at base e dimensions)

pub folded_field : (env : Environment) (s : Scope) (o : Expr) (f : Ident) → folded_of env s (tree.Field o f) ≡ folded_at env s (Expr-F.Field (folded_of env s o) f)
unfolding folded_of
folded_field env s o f = ap (fold-Expr Folded (folded_at env s)) (sym (tree.rolls-Field o f)) ∙ fold-roll-Expr Folded (folded_at env s) (Expr-F.Field o f)

pub folded_method : (env : Environment) (s : Scope) (o : Expr) (m : Ident) (xs : List Expr) → folded_of env s (tree.Method o m xs) ≡ folded.Other
unfolding folded_of
folded_method env s o m xs = ap (fold-Expr Folded (folded_at env s)) (sym (tree.rolls-Method o m xs)) ∙ fold-roll-Expr Folded (folded_at env s) (Expr-F.Method o m xs)

pub folded_element : (env : Environment) (s : Scope) (a : Expr) (i : Expr) → folded_of env s (tree.Element a i) ≡ folded.Other
unfolding folded_of
folded_element env s a i = ap (fold-Expr Folded (folded_at env s)) (sym (tree.rolls-Element a i)) ∙ fold-roll-Expr Folded (folded_at env s) (Expr-F.Element a i)

pub folded_unary : (env : Environment) (s : Scope) (at : ℕ) (op : UnaryOp) (e : Expr) → folded_of env s (tree.Unary at op e) ≡ folded_at env s (Expr-F.Unary at op (folded_of env s e))
unfolding folded_of
folded_unary env s at op e = ap (fold-Expr Folded (folded_at env s)) (sym (tree.rolls-Unary at op e)) ∙ fold-roll-Expr Folded (folded_at env s) (Expr-F.Unary at op e)

pub folded_cast : (env : Environment) (s : Scope) (at : ℕ) (t : TypeTree) (e : Expr) → folded_of env s (tree.Cast at t e) ≡ folded.Other
unfolding folded_of
folded_cast env s at t e = ap (fold-Expr Folded (folded_at env s)) (sym (tree.rolls-Cast at t e)) ∙ fold-roll-Expr Folded (folded_at env s) (Expr-F.Cast at t e)

pub folded_binary : (env : Environment) (s : Scope) (op : BinaryOp) (l : Expr) (r : Expr) → folded_of env s (tree.Binary op l r) ≡ folded_at env s (Expr-F.Binary op (folded_of env s l) (folded_of env s r))
unfolding folded_of
folded_binary env s op l r = ap (fold-Expr Folded (folded_at env s)) (sym (tree.rolls-Binary op l r)) ∙ fold-roll-Expr Folded (folded_at env s) (Expr-F.Binary op l r)

pub folded_instance_of : (env : Environment) (s : Scope) (e : Expr) (t : TypeTree) → folded_of env s (tree.InstanceOf e t) ≡ folded.Other
unfolding folded_of
folded_instance_of env s e t = ap (fold-Expr Folded (folded_at env s)) (sym (tree.rolls-InstanceOf e t)) ∙ fold-roll-Expr Folded (folded_at env s) (Expr-F.InstanceOf e t)

pub folded_conditional : (env : Environment) (s : Scope) (c : Expr) (a : Expr) (b : Expr) → folded_of env s (tree.Conditional c a b) ≡ folded_at env s (Expr-F.Conditional (folded_of env s c) (folded_of env s a) (folded_of env s b))
unfolding folded_of
folded_conditional env s c a b = ap (fold-Expr Folded (folded_at env s)) (sym (tree.rolls-Conditional c a b)) ∙ fold-roll-Expr Folded (folded_at env s) (Expr-F.Conditional c a b)

pub ruleset folds = (
  folded_number,
  folded_text,
  folded_bool,
  folded_null,
  folded_this,
  folded_name,
  folded_call,
  folded_paren,
  folded_super,
  folded_new,
  folded_new_array,
  folded_field,
  folded_method,
  folded_element,
  folded_unary,
  folded_cast,
  folded_binary,
  folded_instance_of,
  folded_conditional,
)
