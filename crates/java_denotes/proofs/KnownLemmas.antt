-- What is known of each kind of expression, from what is known of its parts.
use Rattle.std.proofs.Common.{◌≡◌, ◌∙◌, ℕ, Bool, List, map, sym, ap}
use Rattle.token_reading.specs.declared.name.Ident.{Ident}
use Rattle.token_reading.specs.declared.name.TypeTree.{TypeTree}
use Rattle.token_reading.specs.declared.name.BaseType.{BaseType}
use Rattle.java_syntax.specs.declared.operator.UnaryOp.{UnaryOp}
use Rattle.java_syntax.specs.declared.operator.BinaryOp.{BinaryOp}
use Rattle.java_syntax.specs.declared.expression.Expr.{Expr}
use Rattle.java_syntax.specs.declared.expression.Expr.TheVariants as tree
use Rattle.java_syntax.specs.declared.expression.Expr.TheOpen.{Expr-F}
use Rattle.java_syntax.specs.declared.expression.Expr.TheFolds.{fold-Expr, fold-roll-Expr}
use Rattle.java_names.specs.declared.symbol.Symbols.{Symbols}
use Rattle.java_names.specs.declared.scope.Scope.{Scope}
use Rattle.java_denotes.specs.declared.known.Known.{Known}
use Rattle.java_denotes.specs.Known.{known_at, known_of}

pub known_number : (s : Symbols) (scope : Scope) (at : ℕ) (n : ℕ) → known_of s scope (tree.Number at n) ≡ known_at s scope (Expr-F.Number at n)
unfolding known_of
known_number s scope at n = ap (fold-Expr Known (known_at s scope)) (sym (tree.rolls-Number at n)) ∙ fold-roll-Expr Known (known_at s scope) (Expr-F.Number at n)

pub known_text : (s : Symbols) (scope : Scope) (at : ℕ) (t : List ℕ) → known_of s scope (tree.Text at t) ≡ known_at s scope (Expr-F.Text at t)
unfolding known_of
known_text s scope at t = ap (fold-Expr Known (known_at s scope)) (sym (tree.rolls-Text at t)) ∙ fold-roll-Expr Known (known_at s scope) (Expr-F.Text at t)

pub known_bool : (s : Symbols) (scope : Scope) (at : ℕ) (b : Bool) → known_of s scope (tree.Bool at b) ≡ known_at s scope (Expr-F.Bool at b)
unfolding known_of
known_bool s scope at b = ap (fold-Expr Known (known_at s scope)) (sym (tree.rolls-Bool at b)) ∙ fold-roll-Expr Known (known_at s scope) (Expr-F.Bool at b)

pub known_null : (s : Symbols) (scope : Scope) (at : ℕ) → known_of s scope (tree.Null at) ≡ known_at s scope (Expr-F.Null at)
unfolding known_of
known_null s scope at = ap (fold-Expr Known (known_at s scope)) (sym (tree.rolls-Null at)) ∙ fold-roll-Expr Known (known_at s scope) (Expr-F.Null at)

pub known_this : (s : Symbols) (scope : Scope) (at : ℕ) → known_of s scope (tree.This at) ≡ known_at s scope (Expr-F.This at)
unfolding known_of
known_this s scope at = ap (fold-Expr Known (known_at s scope)) (sym (tree.rolls-This at)) ∙ fold-roll-Expr Known (known_at s scope) (Expr-F.This at)

pub known_name : (s : Symbols) (scope : Scope) (x : Ident) → known_of s scope (tree.Name x) ≡ known_at s scope (Expr-F.Name x)
unfolding known_of
known_name s scope x = ap (fold-Expr Known (known_at s scope)) (sym (tree.rolls-Name x)) ∙ fold-roll-Expr Known (known_at s scope) (Expr-F.Name x)

pub known_call : (s : Symbols) (scope : Scope) (m : Ident) (xs : List Expr) → known_of s scope (tree.Call m xs) ≡ known_at s scope (Expr-F.Call m (map (known_of s scope) xs))
unfolding known_of
known_call s scope m xs = ap (fold-Expr Known (known_at s scope)) (sym (tree.rolls-Call m xs)) ∙ fold-roll-Expr Known (known_at s scope) (Expr-F.Call m xs)

pub known_paren : (s : Symbols) (scope : Scope) (at : ℕ) (e : Expr) → known_of s scope (tree.Paren at e) ≡ known_at s scope (Expr-F.Paren at (known_of s scope e))
unfolding known_of
known_paren s scope at e = ap (fold-Expr Known (known_at s scope)) (sym (tree.rolls-Paren at e)) ∙ fold-roll-Expr Known (known_at s scope) (Expr-F.Paren at e)

pub known_super : (s : Symbols) (scope : Scope) (at : ℕ) (m : Ident) (xs : List Expr) → known_of s scope (tree.Super at m xs) ≡ known_at s scope (Expr-F.Super at m (map (known_of s scope) xs))
unfolding known_of
known_super s scope at m xs = ap (fold-Expr Known (known_at s scope)) (sym (tree.rolls-Super at m xs)) ∙ fold-roll-Expr Known (known_at s scope) (Expr-F.Super at m xs)

pub known_new : (s : Symbols) (scope : Scope) (at : ℕ) (c : Ident) (xs : List Expr) → known_of s scope (tree.New at c xs) ≡ known_at s scope (Expr-F.New at c (map (known_of s scope) xs))
unfolding known_of
known_new s scope at c xs = ap (fold-Expr Known (known_at s scope)) (sym (tree.rolls-New at c xs)) ∙ fold-roll-Expr Known (known_at s scope) (Expr-F.New at c xs)

pub known_new_array : (s : Symbols) (scope : Scope) (at : ℕ) (base : BaseType) (e : Expr) (dimensions : ℕ) → known_of s scope (tree.NewArray at base e dimensions) ≡ known_at s scope (Expr-F.NewArray at base (known_of s scope e) dimensions)
unfolding known_of
known_new_array s scope at base e dimensions = ap (fold-Expr Known (known_at s scope)) (sym (tree.rolls-NewArray at base e dimensions)) ∙ fold-roll-Expr Known (known_at s scope) (Expr-F.NewArray at base e dimensions)

pub known_field : (s : Symbols) (scope : Scope) (o : Expr) (f : Ident) → known_of s scope (tree.Field o f) ≡ known_at s scope (Expr-F.Field (known_of s scope o) f)
unfolding known_of
known_field s scope o f = ap (fold-Expr Known (known_at s scope)) (sym (tree.rolls-Field o f)) ∙ fold-roll-Expr Known (known_at s scope) (Expr-F.Field o f)

pub known_method : (s : Symbols) (scope : Scope) (o : Expr) (m : Ident) (xs : List Expr) → known_of s scope (tree.Method o m xs) ≡ known_at s scope (Expr-F.Method (known_of s scope o) m (map (known_of s scope) xs))
unfolding known_of
known_method s scope o m xs = ap (fold-Expr Known (known_at s scope)) (sym (tree.rolls-Method o m xs)) ∙ fold-roll-Expr Known (known_at s scope) (Expr-F.Method o m xs)

pub known_element : (s : Symbols) (scope : Scope) (a : Expr) (i : Expr) → known_of s scope (tree.Element a i) ≡ known_at s scope (Expr-F.Element (known_of s scope a) (known_of s scope i))
unfolding known_of
known_element s scope a i = ap (fold-Expr Known (known_at s scope)) (sym (tree.rolls-Element a i)) ∙ fold-roll-Expr Known (known_at s scope) (Expr-F.Element a i)

pub known_unary : (s : Symbols) (scope : Scope) (at : ℕ) (op : UnaryOp) (e : Expr) → known_of s scope (tree.Unary at op e) ≡ known_at s scope (Expr-F.Unary at op (known_of s scope e))
unfolding known_of
known_unary s scope at op e = ap (fold-Expr Known (known_at s scope)) (sym (tree.rolls-Unary at op e)) ∙ fold-roll-Expr Known (known_at s scope) (Expr-F.Unary at op e)

pub known_cast : (s : Symbols) (scope : Scope) (at : ℕ) (t : TypeTree) (e : Expr) → known_of s scope (tree.Cast at t e) ≡ known_at s scope (Expr-F.Cast at t (known_of s scope e))
unfolding known_of
known_cast s scope at t e = ap (fold-Expr Known (known_at s scope)) (sym (tree.rolls-Cast at t e)) ∙ fold-roll-Expr Known (known_at s scope) (Expr-F.Cast at t e)

pub known_binary : (s : Symbols) (scope : Scope) (op : BinaryOp) (l : Expr) (r : Expr) → known_of s scope (tree.Binary op l r) ≡ known_at s scope (Expr-F.Binary op (known_of s scope l) (known_of s scope r))
unfolding known_of
known_binary s scope op l r = ap (fold-Expr Known (known_at s scope)) (sym (tree.rolls-Binary op l r)) ∙ fold-roll-Expr Known (known_at s scope) (Expr-F.Binary op l r)

pub known_instance_of : (s : Symbols) (scope : Scope) (e : Expr) (t : TypeTree) → known_of s scope (tree.InstanceOf e t) ≡ known_at s scope (Expr-F.InstanceOf (known_of s scope e) t)
unfolding known_of
known_instance_of s scope e t = ap (fold-Expr Known (known_at s scope)) (sym (tree.rolls-InstanceOf e t)) ∙ fold-roll-Expr Known (known_at s scope) (Expr-F.InstanceOf e t)

pub known_conditional : (s : Symbols) (scope : Scope) (c : Expr) (a : Expr) (b : Expr) → known_of s scope (tree.Conditional c a b) ≡ known_at s scope (Expr-F.Conditional (known_of s scope c) (known_of s scope a) (known_of s scope b))
unfolding known_of
known_conditional s scope c a b = ap (fold-Expr Known (known_at s scope)) (sym (tree.rolls-Conditional c a b)) ∙ fold-roll-Expr Known (known_at s scope) (Expr-F.Conditional c a b)

pub ruleset nodes = (
  known_number,
  known_text,
  known_bool,
  known_null,
  known_this,
  known_name,
  known_call,
  known_paren,
  known_super,
  known_new,
  known_new_array,
  known_field,
  known_method,
  known_element,
  known_unary,
  known_cast,
  known_binary,
  known_instance_of,
  known_conditional,
)
