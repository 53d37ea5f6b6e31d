-- The points of each kind of expression, from those of its parts.
use Rattle.std.proofs.Common.{◌≡◌, ◌∙◌, ℕ, Bool, List, [], ◌∷◌, ◌++◌, map, flat_map, sym, ap, refl}
use Rattle.std.proofs.lemmas.List.{append-nil}
use Rattle.token_reading.specs.declared.name.Ident.{Ident}
use Rattle.token_reading.specs.declared.name.TypeTree.{TypeTree}
use Rattle.token_reading.specs.declared.name.BaseType.{BaseType}
use Rattle.java_syntax.specs.declared.operator.UnaryOp.{UnaryOp}
use Rattle.java_syntax.specs.declared.operator.BinaryOp.{BinaryOp}
use Rattle.java_syntax.specs.declared.expression.Expr.{Expr}
use Rattle.java_syntax.specs.declared.expression.Expr.TheVariants as tree
use Rattle.java_syntax.specs.declared.expression.Expr.TheOpen.{Expr-F}
use Rattle.java_syntax.specs.declared.expression.Expr.TheFolds.{para-Expr, para-roll-Expr}
use Rattle.java_names.specs.declared.scope.Scope.{Scope}
use Rattle.java_names.specs.declared.symbol.Symbols.{Symbols}
use Rattle.java_denotes.specs.Known.{known_of}
use Rattle.throw_check.specs.Points.{Point, points_here, points_in, expr_points}

-- an expression with its points
abbrev with_points : Symbols → Scope → Expr → Expr × List Point
with_points symbols s e = (e, para-Expr (List Point) (points_in symbols s) e)

points_each : (symbols : Symbols) (s : Scope) (xs : List Expr) → flat_map (λ part. part.1) (map (with_points symbols s) xs) ≡ flat_map (expr_points symbols s) xs
unfolding expr_points
points_each symbols s [] = refl
points_each symbols s (x ∷ xs) = ap (λ more. expr_points symbols s x ++ more) (points_each symbols s xs)

known_each : (symbols : Symbols) (s : Scope) (xs : List Expr) → map (λ part. known_of symbols s part.0) (map (with_points symbols s) xs) ≡ map (known_of symbols s) xs
known_each symbols s [] = refl
known_each symbols s (x ∷ xs) = ap (λ more. known_of symbols s x ∷ more) (known_each symbols s xs)

pub points_number : (symbols : Symbols) (s : Scope) (at : ℕ) (n : ℕ) → expr_points symbols s (tree.Number at n) ≡ []
unfolding expr_points
points_number symbols s at n = ap (para-Expr (List Point) (points_in symbols s)) (sym (tree.rolls-Number at n)) ∙ para-roll-Expr (List Point) (points_in symbols s) (Expr-F.Number at n)

pub points_text : (symbols : Symbols) (s : Scope) (at : ℕ) (t : List ℕ) → expr_points symbols s (tree.Text at t) ≡ []
unfolding expr_points
points_text symbols s at t = ap (para-Expr (List Point) (points_in symbols s)) (sym (tree.rolls-Text at t)) ∙ para-roll-Expr (List Point) (points_in symbols s) (Expr-F.Text at t)

pub points_bool : (symbols : Symbols) (s : Scope) (at : ℕ) (b : Bool) → expr_points symbols s (tree.Bool at b) ≡ []
unfolding expr_points
points_bool symbols s at b = ap (para-Expr (List Point) (points_in symbols s)) (sym (tree.rolls-Bool at b)) ∙ para-roll-Expr (List Point) (points_in symbols s) (Expr-F.Bool at b)

pub points_null : (symbols : Symbols) (s : Scope) (at : ℕ) → expr_points symbols s (tree.Null at) ≡ []
unfolding expr_points
points_null symbols s at = ap (para-Expr (List Point) (points_in symbols s)) (sym (tree.rolls-Null at)) ∙ para-roll-Expr (List Point) (points_in symbols s) (Expr-F.Null at)

pub points_this : (symbols : Symbols) (s : Scope) (at : ℕ) → expr_points symbols s (tree.This at) ≡ []
unfolding expr_points
points_this symbols s at = ap (para-Expr (List Point) (points_in symbols s)) (sym (tree.rolls-This at)) ∙ para-roll-Expr (List Point) (points_in symbols s) (Expr-F.This at)

pub points_name : (symbols : Symbols) (s : Scope) (x : Ident) → expr_points symbols s (tree.Name x) ≡ []
unfolding expr_points
points_name symbols s x = ap (para-Expr (List Point) (points_in symbols s)) (sym (tree.rolls-Name x)) ∙ para-roll-Expr (List Point) (points_in symbols s) (Expr-F.Name x)

pub points_call : (symbols : Symbols) (s : Scope) (m : Ident) (xs : List Expr) → expr_points symbols s (tree.Call m xs) ≡ flat_map (expr_points symbols s) xs ++ points_here symbols s (Expr-F.Call m (map (known_of symbols s) xs))
unfolding expr_points
points_call symbols s m xs = ap (para-Expr (List Point) (points_in symbols s)) (sym (tree.rolls-Call m xs)) ∙ para-roll-Expr (List Point) (points_in symbols s) (Expr-F.Call m xs) ∙ rw (points_each symbols s xs, known_each symbols s xs) refl

pub points_paren : (symbols : Symbols) (s : Scope) (at : ℕ) (e : Expr) → expr_points symbols s (tree.Paren at e) ≡ expr_points symbols s e
unfolding expr_points
points_paren symbols s at e = ap (para-Expr (List Point) (points_in symbols s)) (sym (tree.rolls-Paren at e)) ∙ para-roll-Expr (List Point) (points_in symbols s) (Expr-F.Paren at e) ∙ simp append-nil

pub points_super : (symbols : Symbols) (s : Scope) (at : ℕ) (m : Ident) (xs : List Expr) → expr_points symbols s (tree.Super at m xs) ≡ flat_map (expr_points symbols s) xs ++ points_here symbols s (Expr-F.Super at m (map (known_of symbols s) xs))
unfolding expr_points
points_super symbols s at m xs = ap (para-Expr (List Point) (points_in symbols s)) (sym (tree.rolls-Super at m xs)) ∙ para-roll-Expr (List Point) (points_in symbols s) (Expr-F.Super at m xs) ∙ rw (points_each symbols s xs, known_each symbols s xs) refl

pub points_new : (symbols : Symbols) (s : Scope) (at : ℕ) (c : Ident) (xs : List Expr) → expr_points symbols s (tree.New at c xs) ≡ flat_map (expr_points symbols s) xs ++ points_here symbols s (Expr-F.New at c (map (known_of symbols s) xs))
unfolding expr_points
points_new symbols s at c xs = ap (para-Expr (List Point) (points_in symbols s)) (sym (tree.rolls-New at c xs)) ∙ para-roll-Expr (List Point) (points_in symbols s) (Expr-F.New at c xs) ∙ rw (points_each symbols s xs, known_each symbols s xs) refl

pub points_new_array : (symbols : Symbols) (s : Scope) (at : ℕ) (base : BaseType) (e : Expr) (dimensions : ℕ) → expr_points symbols s (tree.NewArray at base e dimensions) ≡ expr_points symbols s e
unfolding expr_points
points_new_array symbols s at base e dimensions = ap (para-Expr (List Point) (points_in symbols s)) (sym (tree.rolls-NewArray at base e dimensions)) ∙ para-roll-Expr (List Point) (points_in symbols s) (Expr-F.NewArray at base e dimensions) ∙ simp append-nil

pub points_field : (symbols : Symbols) (s : Scope) (o : Expr) (f : Ident) → expr_points symbols s (tree.Field o f) ≡ expr_points symbols s o
unfolding expr_points
points_field symbols s o f = ap (para-Expr (List Point) (points_in symbols s)) (sym (tree.rolls-Field o f)) ∙ para-roll-Expr (List Point) (points_in symbols s) (Expr-F.Field o f) ∙ simp append-nil

pub points_method : (symbols : Symbols) (s : Scope) (o : Expr) (m : Ident) (xs : List Expr) → expr_points symbols s (tree.Method o m xs) ≡ (expr_points symbols s o ++ flat_map (expr_points symbols s) xs) ++ points_here symbols s (Expr-F.Method (known_of symbols s o) m (map (known_of symbols s) xs))
unfolding expr_points
points_method symbols s o m xs = ap (para-Expr (List Point) (points_in symbols s)) (sym (tree.rolls-Method o m xs)) ∙ para-roll-Expr (List Point) (points_in symbols s) (Expr-F.Method o m xs) ∙ rw (points_each symbols s xs, known_each symbols s xs) refl

pub points_element : (symbols : Symbols) (s : Scope) (a : Expr) (i : Expr) → expr_points symbols s (tree.Element a i) ≡ expr_points symbols s a ++ expr_points symbols s i
unfolding expr_points
points_element symbols s a i = ap (para-Expr (List Point) (points_in symbols s)) (sym (tree.rolls-Element a i)) ∙ para-roll-Expr (List Point) (points_in symbols s) (Expr-F.Element a i) ∙ simp append-nil

pub points_unary : (symbols : Symbols) (s : Scope) (at : ℕ) (op : UnaryOp) (e : Expr) → expr_points symbols s (tree.Unary at op e) ≡ expr_points symbols s e
unfolding expr_points
points_unary symbols s at op e = ap (para-Expr (List Point) (points_in symbols s)) (sym (tree.rolls-Unary at op e)) ∙ para-roll-Expr (List Point) (points_in symbols s) (Expr-F.Unary at op e) ∙ simp append-nil

pub points_cast : (symbols : Symbols) (s : Scope) (at : ℕ) (t : TypeTree) (e : Expr) → expr_points symbols s (tree.Cast at t e) ≡ expr_points symbols s e
unfolding expr_points
points_cast symbols s at t e = ap (para-Expr (List Point) (points_in symbols s)) (sym (tree.rolls-Cast at t e)) ∙ para-roll-Expr (List Point) (points_in symbols s) (Expr-F.Cast at t e) ∙ simp append-nil

pub points_binary : (symbols : Symbols) (s : Scope) (op : BinaryOp) (l : Expr) (r : Expr) → expr_points symbols s (tree.Binary op l r) ≡ expr_points symbols s l ++ expr_points symbols s r
unfolding expr_points
points_binary symbols s op l r = ap (para-Expr (List Point) (points_in symbols s)) (sym (tree.rolls-Binary op l r)) ∙ para-roll-Expr (List Point) (points_in symbols s) (Expr-F.Binary op l r) ∙ simp append-nil

pub points_instance_of : (symbols : Symbols) (s : Scope) (e : Expr) (t : TypeTree) → expr_points symbols s (tree.InstanceOf e t) ≡ expr_points symbols s e
unfolding expr_points
points_instance_of symbols s e t = ap (para-Expr (List Point) (points_in symbols s)) (sym (tree.rolls-InstanceOf e t)) ∙ para-roll-Expr (List Point) (points_in symbols s) (Expr-F.InstanceOf e t) ∙ simp append-nil

pub points_conditional : (symbols : Symbols) (s : Scope) (c : Expr) (a : Expr) (b : Expr) → expr_points symbols s (tree.Conditional c a b) ≡ expr_points symbols s c ++ (expr_points symbols s a ++ expr_points symbols s b)
unfolding expr_points
points_conditional symbols s c a b = ap (para-Expr (List Point) (points_in symbols s)) (sym (tree.rolls-Conditional c a b)) ∙ para-roll-Expr (List Point) (points_in symbols s) (Expr-F.Conditional c a b) ∙ simp append-nil

pub ruleset points = (
  points_number,
  points_text,
  points_bool,
  points_null,
  points_this,
  points_name,
  points_call,
  points_paren,
  points_super,
  points_new,
  points_new_array,
  points_field,
  points_method,
  points_element,
  points_unary,
  points_cast,
  points_binary,
  points_instance_of,
  points_conditional,
)
