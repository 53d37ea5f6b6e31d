-- The height of a tree is the least number with which it is written, and it is written with each greater one.
use Rattle.std.proofs.Common.{◌≡◌, ℕ, zero, suc, ◌+◌, ◌≤◌, ◌<◌, max, List, [], ◌∷◌, map, arith, subst, sym}
use Rattle.java_syntax.specs.declared.expression.Expr.{Expr, out-Expr, roll-Expr}
use Rattle.java_syntax.specs.declared.expression.Expr.TheOpen.{Expr-F}
use Rattle.java_syntax.specs.declared.expression.Expr.TheViews.{out-roll-Expr, roll-out-Expr}
use Rattle.java_syntax.specs.declared.expression.Expr.TheFolds.{fold-roll-Expr}
use Rattle.token_reading.specs.Lexeme.{Lexeme}
use Rattle.java_syntax.specs.Exprs.{Layer, level, Args, MoreArgs, Node, inner_type_height, Within}
use Rattle.java_syntax.specs.Height.{layer_height, expr_height}
use Rattle.token_reading.specs.Height.{highest, type_height}

-- the height of a node, by those of its parts
abbrev height_by : Layer → ℕ
height_by (Expr-F.Call x given) = highest (map expr_height given) + 1
height_by (Expr-F.Paren at a) = expr_height a + 1
height_by (Expr-F.Super at x given) = highest (map expr_height given) + 1
height_by (Expr-F.New at x given) = highest (map expr_height given) + 1
height_by (Expr-F.NewArray at b size n) = max n (expr_height size) + 1
height_by (Expr-F.Field a x) = expr_height a + 1
height_by (Expr-F.Method a x given) = max (expr_height a) (highest (map expr_height given)) + 1
height_by (Expr-F.Element a i) = max (expr_height a) (expr_height i) + 1
height_by (Expr-F.Unary at op a) = expr_height a + 1
height_by (Expr-F.Cast at t a) = max (type_height t) (expr_height a) + 1
height_by (Expr-F.Binary op a b) = max (expr_height a) (expr_height b) + 1
height_by (Expr-F.InstanceOf a t) = max (type_height t) (expr_height a) + 1
height_by (Expr-F.Conditional c a b) = max (expr_height c) (max (expr_height a) (expr_height b)) + 1
height_by _ = 1

height_is : (f : Layer) → expr_height (roll-Expr f) ≡ height_by f
height_is (Expr-F.Number at n) = fold-roll-Expr ℕ layer_height (Expr-F.Number at n)
height_is (Expr-F.Text at x) = fold-roll-Expr ℕ layer_height (Expr-F.Text at x)
height_is (Expr-F.Bool at b) = fold-roll-Expr ℕ layer_height (Expr-F.Bool at b)
height_is (Expr-F.Null at) = fold-roll-Expr ℕ layer_height (Expr-F.Null at)
height_is (Expr-F.This at) = fold-roll-Expr ℕ layer_height (Expr-F.This at)
height_is (Expr-F.Name x) = fold-roll-Expr ℕ layer_height (Expr-F.Name x)
height_is (Expr-F.Call x given) = fold-roll-Expr ℕ layer_height (Expr-F.Call x given)
height_is (Expr-F.Paren at a) = fold-roll-Expr ℕ layer_height (Expr-F.Paren at a)
height_is (Expr-F.Super at x given) = fold-roll-Expr ℕ layer_height (Expr-F.Super at x given)
height_is (Expr-F.New at x given) = fold-roll-Expr ℕ layer_height (Expr-F.New at x given)
height_is (Expr-F.NewArray at b size n) = fold-roll-Expr ℕ layer_height (Expr-F.NewArray at b size n)
height_is (Expr-F.Field a x) = fold-roll-Expr ℕ layer_height (Expr-F.Field a x)
height_is (Expr-F.Method a x given) = fold-roll-Expr ℕ layer_height (Expr-F.Method a x given)
height_is (Expr-F.Element a i) = fold-roll-Expr ℕ layer_height (Expr-F.Element a i)
height_is (Expr-F.Unary at op a) = fold-roll-Expr ℕ layer_height (Expr-F.Unary at op a)
height_is (Expr-F.Cast at t a) = fold-roll-Expr ℕ layer_height (Expr-F.Cast at t a)
height_is (Expr-F.Binary op a b) = fold-roll-Expr ℕ layer_height (Expr-F.Binary op a b)
height_is (Expr-F.InstanceOf a t) = fold-roll-Expr ℕ layer_height (Expr-F.InstanceOf a t)
height_is (Expr-F.Conditional c a b) = fold-roll-Expr ℕ layer_height (Expr-F.Conditional c a b)

-- ---- no lower than its height

module _ (n : ℕ) (Part : Expr → ℕ → List Lexeme → List Lexeme → Type 0)
    (low : (e : Expr) (l : ℕ) (xs rest : List Lexeme) → Part e l xs rest → expr_height e ≤ n) where
  more_low : (given : List Expr) (xs rest : List Lexeme) → MoreArgs Part given xs rest → highest (map expr_height given) ≤ n
  more_low [] xs rest w = omega arith
  more_low (a ∷ more) xs rest w = omega (arith, low a 1 w.0 w.2 w.3, more_low more w.2 rest w.4)

  pub args_low : (given : List Expr) (xs rest : List Lexeme) → Args Part given xs rest → highest (map expr_height given) ≤ n
  args_low [] xs rest w = omega arith
  args_low (a ∷ more) xs rest w = omega (arith, low a 1 xs w.0 w.1, more_low more w.0 rest w.2)

  node_low : (f : Layer) (xs rest : List Lexeme) → inner_type_height f ≤ n → Node Part f xs rest → height_by f ≤ n + 1
  node_low (Expr-F.Call x given) xs rest fit w = omega (arith, args_low given w.2 rest w.4)
  node_low (Expr-F.Paren at a) xs rest fit w = omega (arith, low a 1 w.0 w.3 w.4)
  node_low (Expr-F.Super at x given) xs rest fit w = omega (arith, args_low given w.6 rest w.8)
  node_low (Expr-F.New at x given) xs rest fit w = omega (arith, args_low given w.4 rest w.6)
  node_low (Expr-F.NewArray at b size k) xs rest fit w = omega (arith, low size 1 w.4 w.6 w.7)
  node_low (Expr-F.Field a x) xs rest fit w = omega (arith, low a 14 xs w.0 w.1)
  node_low (Expr-F.Method a x given) xs rest fit w = omega (arith, low a 14 xs w.0 w.1, args_low given w.6 rest w.8)
  node_low (Expr-F.Element a i) xs rest fit w = omega (arith, low a 14 xs w.0 w.1, low i 1 w.2 w.4 w.5)
  node_low (Expr-F.Unary at op a) xs rest fit w = omega (arith, low a 12 w.0 rest w.2)
  node_low (Expr-F.Cast at t a) xs rest fit w = omega (arith, low a 13 w.5 rest w.7)
  node_low (Expr-F.Binary op a b) xs rest fit w = omega (arith, low a _ xs w.0 w.1, low b _ w.2 rest w.4)
  node_low (Expr-F.InstanceOf a t) xs rest fit w = omega (arith, low a 8 xs w.0 w.1)
  node_low (Expr-F.Conditional c a b) xs rest fit w = omega (arith, low c 2 xs w.0 w.1, low a 1 w.2 w.4 w.5, low b 1 w.6 rest w.8)
  node_low _ xs rest fit w = omega arith

as_layer : (e : Expr) → expr_height e ≡ height_by (out-Expr e)
as_layer e = subst (λ (t : Expr). expr_height t ≡ height_by (out-Expr e)) (roll-out-Expr e) (height_is (out-Expr e))

pub at_most : (n : ℕ) (e : Expr) (l : ℕ) (xs rest : List Lexeme) → Within n e l xs rest → expr_height e ≤ n
unfolding Within
at_most zero e l xs rest w = absurd w
at_most (suc n) e l xs rest w = omega (arith, as_layer e, node_low n (Within n) (at_most n) (out-Expr e) xs rest w.2 w.1)

-- ---- with each number that is no less than its height

module _ (n : ℕ) (Part Part' : Expr → ℕ → List Lexeme → List Lexeme → Type 0)
    (fits : (e : Expr) (l : ℕ) (xs rest : List Lexeme) → expr_height e ≤ n → Part e l xs rest → Part' e l xs rest) where
  more_fit : (given : List Expr) (xs rest : List Lexeme) → highest (map expr_height given) ≤ n → MoreArgs Part given xs rest → MoreArgs Part' given xs rest
  more_fit [] xs rest low w = w
  more_fit (a ∷ more) xs rest low w = (w.0, w.1, w.2, fits a 1 w.0 w.2 (omega arith) w.3, more_fit more w.2 rest (omega arith) w.4)

  pub args_fit : (given : List Expr) (xs rest : List Lexeme) → highest (map expr_height given) ≤ n → Args Part given xs rest → Args Part' given xs rest
  args_fit [] xs rest low w = w
  args_fit (a ∷ more) xs rest low w = (w.0, fits a 1 xs w.0 (omega arith) w.1, more_fit more w.0 rest (omega arith) w.2)

  node_fit : (f : Layer) (xs rest : List Lexeme) → height_by f ≤ n + 1 → Node Part f xs rest → Node Part' f xs rest
  node_fit (Expr-F.Number at v) xs rest low w = w
  node_fit (Expr-F.Text at x) xs rest low w = w
  node_fit (Expr-F.Bool at b) xs rest low w = w
  node_fit (Expr-F.Null at) xs rest low w = w
  node_fit (Expr-F.This at) xs rest low w = w
  node_fit (Expr-F.Name x) xs rest low w = w
  node_fit (Expr-F.Call x given) xs rest low w = (w.0, w.1, w.2, w.3, args_fit given w.2 rest (omega arith) w.4)
  node_fit (Expr-F.Paren at a) xs rest low w = (w.0, w.1, w.2, w.3, fits a 1 w.0 w.3 (omega arith) w.4, w.5)
  node_fit (Expr-F.Super at x given) xs rest low w = (w.0, w.1, w.2, w.3, w.4, w.5, w.6, w.7, args_fit given w.6 rest (omega arith) w.8)
  node_fit (Expr-F.New at x given) xs rest low w = (w.0, w.1, w.2, w.3, w.4, w.5, args_fit given w.4 rest (omega arith) w.6)
  node_fit (Expr-F.NewArray at b size k) xs rest low w =
      (w.0, w.1, w.2, w.3, w.4, w.5, w.6, fits size 1 w.4 w.6 (omega arith) w.7, w.8, w.9, w.10, w.11)
  node_fit (Expr-F.Field a x) xs rest low w = (w.0, fits a 14 xs w.0 (omega arith) w.1, w.2, w.3, w.4)
  node_fit (Expr-F.Method a x given) xs rest low w =
      (w.0, fits a 14 xs w.0 (omega arith) w.1, w.2, w.3, w.4, w.5, w.6, w.7, args_fit given w.6 rest (omega arith) w.8)
  node_fit (Expr-F.Element a i) xs rest low w =
      (w.0, fits a 14 xs w.0 (omega arith) w.1, w.2, w.3, w.4, fits i 1 w.2 w.4 (omega arith) w.5, w.6)
  node_fit (Expr-F.Unary at op a) xs rest low w = (w.0, w.1, fits a 12 w.0 rest (omega arith) w.2)
  node_fit (Expr-F.Cast at t a) xs rest low w = (w.0, w.1, w.2, w.3, w.4, w.5, w.6, fits a 13 w.5 rest (omega arith) w.7)
  node_fit (Expr-F.Binary op a b) xs rest low w =
      (w.0, fits a _ xs w.0 (omega arith) w.1, w.2, w.3, fits b _ w.2 rest (omega arith) w.4)
  node_fit (Expr-F.InstanceOf a t) xs rest low w = (w.0, fits a 8 xs w.0 (omega arith) w.1, w.2, w.3, w.4)
  node_fit (Expr-F.Conditional c a b) xs rest low w =
      (w.0, fits c 2 xs w.0 (omega arith) w.1, w.2, w.3, w.4, fits a 1 w.2 w.4 (omega arith) w.5, w.6, w.7, fits b 1 w.6 rest (omega arith) w.8)

pub some_height : (n : ℕ) (e : Expr) (l : ℕ) (xs rest : List Lexeme) → Within n e l xs rest → 0 < n
unfolding Within
some_height zero e l xs rest w = absurd w
some_height (suc n) e l xs rest w = omega arith

node_height : (f : Layer) → inner_type_height f < height_by f
node_height (Expr-F.Number at v) = omega arith
node_height _ = omega arith

pub fitting : (n m : ℕ) (e : Expr) (l : ℕ) (xs rest : List Lexeme) → expr_height e ≤ m → Within n e l xs rest → Within m e l xs rest
unfolding Within
fitting zero m e l xs rest low w = absurd w
fitting (suc n) zero e l xs rest low w = absurd (omega (arith, as_layer e, node_height (out-Expr e)))
fitting (suc n) (suc m) e l xs rest low w = (
  w.0,
  node_fit m (Within n) (Within m) (fitting n m) (out-Expr e) xs rest (omega (arith, as_layer e)) w.1,
  omega (arith, as_layer e, node_height (out-Expr e)),
)

pub at_height : (n : ℕ) (e : Expr) (l : ℕ) (xs rest : List Lexeme) → Within n e l xs rest → Within (expr_height e) e l xs rest
at_height n e l xs rest w = fitting n (expr_height e) e l xs rest (omega arith) w

pub grown : (n m : ℕ) → n ≤ m → (e : Expr) (l : ℕ) (xs rest : List Lexeme) → Within n e l xs rest → Within m e l xs rest
grown n m up e l xs rest w = fitting n m e l xs rest (omega (arith, at_most n e l xs rest w)) w

-- ---- of each lower level

pub leveled : (n : ℕ) (e : Expr) (l m : ℕ) (xs rest : List Lexeme) → m ≤ level (out-Expr e) → Within n e l xs rest → Within n e m xs rest
unfolding Within
leveled zero e l m xs rest low w = absurd w
leveled (suc n) e l m xs rest low w = (low, w.1, w.2)

-- ---- arguments, with parts of another height

module _ (Part Part' : Expr → ℕ → List Lexeme → List Lexeme → Type 0)
    (up : (e : Expr) (l : ℕ) (xs rest : List Lexeme) → Part e l xs rest → Part' e l xs rest) where
  pub more_map : (given : List Expr) (xs rest : List Lexeme) → MoreArgs Part given xs rest → MoreArgs Part' given xs rest
  more_map [] xs rest w = w
  more_map (a ∷ more) xs rest w = (w.0, w.1, w.2, up a 1 w.0 w.2 w.3, more_map more w.2 rest w.4)

  pub args_map : (given : List Expr) (xs rest : List Lexeme) → Args Part given xs rest → Args Part' given xs rest
  args_map [] xs rest w = w
  args_map (a ∷ more) xs rest w = (w.0, up a 1 xs w.0 w.1, more_map more w.0 rest w.2)

-- ---- a node over trees of height n

made_layer : (n : ℕ) (f : Layer) (l : ℕ) (xs rest : List Lexeme) → l ≤ level f → inner_type_height f ≤ n → Node (Within n) f xs rest
    → Within (suc n) (roll-Expr f) l xs rest
unfolding Within
made_layer n f l xs rest low fit w =
    let P : Layer → Type 0 = λ g. (l ≤ level g) × Node (Within n) g xs rest × (inner_type_height g ≤ n) in
    subst P (sym (out-roll-Expr f)) (low, w, fit)

pub made : (n h : ℕ) (f : Layer) (e : Expr) (l : ℕ) (xs rest : List Lexeme) → n < h → roll-Expr f ≡ e → l ≤ level f
    → inner_type_height f ≤ n → Node (Within n) f xs rest → Within h e l xs rest
made n h f e l xs rest up is low fit w =
    let P : Expr → Type 0 = λ t. Within h t l xs rest in
    subst P is (grown (suc n) h (omega arith) (roll-Expr f) l xs rest (made_layer n f l xs rest low fit w))
