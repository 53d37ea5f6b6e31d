-- The height of each kind of node, by those of its parts.
use Rattle.std.proofs.Common.{◌≡◌, ◌∙◌, ℕ, ◌+◌, max, List, Bool, map, sym, ap}
use Rattle.java_syntax.specs.declared.expression.Expr.{Expr}
use Rattle.java_syntax.specs.declared.expression.Expr.TheFolds.{fold-roll-Expr}
use Rattle.java_syntax.specs.declared.expression.Expr.TheOpen.{Expr-F}
use Rattle.java_syntax.specs.declared.expression.Expr.TheVariants as e
use Rattle.java_syntax.specs.declared.expression.Expr.TheVariants.{rolls-Number, rolls-Text, rolls-Bool, rolls-Null, rolls-This, rolls-Name, rolls-Call, rolls-Paren, rolls-Super, rolls-New, rolls-NewArray, rolls-Field, rolls-Method, rolls-Element, rolls-Unary, rolls-Cast, rolls-Binary, rolls-InstanceOf, rolls-Conditional}
use Rattle.token_reading.specs.declared.name.BaseType.{BaseType}
use Rattle.token_reading.specs.declared.name.Ident.{Ident}
use Rattle.token_reading.specs.declared.name.TypeTree.{TypeTree}
use Rattle.java_syntax.specs.declared.operator.BinaryOp.{BinaryOp}
use Rattle.java_syntax.specs.declared.operator.UnaryOp.{UnaryOp}
use Rattle.token_reading.specs.Height.{highest, type_height}
use Rattle.java_syntax.specs.Height.{layer_height, expr_height}

pub height_number : (at n : ℕ) → expr_height (e.Number at n) ≡ 1
height_number at n = ap expr_height (sym (rolls-Number at n)) ∙ fold-roll-Expr ℕ layer_height (Expr-F.Number at n)

pub height_text : (at : ℕ) (x : List ℕ) → expr_height (e.Text at x) ≡ 1
height_text at x = ap expr_height (sym (rolls-Text at x)) ∙ fold-roll-Expr ℕ layer_height (Expr-F.Text at x)

pub height_bool : (at : ℕ) (b : Bool) → expr_height (e.Bool at b) ≡ 1
height_bool at b = ap expr_height (sym (rolls-Bool at b)) ∙ fold-roll-Expr ℕ layer_height (Expr-F.Bool at b)

pub height_null : (at : ℕ) → expr_height (e.Null at) ≡ 1
height_null at = ap expr_height (sym (rolls-Null at)) ∙ fold-roll-Expr ℕ layer_height (Expr-F.Null at)

pub height_this : (at : ℕ) → expr_height (e.This at) ≡ 1
height_this at = ap expr_height (sym (rolls-This at)) ∙ fold-roll-Expr ℕ layer_height (Expr-F.This at)

pub height_name : (x : Ident) → expr_height (e.Name x) ≡ 1
height_name x = ap expr_height (sym (rolls-Name x)) ∙ fold-roll-Expr ℕ layer_height (Expr-F.Name x)

pub height_call : (x : Ident) (given : List Expr) → expr_height (e.Call x given) ≡ highest (map expr_height given) + 1
height_call x given = ap expr_height (sym (rolls-Call x given)) ∙ fold-roll-Expr ℕ layer_height (Expr-F.Call x given)

pub height_paren : (at : ℕ) (a : Expr) → expr_height (e.Paren at a) ≡ expr_height a + 1
height_paren at a = ap expr_height (sym (rolls-Paren at a)) ∙ fold-roll-Expr ℕ layer_height (Expr-F.Paren at a)

pub height_super : (at : ℕ) (x : Ident) (given : List Expr) → expr_height (e.Super at x given) ≡ highest (map expr_height given) + 1
height_super at x given = ap expr_height (sym (rolls-Super at x given)) ∙ fold-roll-Expr ℕ layer_height (Expr-F.Super at x given)

pub height_new : (at : ℕ) (x : Ident) (given : List Expr) → expr_height (e.New at x given) ≡ highest (map expr_height given) + 1
height_new at x given = ap expr_height (sym (rolls-New at x given)) ∙ fold-roll-Expr ℕ layer_height (Expr-F.New at x given)

pub height_new_array : (at : ℕ) (b : BaseType) (a : Expr) (n : ℕ) → expr_height (e.NewArray at b a n) ≡ max n (expr_height a) + 1
height_new_array at b a n = ap expr_height (sym (rolls-NewArray at b a n)) ∙ fold-roll-Expr ℕ layer_height (Expr-F.NewArray at b a n)

pub height_field : (a : Expr) (x : Ident) → expr_height (e.Field a x) ≡ expr_height a + 1
height_field a x = ap expr_height (sym (rolls-Field a x)) ∙ fold-roll-Expr ℕ layer_height (Expr-F.Field a x)

pub height_method : (a : Expr) (x : Ident) (given : List Expr)
    → expr_height (e.Method a x given) ≡ max (expr_height a) (highest (map expr_height given)) + 1
height_method a x given = ap expr_height (sym (rolls-Method a x given)) ∙ fold-roll-Expr ℕ layer_height (Expr-F.Method a x given)

pub height_element : (a i : Expr) → expr_height (e.Element a i) ≡ max (expr_height a) (expr_height i) + 1
height_element a i = ap expr_height (sym (rolls-Element a i)) ∙ fold-roll-Expr ℕ layer_height (Expr-F.Element a i)

pub height_unary : (at : ℕ) (op : UnaryOp) (a : Expr) → expr_height (e.Unary at op a) ≡ expr_height a + 1
height_unary at op a = ap expr_height (sym (rolls-Unary at op a)) ∙ fold-roll-Expr ℕ layer_height (Expr-F.Unary at op a)

pub height_cast : (at : ℕ) (t : TypeTree) (a : Expr) → expr_height (e.Cast at t a) ≡ max (type_height t) (expr_height a) + 1
height_cast at t a = ap expr_height (sym (rolls-Cast at t a)) ∙ fold-roll-Expr ℕ layer_height (Expr-F.Cast at t a)

pub height_binary : (op : BinaryOp) (a b : Expr) → expr_height (e.Binary op a b) ≡ max (expr_height a) (expr_height b) + 1
height_binary op a b = ap expr_height (sym (rolls-Binary op a b)) ∙ fold-roll-Expr ℕ layer_height (Expr-F.Binary op a b)

pub height_instance_of : (a : Expr) (t : TypeTree) → expr_height (e.InstanceOf a t) ≡ max (type_height t) (expr_height a) + 1
height_instance_of a t = ap expr_height (sym (rolls-InstanceOf a t)) ∙ fold-roll-Expr ℕ layer_height (Expr-F.InstanceOf a t)

pub height_conditional : (c a b : Expr) → expr_height (e.Conditional c a b) ≡ max (expr_height c) (max (expr_height a) (expr_height b)) + 1
height_conditional c a b = ap expr_height (sym (rolls-Conditional c a b)) ∙ fold-roll-Expr ℕ layer_height (Expr-F.Conditional c a b)

pub ruleset heights = (
  height_number,
  height_text,
  height_bool,
  height_null,
  height_this,
  height_name,
  height_call,
  height_paren,
  height_super,
  height_new,
  height_new_array,
  height_field,
  height_method,
  height_element,
  height_unary,
  height_cast,
  height_binary,
  height_instance_of,
  height_conditional,
)
