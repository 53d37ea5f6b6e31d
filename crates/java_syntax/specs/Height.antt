-- The height of a tree: the nodes on its longest path. Each node of `Expr` counts one, and so does each pair of
-- brackets of a type.
use Rattle.std.specs.Prelude.{ℕ, ◌+◌, max, Option, Some, None, map}
use Rattle.token_reading.specs.Height.{highest, type_height, params_height}
use Rattle.java_syntax.specs.Classes.{answer_height}
use Rattle.java_syntax.specs.declared.class.ClassTree.{ClassTree}
use Rattle.java_syntax.specs.declared.class.FileTree.{FileTree}
use Rattle.java_syntax.specs.declared.class.Member.{Member}
use Rattle.java_syntax.specs.declared.class.Member.TheVariants as member
use Rattle.java_syntax.specs.declared.expression.Expr.{Expr}
use Rattle.java_syntax.specs.declared.expression.Expr.TheOpen.{Expr-F}
use Rattle.java_syntax.specs.declared.expression.Expr.TheFolds.{fold-Expr}
use Rattle.java_syntax.specs.declared.statement.CatchTree.{CatchTree, CatchTree-F}
use Rattle.java_syntax.specs.declared.statement.Stmt.{Stmt}
use Rattle.java_syntax.specs.declared.statement.Stmt.TheOpen.{Stmt-F}
use Rattle.java_syntax.specs.declared.statement.Stmt.TheFolds.{fold-Stmt, fold-CatchTree}

-- one node, with the height of each part in its place; a leaf has height 1
abbrev pub layer_height : Expr-F ℕ → ℕ
layer_height (Expr-F.Call x given) = highest given + 1
layer_height (Expr-F.Paren at a) = a + 1
layer_height (Expr-F.Super at x given) = highest given + 1
layer_height (Expr-F.New at x given) = highest given + 1
layer_height (Expr-F.NewArray at base size dimensions) = max dimensions size + 1
layer_height (Expr-F.Field a x) = a + 1
layer_height (Expr-F.Method a x given) = max a (highest given) + 1
layer_height (Expr-F.Element a i) = max a i + 1
layer_height (Expr-F.Unary at op a) = a + 1
layer_height (Expr-F.Cast at t a) = max (type_height t) a + 1
layer_height (Expr-F.Binary op a b) = max a b + 1
layer_height (Expr-F.InstanceOf a t) = max (type_height t) a + 1
layer_height (Expr-F.Conditional c a b) = max c (max a b) + 1
layer_height _ = 1

abbrev pub expr_height : Expr → ℕ
expr_height = fold-Expr ℕ layer_height

-- ---- statements

-- of an expression that may be left out, and 0 of none
abbrev pub value_height : Option Expr → ℕ
value_height None = 0
value_height (Some e) = expr_height e

-- the same of a part
abbrev pub part_height : Option ℕ → ℕ
part_height None = 0
part_height (Some h) = h

-- One statement, with the height of each part in its place. A declaration, an assignment or a step is one node, in the
-- header of a `for` too.
abbrev pub stmt_layer_height : Stmt-F ℕ ℕ → ℕ
stmt_layer_height (Stmt-F.Block all) = highest all + 1
stmt_layer_height (Stmt-F.Local t) = max (type_height t.ty) (value_height t.value) + 1
stmt_layer_height (Stmt-F.Assign a op e) = max (expr_height a) (expr_height e) + 1
stmt_layer_height (Stmt-F.Step op side a) = expr_height a + 1
stmt_layer_height (Stmt-F.Eval e) = expr_height e + 1
stmt_layer_height (Stmt-F.Super at given) = highest (map expr_height given) + 1
stmt_layer_height (Stmt-F.If c s other) = max (expr_height c) (max s (part_height other)) + 1
stmt_layer_height (Stmt-F.While c s) = max (expr_height c) s + 1
stmt_layer_height (Stmt-F.DoWhile s c) = max s (expr_height c) + 1
stmt_layer_height (Stmt-F.For start c update s) = max (highest start) (max (value_height c) (max (highest update) s)) + 1
stmt_layer_height (Stmt-F.Return at e) = value_height e + 1
stmt_layer_height (Stmt-F.Throw e) = expr_height e + 1
stmt_layer_height (Stmt-F.Try body clauses last) = max body (max (highest clauses) (part_height last)) + 1
stmt_layer_height _ = 1

-- A catch clause is no node: its block is one.
abbrev pub catch_layer_height : CatchTree-F ℕ ℕ → ℕ
catch_layer_height c = c.body

abbrev pub stmt_height : Stmt → ℕ
stmt_height = fold-Stmt ℕ ℕ stmt_layer_height catch_layer_height

abbrev pub catch_height : CatchTree → ℕ
catch_height = fold-CatchTree ℕ ℕ stmt_layer_height catch_layer_height

-- ---- files

-- A member is one node, the braces of its body included.
abbrev pub member_height : Member → ℕ
member_height (member.Field t) = max (type_height t.ty) (value_height t.value) + 1
member_height (member.Method t) = max (answer_height t.answer) (max (params_height t.params) (highest (map stmt_height t.body))) + 1
member_height (member.Maker t) = max (params_height t.params) (highest (map stmt_height t.body)) + 1
member_height member.Empty = 1

abbrev pub class_height : ClassTree → ℕ
class_height t = highest (map member_height t.members) + 1

-- A file is no node.
abbrev pub file_height : FileTree → ℕ
file_height t = highest (map class_height t.classes)
