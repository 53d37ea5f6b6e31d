-- What the type of an expression is, node by node.
use Rattle.std.proofs.Common.{◌≡◌, ◌∙◌, ℕ, ℤ, Bool, List, Option, Some, None, map, sym, ap}
use Rattle.std.specs.Option.{option_map}
use Rattle.core_tree.specs.declared.ty.Ty.{Ty}
use Rattle.core_tree.specs.declared.operator.UnOp.{UnOp}
use Rattle.core_tree.specs.declared.operator.BinOp.{BinOp}
use Rattle.core_tree.specs.declared.expr.Site.{Site}
use Rattle.core_tree.specs.declared.expr.Expr.{Expr}
use Rattle.core_tree.specs.declared.expr.Expr.TheVariants as expr
use Rattle.core_tree.specs.declared.expr.Expr.TheOpen.{Expr-F}
use Rattle.core_tree.specs.declared.expr.Expr.TheFolds.{fold-roll-Expr}
use Rattle.core_tree.specs.declared.program.Program.{Program}
use Rattle.core_tree.specs.Typing.{Scope, PartType, expr_node, type_of}

pub type_of-Int : (p : Program) (s : Scope) (n : ℤ) → type_of p s (expr.Int n) ≡ expr_node p s (Expr-F.Int n)
unfolding type_of
type_of-Int p s n = ap (type_of p s) (sym (expr.rolls-Int n)) ∙ fold-roll-Expr PartType (expr_node p s) (Expr-F.Int n)

pub type_of-Bool : (p : Program) (s : Scope) (b : Bool) → type_of p s (expr.Bool b) ≡ expr_node p s (Expr-F.Bool b)
unfolding type_of
type_of-Bool p s b = ap (type_of p s) (sym (expr.rolls-Bool b)) ∙ fold-roll-Expr PartType (expr_node p s) (Expr-F.Bool b)

pub type_of-Text : (p : Program) (s : Scope) (text : List ℕ) → type_of p s (expr.Text text) ≡ expr_node p s (Expr-F.Text text)
unfolding type_of
type_of-Text p s text = ap (type_of p s) (sym (expr.rolls-Text text)) ∙ fold-roll-Expr PartType (expr_node p s) (Expr-F.Text text)

pub type_of-Null : (p : Program) (s : Scope) → type_of p s expr.Null ≡ expr_node p s Expr-F.Null
unfolding type_of
type_of-Null p s = ap (type_of p s) (sym expr.rolls-Null) ∙ fold-roll-Expr PartType (expr_node p s) Expr-F.Null

pub type_of-This : (p : Program) (s : Scope) → type_of p s expr.This ≡ expr_node p s Expr-F.This
unfolding type_of
type_of-This p s = ap (type_of p s) (sym expr.rolls-This) ∙ fold-roll-Expr PartType (expr_node p s) Expr-F.This

pub type_of-Local : (p : Program) (s : Scope) (at : ℕ) → type_of p s (expr.Local at) ≡ expr_node p s (Expr-F.Local at)
unfolding type_of
type_of-Local p s at = ap (type_of p s) (sym (expr.rolls-Local at)) ∙ fold-roll-Expr PartType (expr_node p s) (Expr-F.Local at)

pub type_of-Field : (p : Program) (s : Scope) (object : Expr) (at : ℕ) → type_of p s (expr.Field object at) ≡ expr_node p s (Expr-F.Field (type_of p s object) at)
unfolding type_of
type_of-Field p s object at = ap (type_of p s) (sym (expr.rolls-Field object at)) ∙ fold-roll-Expr PartType (expr_node p s) (Expr-F.Field object at)

pub type_of-Length : (p : Program) (s : Scope) (array : Expr) → type_of p s (expr.Length array) ≡ expr_node p s (Expr-F.Length (type_of p s array))
unfolding type_of
type_of-Length p s array = ap (type_of p s) (sym (expr.rolls-Length array)) ∙ fold-roll-Expr PartType (expr_node p s) (Expr-F.Length array)

pub type_of-Element : (p : Program) (s : Scope) (array : Expr) (index : Expr) → type_of p s (expr.Element array index) ≡ expr_node p s (Expr-F.Element (type_of p s array) (type_of p s index))
unfolding type_of
type_of-Element p s array index = ap (type_of p s) (sym (expr.rolls-Element array index)) ∙ fold-roll-Expr PartType (expr_node p s) (Expr-F.Element array index)

pub type_of-TextLength : (p : Program) (s : Scope) (text : Expr) → type_of p s (expr.TextLength text) ≡ expr_node p s (Expr-F.TextLength (type_of p s text))
unfolding type_of
type_of-TextLength p s text = ap (type_of p s) (sym (expr.rolls-TextLength text)) ∙ fold-roll-Expr PartType (expr_node p s) (Expr-F.TextLength text)

pub type_of-TextEquals : (p : Program) (s : Scope) (a : Expr) (b : Expr) → type_of p s (expr.TextEquals a b) ≡ expr_node p s (Expr-F.TextEquals (type_of p s a) (type_of p s b))
unfolding type_of
type_of-TextEquals p s a b = ap (type_of p s) (sym (expr.rolls-TextEquals a b)) ∙ fold-roll-Expr PartType (expr_node p s) (Expr-F.TextEquals a b)

pub type_of-Message : (p : Program) (s : Scope) (object : Expr) → type_of p s (expr.Message object) ≡ expr_node p s (Expr-F.Message (type_of p s object))
unfolding type_of
type_of-Message p s object = ap (type_of p s) (sym (expr.rolls-Message object)) ∙ fold-roll-Expr PartType (expr_node p s) (Expr-F.Message object)

pub type_of-Static : (p : Program) (s : Scope) (m : ℕ) (arguments : List Expr) (site : Site) → type_of p s (expr.Static m arguments site) ≡ expr_node p s (Expr-F.Static m (map (type_of p s) arguments) site)
unfolding type_of
type_of-Static p s m arguments site = ap (type_of p s) (sym (expr.rolls-Static m arguments site)) ∙ fold-roll-Expr PartType (expr_node p s) (Expr-F.Static m arguments site)

pub type_of-Chosen : (p : Program) (s : Scope) (object : Expr) (selector : ℕ) (arguments : List Expr) (site : Site) → type_of p s (expr.Chosen object selector arguments site) ≡ expr_node p s (Expr-F.Chosen (type_of p s object) selector (map (type_of p s) arguments) site)
unfolding type_of
type_of-Chosen p s object selector arguments site = ap (type_of p s) (sym (expr.rolls-Chosen object selector arguments site)) ∙ fold-roll-Expr PartType (expr_node p s) (Expr-F.Chosen object selector arguments site)

pub type_of-Super : (p : Program) (s : Scope) (m : ℕ) (arguments : List Expr) (site : Site) → type_of p s (expr.Super m arguments site) ≡ expr_node p s (Expr-F.Super m (map (type_of p s) arguments) site)
unfolding type_of
type_of-Super p s m arguments site = ap (type_of p s) (sym (expr.rolls-Super m arguments site)) ∙ fold-roll-Expr PartType (expr_node p s) (Expr-F.Super m arguments site)

pub type_of-New : (p : Program) (s : Scope) (k : ℕ) (arguments : List Expr) → type_of p s (expr.New k arguments) ≡ expr_node p s (Expr-F.New k (map (type_of p s) arguments))
unfolding type_of
type_of-New p s k arguments = ap (type_of p s) (sym (expr.rolls-New k arguments)) ∙ fold-roll-Expr PartType (expr_node p s) (Expr-F.New k arguments)

pub type_of-NewBuilt : (p : Program) (s : Scope) (c : ℕ) (message : Option Expr) → type_of p s (expr.NewBuilt c message) ≡ expr_node p s (Expr-F.NewBuilt c (option_map (type_of p s) message))
unfolding type_of
type_of-NewBuilt p s c None = ap (type_of p s) (sym (expr.rolls-NewBuilt c None)) ∙ fold-roll-Expr PartType (expr_node p s) (Expr-F.NewBuilt c None)
type_of-NewBuilt p s c (Some message) = ap (type_of p s) (sym (expr.rolls-NewBuilt c (Some message))) ∙ fold-roll-Expr PartType (expr_node p s) (Expr-F.NewBuilt c (Some message))

pub type_of-NewArray : (p : Program) (s : Scope) (elements : Ty) (size : Expr) → type_of p s (expr.NewArray elements size) ≡ expr_node p s (Expr-F.NewArray elements (type_of p s size))
unfolding type_of
type_of-NewArray p s elements size = ap (type_of p s) (sym (expr.rolls-NewArray elements size)) ∙ fold-roll-Expr PartType (expr_node p s) (Expr-F.NewArray elements size)

pub type_of-Unary : (p : Program) (s : Scope) (op : UnOp) (a : Expr) → type_of p s (expr.Unary op a) ≡ expr_node p s (Expr-F.Unary op (type_of p s a))
unfolding type_of
type_of-Unary p s op a = ap (type_of p s) (sym (expr.rolls-Unary op a)) ∙ fold-roll-Expr PartType (expr_node p s) (Expr-F.Unary op a)

pub type_of-Binary : (p : Program) (s : Scope) (op : BinOp) (a : Expr) (b : Expr) → type_of p s (expr.Binary op a b) ≡ expr_node p s (Expr-F.Binary op (type_of p s a) (type_of p s b))
unfolding type_of
type_of-Binary p s op a b = ap (type_of p s) (sym (expr.rolls-Binary op a b)) ∙ fold-roll-Expr PartType (expr_node p s) (Expr-F.Binary op a b)

pub type_of-And : (p : Program) (s : Scope) (a : Expr) (b : Expr) → type_of p s (expr.And a b) ≡ expr_node p s (Expr-F.And (type_of p s a) (type_of p s b))
unfolding type_of
type_of-And p s a b = ap (type_of p s) (sym (expr.rolls-And a b)) ∙ fold-roll-Expr PartType (expr_node p s) (Expr-F.And a b)

pub type_of-Or : (p : Program) (s : Scope) (a : Expr) (b : Expr) → type_of p s (expr.Or a b) ≡ expr_node p s (Expr-F.Or (type_of p s a) (type_of p s b))
unfolding type_of
type_of-Or p s a b = ap (type_of p s) (sym (expr.rolls-Or a b)) ∙ fold-roll-Expr PartType (expr_node p s) (Expr-F.Or a b)

pub type_of-Cond : (p : Program) (s : Scope) (test : Expr) (a : Expr) (b : Expr) → type_of p s (expr.Cond test a b) ≡ expr_node p s (Expr-F.Cond (type_of p s test) (type_of p s a) (type_of p s b))
unfolding type_of
type_of-Cond p s test a b = ap (type_of p s) (sym (expr.rolls-Cond test a b)) ∙ fold-roll-Expr PartType (expr_node p s) (Expr-F.Cond test a b)

pub type_of-Cast : (p : Program) (s : Scope) (to : Ty) (from : Expr) → type_of p s (expr.Cast to from) ≡ expr_node p s (Expr-F.Cast to (type_of p s from))
unfolding type_of
type_of-Cast p s to from = ap (type_of p s) (sym (expr.rolls-Cast to from)) ∙ fold-roll-Expr PartType (expr_node p s) (Expr-F.Cast to from)

pub type_of-Is : (p : Program) (s : Scope) (to : Ty) (from : Expr) → type_of p s (expr.Is to from) ≡ expr_node p s (Expr-F.Is to (type_of p s from))
unfolding type_of
type_of-Is p s to from = ap (type_of p s) (sym (expr.rolls-Is to from)) ∙ fold-roll-Expr PartType (expr_node p s) (Expr-F.Is to from)

pub type_of-Concat : (p : Program) (s : Scope) (a : Expr) (b : Expr) → type_of p s (expr.Concat a b) ≡ expr_node p s (Expr-F.Concat (type_of p s a) (type_of p s b))
unfolding type_of
type_of-Concat p s a b = ap (type_of p s) (sym (expr.rolls-Concat a b)) ∙ fold-roll-Expr PartType (expr_node p s) (Expr-F.Concat a b)
