-- Which formulas of a contract are well typed, node by node.
use Rattle.std.proofs.Common.{◌≡◌, ◌∙◌, ℕ, Bool, List, sym, ap}
use Rattle.core_tree.specs.declared.operator.BinOp.{BinOp}
use Rattle.core_tree.specs.declared.program.Class.{Class}
use Rattle.core_tree.specs.declared.terms.SetExpr.{SetExpr}
use Rattle.core_tree.specs.declared.terms.IntExpr.{IntExpr}
use Rattle.core_tree.specs.declared.terms.Formula.{Formula}
use Rattle.core_tree.specs.declared.terms.Formula.TheVariants as formula
use Rattle.core_tree.specs.declared.terms.Formula.TheOpen.{Formula-F}
use Rattle.core_tree.specs.declared.terms.Formula.TheFolds.{fold-roll-Formula}
use Rattle.core_tree.specs.Typing.{Scope}
use Rattle.core_tree.specs.TypedTerms.{InBinders, formula_node, is_formula}

pub is_formula-Bool : (classes : List Class) (s : Scope) (b : Bool) → is_formula classes s (formula.Bool b) ≡ formula_node classes s (Formula-F.Bool b)
unfolding is_formula
is_formula-Bool classes s b = ap (is_formula classes s) (sym (formula.rolls-Bool b)) ∙ fold-roll-Formula InBinders (formula_node classes s) (Formula-F.Bool b)

pub is_formula-Param : (classes : List Class) (s : Scope) (k : ℕ) → is_formula classes s (formula.Param k) ≡ formula_node classes s (Formula-F.Param k)
unfolding is_formula
is_formula-Param classes s k = ap (is_formula classes s) (sym (formula.rolls-Param k)) ∙ fold-roll-Formula InBinders (formula_node classes s) (Formula-F.Param k)

pub is_formula-Answer : (classes : List Class) (s : Scope) → is_formula classes s formula.Answer ≡ formula_node classes s Formula-F.Answer
unfolding is_formula
is_formula-Answer classes s = ap (is_formula classes s) (sym formula.rolls-Answer) ∙ fold-roll-Formula InBinders (formula_node classes s) Formula-F.Answer

pub is_formula-Old : (classes : List Class) (s : Scope) (f : Formula) → is_formula classes s (formula.Old f) ≡ formula_node classes s (Formula-F.Old (is_formula classes s f))
unfolding is_formula
is_formula-Old classes s f = ap (is_formula classes s) (sym (formula.rolls-Old f)) ∙ fold-roll-Formula InBinders (formula_node classes s) (Formula-F.Old f)

pub is_formula-Field : (classes : List Class) (s : Scope) (a : SetExpr) (name : List ℕ) → is_formula classes s (formula.Field a name) ≡ formula_node classes s (Formula-F.Field a name)
unfolding is_formula
is_formula-Field classes s a name = ap (is_formula classes s) (sym (formula.rolls-Field a name)) ∙ fold-roll-Formula InBinders (formula_node classes s) (Formula-F.Field a name)

pub is_formula-Equal : (classes : List Class) (s : Scope) (a : SetExpr) (b : SetExpr) → is_formula classes s (formula.Equal a b) ≡ formula_node classes s (Formula-F.Equal a b)
unfolding is_formula
is_formula-Equal classes s a b = ap (is_formula classes s) (sym (formula.rolls-Equal a b)) ∙ fold-roll-Formula InBinders (formula_node classes s) (Formula-F.Equal a b)

pub is_formula-Differ : (classes : List Class) (s : Scope) (a : SetExpr) (b : SetExpr) → is_formula classes s (formula.Differ a b) ≡ formula_node classes s (Formula-F.Differ a b)
unfolding is_formula
is_formula-Differ classes s a b = ap (is_formula classes s) (sym (formula.rolls-Differ a b)) ∙ fold-roll-Formula InBinders (formula_node classes s) (Formula-F.Differ a b)

pub is_formula-Subset : (classes : List Class) (s : Scope) (a : SetExpr) (b : SetExpr) → is_formula classes s (formula.Subset a b) ≡ formula_node classes s (Formula-F.Subset a b)
unfolding is_formula
is_formula-Subset classes s a b = ap (is_formula classes s) (sym (formula.rolls-Subset a b)) ∙ fold-roll-Formula InBinders (formula_node classes s) (Formula-F.Subset a b)

pub is_formula-Compare : (classes : List Class) (s : Scope) (op : BinOp) (i : IntExpr) (j : IntExpr) → is_formula classes s (formula.Compare op i j) ≡ formula_node classes s (Formula-F.Compare op i j)
unfolding is_formula
is_formula-Compare classes s op i j = ap (is_formula classes s) (sym (formula.rolls-Compare op i j)) ∙ fold-roll-Formula InBinders (formula_node classes s) (Formula-F.Compare op i j)

pub is_formula-NonEmpty : (classes : List Class) (s : Scope) (a : SetExpr) → is_formula classes s (formula.NonEmpty a) ≡ formula_node classes s (Formula-F.NonEmpty a)
unfolding is_formula
is_formula-NonEmpty classes s a = ap (is_formula classes s) (sym (formula.rolls-NonEmpty a)) ∙ fold-roll-Formula InBinders (formula_node classes s) (Formula-F.NonEmpty a)

pub is_formula-Empty : (classes : List Class) (s : Scope) (a : SetExpr) → is_formula classes s (formula.Empty a) ≡ formula_node classes s (Formula-F.Empty a)
unfolding is_formula
is_formula-Empty classes s a = ap (is_formula classes s) (sym (formula.rolls-Empty a)) ∙ fold-roll-Formula InBinders (formula_node classes s) (Formula-F.Empty a)

pub is_formula-One : (classes : List Class) (s : Scope) (a : SetExpr) → is_formula classes s (formula.One a) ≡ formula_node classes s (Formula-F.One a)
unfolding is_formula
is_formula-One classes s a = ap (is_formula classes s) (sym (formula.rolls-One a)) ∙ fold-roll-Formula InBinders (formula_node classes s) (Formula-F.One a)

pub is_formula-Lone : (classes : List Class) (s : Scope) (a : SetExpr) → is_formula classes s (formula.Lone a) ≡ formula_node classes s (Formula-F.Lone a)
unfolding is_formula
is_formula-Lone classes s a = ap (is_formula classes s) (sym (formula.rolls-Lone a)) ∙ fold-roll-Formula InBinders (formula_node classes s) (Formula-F.Lone a)

pub is_formula-All : (classes : List Class) (s : Scope) (a : SetExpr) (f : Formula) → is_formula classes s (formula.All a f) ≡ formula_node classes s (Formula-F.All a (is_formula classes s f))
unfolding is_formula
is_formula-All classes s a f = ap (is_formula classes s) (sym (formula.rolls-All a f)) ∙ fold-roll-Formula InBinders (formula_node classes s) (Formula-F.All a f)

pub is_formula-Exists : (classes : List Class) (s : Scope) (a : SetExpr) (f : Formula) → is_formula classes s (formula.Exists a f) ≡ formula_node classes s (Formula-F.Exists a (is_formula classes s f))
unfolding is_formula
is_formula-Exists classes s a f = ap (is_formula classes s) (sym (formula.rolls-Exists a f)) ∙ fold-roll-Formula InBinders (formula_node classes s) (Formula-F.Exists a f)

pub is_formula-NoneOf : (classes : List Class) (s : Scope) (a : SetExpr) (f : Formula) → is_formula classes s (formula.NoneOf a f) ≡ formula_node classes s (Formula-F.NoneOf a (is_formula classes s f))
unfolding is_formula
is_formula-NoneOf classes s a f = ap (is_formula classes s) (sym (formula.rolls-NoneOf a f)) ∙ fold-roll-Formula InBinders (formula_node classes s) (Formula-F.NoneOf a f)

pub is_formula-Element : (classes : List Class) (s : Scope) (a : SetExpr) (i : IntExpr) → is_formula classes s (formula.Element a i) ≡ formula_node classes s (Formula-F.Element a i)
unfolding is_formula
is_formula-Element classes s a i = ap (is_formula classes s) (sym (formula.rolls-Element a i)) ∙ fold-roll-Formula InBinders (formula_node classes s) (Formula-F.Element a i)

pub is_formula-AllInt : (classes : List Class) (s : Scope) (i : IntExpr) (j : IntExpr) (f : Formula) → is_formula classes s (formula.AllInt i j f) ≡ formula_node classes s (Formula-F.AllInt i j (is_formula classes s f))
unfolding is_formula
is_formula-AllInt classes s i j f = ap (is_formula classes s) (sym (formula.rolls-AllInt i j f)) ∙ fold-roll-Formula InBinders (formula_node classes s) (Formula-F.AllInt i j f)

pub is_formula-SomeInt : (classes : List Class) (s : Scope) (i : IntExpr) (j : IntExpr) (f : Formula) → is_formula classes s (formula.SomeInt i j f) ≡ formula_node classes s (Formula-F.SomeInt i j (is_formula classes s f))
unfolding is_formula
is_formula-SomeInt classes s i j f = ap (is_formula classes s) (sym (formula.rolls-SomeInt i j f)) ∙ fold-roll-Formula InBinders (formula_node classes s) (Formula-F.SomeInt i j f)

pub is_formula-NoInt : (classes : List Class) (s : Scope) (i : IntExpr) (j : IntExpr) (f : Formula) → is_formula classes s (formula.NoInt i j f) ≡ formula_node classes s (Formula-F.NoInt i j (is_formula classes s f))
unfolding is_formula
is_formula-NoInt classes s i j f = ap (is_formula classes s) (sym (formula.rolls-NoInt i j f)) ∙ fold-roll-Formula InBinders (formula_node classes s) (Formula-F.NoInt i j f)

pub is_formula-Not : (classes : List Class) (s : Scope) (f : Formula) → is_formula classes s (formula.Not f) ≡ formula_node classes s (Formula-F.Not (is_formula classes s f))
unfolding is_formula
is_formula-Not classes s f = ap (is_formula classes s) (sym (formula.rolls-Not f)) ∙ fold-roll-Formula InBinders (formula_node classes s) (Formula-F.Not f)

pub is_formula-And : (classes : List Class) (s : Scope) (f : Formula) (g : Formula) → is_formula classes s (formula.And f g) ≡ formula_node classes s (Formula-F.And (is_formula classes s f) (is_formula classes s g))
unfolding is_formula
is_formula-And classes s f g = ap (is_formula classes s) (sym (formula.rolls-And f g)) ∙ fold-roll-Formula InBinders (formula_node classes s) (Formula-F.And f g)

pub is_formula-Or : (classes : List Class) (s : Scope) (f : Formula) (g : Formula) → is_formula classes s (formula.Or f g) ≡ formula_node classes s (Formula-F.Or (is_formula classes s f) (is_formula classes s g))
unfolding is_formula
is_formula-Or classes s f g = ap (is_formula classes s) (sym (formula.rolls-Or f g)) ∙ fold-roll-Formula InBinders (formula_node classes s) (Formula-F.Or f g)

pub is_formula-Implies : (classes : List Class) (s : Scope) (f : Formula) (g : Formula) → is_formula classes s (formula.Implies f g) ≡ formula_node classes s (Formula-F.Implies (is_formula classes s f) (is_formula classes s g))
unfolding is_formula
is_formula-Implies classes s f g = ap (is_formula classes s) (sym (formula.rolls-Implies f g)) ∙ fold-roll-Formula InBinders (formula_node classes s) (Formula-F.Implies f g)

pub is_formula-Iff : (classes : List Class) (s : Scope) (f : Formula) (g : Formula) → is_formula classes s (formula.Iff f g) ≡ formula_node classes s (Formula-F.Iff (is_formula classes s f) (is_formula classes s g))
unfolding is_formula
is_formula-Iff classes s f g = ap (is_formula classes s) (sym (formula.rolls-Iff f g)) ∙ fold-roll-Formula InBinders (formula_node classes s) (Formula-F.Iff f g)
