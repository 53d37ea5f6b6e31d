-- Which terms of contracts are well typed. A term is a set, a whole number or a formula; its names are gone, but for
-- those of fields.
use Rattle.std.specs.Prelude.{ℕ, suc, ℤ, pos, ◌^◌, Bool, true, false, ◌&&◌, nat_eq, nat_lt, int_le, List, length, slice_get, is_some}
use Rattle.std.specs.List.{list_all, filter, flat_map}
use Rattle.std.specs.Cmp.Lexicographic.{pointwise}
use Rattle.core_tree.specs.declared.operator.BinOp.{BinOp}
use Rattle.core_tree.specs.declared.operator.BinOp.TheVariants as binary
use Rattle.core_tree.specs.declared.ty.Ty.{Ty}
use Rattle.core_tree.specs.declared.program.Class.{Class}
use Rattle.core_tree.specs.declared.program.Field.{Field}
use Rattle.core_tree.specs.declared.terms.RelExpr.{RelExpr}
use Rattle.core_tree.specs.declared.terms.RelExpr.TheOpen.{RelExpr-F}
use Rattle.core_tree.specs.declared.terms.RelExpr.TheFolds.{fold-RelExpr}
use Rattle.core_tree.specs.declared.terms.SetExpr.{SetExpr}
use Rattle.core_tree.specs.declared.terms.IntExpr.TheOpen.{SetExpr-F, IntExpr-F}
use Rattle.core_tree.specs.declared.terms.IntExpr.TheFolds.{fold-SetExpr, fold-IntExpr}
use Rattle.core_tree.specs.declared.terms.IntExpr.{IntExpr}
use Rattle.core_tree.specs.declared.terms.Formula.{Formula}
use Rattle.core_tree.specs.declared.terms.Formula.TheOpen.{Formula-F}
use Rattle.core_tree.specs.declared.terms.Formula.TheFolds.{fold-Formula}
use Rattle.core_tree.specs.Types.{class_of, is_int, is_boolean}
use Rattle.core_tree.specs.Typing.{Scope, has}
use Rattle.core_tree.specs.TermBounds.{bound_of}

-- ---- kinds

-- a class type, of which a value is a set
abbrev pub is_class_type : Ty → Bool
is_class_type t = is_some (class_of t)

-- the fields of this name in all classes
abbrev pub fields_named : List Class → List ℕ → List Field
fields_named classes name = filter (λ field. pointwise nat_eq field.name name) (flat_map (λ class. class.fields) classes)

-- some class has a field of this name, and all of them have a type that passes the test
abbrev pub are_fields : (Ty → Bool) → List Class → List ℕ → Bool
are_fields test classes name = let fields = fields_named classes name in nat_lt 0 (length fields) && list_all (λ field. test field.ty) fields

-- a number without a sign, no greater than the negation of the least int
abbrev pub is_literal : ℤ → Bool
is_literal n = int_le (pos 0) n && int_le n (pos (2 ^ 31))

-- ---- relations

abbrev pub relation_node : List Class → RelExpr-F Bool → Bool
-- a field of class types
relation_node classes (RelExpr-F.Field name) = are_fields is_class_type classes name
relation_node classes (RelExpr-F.Paths r) = r
relation_node classes (RelExpr-F.PathsOrSame r) = r
relation_node classes (RelExpr-F.Converse r) = r
relation_node classes (RelExpr-F.Union a b) = a && b
relation_node classes (RelExpr-F.Minus a b) = a && b
relation_node classes (RelExpr-F.Meet a b) = a && b
relation_node classes (RelExpr-F.Join a b) = a && b

-- a relation is well typed
unfoldable pub is_relation : List Class → RelExpr → Bool
is_relation classes = fold-RelExpr Bool (relation_node classes)

-- ---- sets and whole numbers

-- whether a term is well typed, with that many variables bound around it
abbrev pub InBinders : Type 0
InBinders = ℕ → Bool

-- a scope's locals are the method's parameters here, and its answer is `Void` where no result may be named
abbrev pub set_node : List Class → Scope → SetExpr-F InBinders InBinders → InBinders
-- `this`, where the method is on an object
set_node classes s SetExpr-F.This bound = is_some s.this
-- a parameter or a result of a class type
set_node classes s (SetExpr-F.SetExpr::Param k) bound = has is_class_type (slice_get s.locals k)
set_node classes s SetExpr-F.SetExpr::Answer bound = is_class_type s.answer
-- a variable that is bound here
set_node classes s (SetExpr-F.SetExpr::Bound k) bound = nat_lt k bound
set_node classes s SetExpr-F.Null bound = true
set_node classes s (SetExpr-F.Class c) bound = nat_lt c (length classes)
set_node classes s (SetExpr-F.SetExpr::Old a) bound = a bound
set_node classes s (SetExpr-F.Union a b) bound = a bound && b bound
set_node classes s (SetExpr-F.SetExpr::Minus a b) bound = a bound && b bound
set_node classes s (SetExpr-F.Meet a b) bound = a bound && b bound
set_node classes s (SetExpr-F.Image a r) bound = a bound && is_relation classes r
-- no term of an array is well typed yet
set_node classes s (SetExpr-F.SetExpr::Element a i) bound = false

abbrev pub number_node : List Class → Scope → IntExpr-F InBinders InBinders → InBinders
number_node classes s (IntExpr-F.Literal n) bound = is_literal n
-- a parameter or a result of type int
number_node classes s (IntExpr-F.IntExpr::Param k) bound = has is_int (slice_get s.locals k)
number_node classes s IntExpr-F.IntExpr::Answer bound = is_int s.answer
number_node classes s (IntExpr-F.IntExpr::Old a) bound = a bound
-- a field of type int
number_node classes s (IntExpr-F.Field a name) bound = a bound && are_fields is_int classes name
number_node classes s (IntExpr-F.Count a) bound = a bound
-- one variable more is bound in the term that is summed
number_node classes s (IntExpr-F.Sum a i) bound = a bound && i (suc bound)
number_node classes s (IntExpr-F.Add a b) bound = a bound && b bound
number_node classes s (IntExpr-F.IntExpr::Minus a b) bound = a bound && b bound
number_node classes s (IntExpr-F.Neg a) bound = a bound
-- one factor is a literal
number_node classes s (IntExpr-F.Times k a) bound = is_literal k && a bound
-- no variable for numbers and no term of an array is well typed yet
number_node classes s (IntExpr-F.IntExpr::Bound k) bound = false
number_node classes s (IntExpr-F.IntExpr::Element a i) bound = false
number_node classes s (IntExpr-F.Length a) bound = false

-- a set is well typed
unfoldable pub is_set : List Class → Scope → SetExpr → InBinders
is_set classes s = fold-SetExpr InBinders InBinders (number_node classes s) (set_node classes s)

unfoldable pub has_number_kinds : List Class → Scope → IntExpr → InBinders
has_number_kinds classes s = fold-IntExpr InBinders InBinders (number_node classes s) (set_node classes s)

-- a whole number is well typed: its parts are of the right kinds, and its bound isn't too large
abbrev pub is_number : List Class → Scope → IntExpr → InBinders
is_number classes s i bound = has_number_kinds classes s i bound && is_some (bound_of i)

-- ---- formulas

abbrev pub is_comparison : BinOp → Bool
is_comparison binary.Eq = true
is_comparison binary.Ne = true
is_comparison binary.Lt = true
is_comparison binary.Le = true
is_comparison binary.Gt = true
is_comparison binary.Ge = true
is_comparison _ = false

-- both sets are well typed
abbrev pub are_sets : List Class → Scope → SetExpr → SetExpr → InBinders
are_sets classes s a b bound = is_set classes s a bound && is_set classes s b bound

-- a quantifier over the members of a set; one variable more is bound in its formula
abbrev pub is_quantified : List Class → Scope → SetExpr → InBinders → InBinders
is_quantified classes s a f bound = is_set classes s a bound && f (suc bound)

abbrev pub formula_node : List Class → Scope → Formula-F InBinders → InBinders
formula_node classes s (Formula-F.Bool b) bound = true
-- a parameter or a result of type boolean
formula_node classes s (Formula-F.Param k) bound = has is_boolean (slice_get s.locals k)
formula_node classes s Formula-F.Answer bound = is_boolean s.answer
formula_node classes s (Formula-F.Old f) bound = f bound
-- a field of type boolean
formula_node classes s (Formula-F.Field a name) bound = is_set classes s a bound && are_fields is_boolean classes name
formula_node classes s (Formula-F.Equal a b) bound = are_sets classes s a b bound
formula_node classes s (Formula-F.Differ a b) bound = are_sets classes s a b bound
formula_node classes s (Formula-F.Subset a b) bound = are_sets classes s a b bound
formula_node classes s (Formula-F.Compare op i j) bound = is_comparison op && (is_number classes s i bound && is_number classes s j bound)
formula_node classes s (Formula-F.NonEmpty a) bound = is_set classes s a bound
formula_node classes s (Formula-F.Empty a) bound = is_set classes s a bound
formula_node classes s (Formula-F.One a) bound = is_set classes s a bound
formula_node classes s (Formula-F.Lone a) bound = is_set classes s a bound
formula_node classes s (Formula-F.All a f) bound = is_quantified classes s a f bound
formula_node classes s (Formula-F.Exists a f) bound = is_quantified classes s a f bound
formula_node classes s (Formula-F.NoneOf a f) bound = is_quantified classes s a f bound
formula_node classes s (Formula-F.Not f) bound = f bound
formula_node classes s (Formula-F.And f g) bound = f bound && g bound
formula_node classes s (Formula-F.Or f g) bound = f bound && g bound
formula_node classes s (Formula-F.Implies f g) bound = f bound && g bound
formula_node classes s (Formula-F.Iff f g) bound = f bound && g bound
-- no element of an array and no quantifier over numbers is well typed yet
formula_node classes s (Formula-F.Element a i) bound = false
formula_node classes s (Formula-F.AllInt i j f) bound = false
formula_node classes s (Formula-F.SomeInt i j f) bound = false
formula_node classes s (Formula-F.NoInt i j f) bound = false

-- a formula is well typed
unfoldable pub is_formula : List Class → Scope → Formula → InBinders
is_formula classes s = fold-Formula InBinders (formula_node classes s)
