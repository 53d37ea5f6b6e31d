-- Which terms of a contract are well typed, node by node.
use Rattle.std.proofs.Common.{◌≡◌, ◌∙◌, ℕ, ℤ, Bool, List, sym, ap}
use Rattle.core_tree.specs.declared.program.Class.{Class}
use Rattle.core_tree.specs.declared.terms.RelExpr.{RelExpr}
use Rattle.core_tree.specs.declared.terms.RelExpr.TheVariants as relation
use Rattle.core_tree.specs.declared.terms.RelExpr.TheOpen.{RelExpr-F}
use Rattle.core_tree.specs.declared.terms.RelExpr.TheFolds.{fold-roll-RelExpr}
use Rattle.core_tree.specs.declared.terms.SetExpr.{SetExpr}
use Rattle.core_tree.specs.declared.terms.SetExpr.TheVariants as set
use Rattle.core_tree.specs.declared.terms.IntExpr.{IntExpr}
use Rattle.core_tree.specs.declared.terms.IntExpr.TheVariants as int
use Rattle.core_tree.specs.declared.terms.IntExpr.TheOpen.{SetExpr-F, IntExpr-F}
use Rattle.core_tree.specs.declared.terms.IntExpr.TheFolds.{fold-roll-SetExpr, fold-roll-IntExpr}
use Rattle.core_tree.specs.Typing.{Scope}
use Rattle.core_tree.specs.TypedTerms.{relation_node, is_relation, InBinders, set_node, is_set, number_node, has_number_kinds}

pub is_relation-Field : (classes : List Class) (name : List ℕ) → is_relation classes (relation.Field name) ≡ relation_node classes (RelExpr-F.Field name)
unfolding is_relation
is_relation-Field classes name = ap (is_relation classes) (sym (relation.rolls-Field name)) ∙ fold-roll-RelExpr Bool (relation_node classes) (RelExpr-F.Field name)

pub is_relation-Paths : (classes : List Class) (r : RelExpr) → is_relation classes (relation.Paths r) ≡ relation_node classes (RelExpr-F.Paths (is_relation classes r))
unfolding is_relation
is_relation-Paths classes r = ap (is_relation classes) (sym (relation.rolls-Paths r)) ∙ fold-roll-RelExpr Bool (relation_node classes) (RelExpr-F.Paths r)

pub is_relation-PathsOrSame : (classes : List Class) (r : RelExpr) → is_relation classes (relation.PathsOrSame r) ≡ relation_node classes (RelExpr-F.PathsOrSame (is_relation classes r))
unfolding is_relation
is_relation-PathsOrSame classes r = ap (is_relation classes) (sym (relation.rolls-PathsOrSame r)) ∙ fold-roll-RelExpr Bool (relation_node classes) (RelExpr-F.PathsOrSame r)

pub is_relation-Converse : (classes : List Class) (r : RelExpr) → is_relation classes (relation.Converse r) ≡ relation_node classes (RelExpr-F.Converse (is_relation classes r))
unfolding is_relation
is_relation-Converse classes r = ap (is_relation classes) (sym (relation.rolls-Converse r)) ∙ fold-roll-RelExpr Bool (relation_node classes) (RelExpr-F.Converse r)

pub is_relation-Union : (classes : List Class) (r : RelExpr) (s : RelExpr) → is_relation classes (relation.Union r s) ≡ relation_node classes (RelExpr-F.Union (is_relation classes r) (is_relation classes s))
unfolding is_relation
is_relation-Union classes r s = ap (is_relation classes) (sym (relation.rolls-Union r s)) ∙ fold-roll-RelExpr Bool (relation_node classes) (RelExpr-F.Union r s)

pub is_relation-Minus : (classes : List Class) (r : RelExpr) (s : RelExpr) → is_relation classes (relation.Minus r s) ≡ relation_node classes (RelExpr-F.Minus (is_relation classes r) (is_relation classes s))
unfolding is_relation
is_relation-Minus classes r s = ap (is_relation classes) (sym (relation.rolls-Minus r s)) ∙ fold-roll-RelExpr Bool (relation_node classes) (RelExpr-F.Minus r s)

pub is_relation-Meet : (classes : List Class) (r : RelExpr) (s : RelExpr) → is_relation classes (relation.Meet r s) ≡ relation_node classes (RelExpr-F.Meet (is_relation classes r) (is_relation classes s))
unfolding is_relation
is_relation-Meet classes r s = ap (is_relation classes) (sym (relation.rolls-Meet r s)) ∙ fold-roll-RelExpr Bool (relation_node classes) (RelExpr-F.Meet r s)

pub is_relation-Join : (classes : List Class) (r : RelExpr) (s : RelExpr) → is_relation classes (relation.Join r s) ≡ relation_node classes (RelExpr-F.Join (is_relation classes r) (is_relation classes s))
unfolding is_relation
is_relation-Join classes r s = ap (is_relation classes) (sym (relation.rolls-Join r s)) ∙ fold-roll-RelExpr Bool (relation_node classes) (RelExpr-F.Join r s)

pub is_set-This : (classes : List Class) (s : Scope) → is_set classes s set.This ≡ set_node classes s SetExpr-F.This
unfolding is_set has_number_kinds
is_set-This classes s = ap (is_set classes s) (sym set.rolls-This) ∙ fold-roll-SetExpr InBinders InBinders (number_node classes s) (set_node classes s) SetExpr-F.This

pub is_set-Param : (classes : List Class) (s : Scope) (k : ℕ) → is_set classes s (set.Param k) ≡ set_node classes s (SetExpr-F.SetExpr::Param k)
unfolding is_set has_number_kinds
is_set-Param classes s k = ap (is_set classes s) (sym (set.rolls-Param k)) ∙ fold-roll-SetExpr InBinders InBinders (number_node classes s) (set_node classes s) (SetExpr-F.SetExpr::Param k)

pub is_set-Answer : (classes : List Class) (s : Scope) → is_set classes s set.Answer ≡ set_node classes s SetExpr-F.SetExpr::Answer
unfolding is_set has_number_kinds
is_set-Answer classes s = ap (is_set classes s) (sym set.rolls-Answer) ∙ fold-roll-SetExpr InBinders InBinders (number_node classes s) (set_node classes s) SetExpr-F.SetExpr::Answer

pub is_set-Bound : (classes : List Class) (s : Scope) (k : ℕ) → is_set classes s (set.Bound k) ≡ set_node classes s (SetExpr-F.SetExpr::Bound k)
unfolding is_set has_number_kinds
is_set-Bound classes s k = ap (is_set classes s) (sym (set.rolls-Bound k)) ∙ fold-roll-SetExpr InBinders InBinders (number_node classes s) (set_node classes s) (SetExpr-F.SetExpr::Bound k)

pub is_set-Null : (classes : List Class) (s : Scope) → is_set classes s set.Null ≡ set_node classes s SetExpr-F.Null
unfolding is_set has_number_kinds
is_set-Null classes s = ap (is_set classes s) (sym set.rolls-Null) ∙ fold-roll-SetExpr InBinders InBinders (number_node classes s) (set_node classes s) SetExpr-F.Null

pub is_set-Class : (classes : List Class) (s : Scope) (c : ℕ) → is_set classes s (set.Class c) ≡ set_node classes s (SetExpr-F.Class c)
unfolding is_set has_number_kinds
is_set-Class classes s c = ap (is_set classes s) (sym (set.rolls-Class c)) ∙ fold-roll-SetExpr InBinders InBinders (number_node classes s) (set_node classes s) (SetExpr-F.Class c)

pub is_set-Old : (classes : List Class) (s : Scope) (a : SetExpr) → is_set classes s (set.Old a) ≡ set_node classes s (SetExpr-F.SetExpr::Old (is_set classes s a))
unfolding is_set has_number_kinds
is_set-Old classes s a = ap (is_set classes s) (sym (set.rolls-Old a)) ∙ fold-roll-SetExpr InBinders InBinders (number_node classes s) (set_node classes s) (SetExpr-F.SetExpr::Old a)

pub is_set-Union : (classes : List Class) (s : Scope) (a : SetExpr) (b : SetExpr) → is_set classes s (set.Union a b) ≡ set_node classes s (SetExpr-F.Union (is_set classes s a) (is_set classes s b))
unfolding is_set has_number_kinds
is_set-Union classes s a b = ap (is_set classes s) (sym (set.rolls-Union a b)) ∙ fold-roll-SetExpr InBinders InBinders (number_node classes s) (set_node classes s) (SetExpr-F.Union a b)

pub is_set-Minus : (classes : List Class) (s : Scope) (a : SetExpr) (b : SetExpr) → is_set classes s (set.Minus a b) ≡ set_node classes s (SetExpr-F.SetExpr::Minus (is_set classes s a) (is_set classes s b))
unfolding is_set has_number_kinds
is_set-Minus classes s a b = ap (is_set classes s) (sym (set.rolls-Minus a b)) ∙ fold-roll-SetExpr InBinders InBinders (number_node classes s) (set_node classes s) (SetExpr-F.SetExpr::Minus a b)

pub is_set-Meet : (classes : List Class) (s : Scope) (a : SetExpr) (b : SetExpr) → is_set classes s (set.Meet a b) ≡ set_node classes s (SetExpr-F.Meet (is_set classes s a) (is_set classes s b))
unfolding is_set has_number_kinds
is_set-Meet classes s a b = ap (is_set classes s) (sym (set.rolls-Meet a b)) ∙ fold-roll-SetExpr InBinders InBinders (number_node classes s) (set_node classes s) (SetExpr-F.Meet a b)

pub is_set-Image : (classes : List Class) (s : Scope) (a : SetExpr) (r : RelExpr) → is_set classes s (set.Image a r) ≡ set_node classes s (SetExpr-F.Image (is_set classes s a) r)
unfolding is_set has_number_kinds
is_set-Image classes s a r = ap (is_set classes s) (sym (set.rolls-Image a r)) ∙ fold-roll-SetExpr InBinders InBinders (number_node classes s) (set_node classes s) (SetExpr-F.Image a r)

pub is_set-Element : (classes : List Class) (s : Scope) (a : SetExpr) (i : IntExpr) → is_set classes s (set.Element a i) ≡ set_node classes s (SetExpr-F.SetExpr::Element (is_set classes s a) (has_number_kinds classes s i))
unfolding is_set has_number_kinds
is_set-Element classes s a i = ap (is_set classes s) (sym (set.rolls-Element a i)) ∙ fold-roll-SetExpr InBinders InBinders (number_node classes s) (set_node classes s) (SetExpr-F.SetExpr::Element a i)

pub has_number_kinds-Literal : (classes : List Class) (s : Scope) (n : ℤ) → has_number_kinds classes s (int.Literal n) ≡ number_node classes s (IntExpr-F.Literal n)
unfolding is_set has_number_kinds
has_number_kinds-Literal classes s n = ap (has_number_kinds classes s) (sym (int.rolls-Literal n)) ∙ fold-roll-IntExpr InBinders InBinders (number_node classes s) (set_node classes s) (IntExpr-F.Literal n)

pub has_number_kinds-Param : (classes : List Class) (s : Scope) (k : ℕ) → has_number_kinds classes s (int.Param k) ≡ number_node classes s (IntExpr-F.IntExpr::Param k)
unfolding is_set has_number_kinds
has_number_kinds-Param classes s k = ap (has_number_kinds classes s) (sym (int.rolls-Param k)) ∙ fold-roll-IntExpr InBinders InBinders (number_node classes s) (set_node classes s) (IntExpr-F.IntExpr::Param k)

pub has_number_kinds-Answer : (classes : List Class) (s : Scope) → has_number_kinds classes s int.Answer ≡ number_node classes s IntExpr-F.IntExpr::Answer
unfolding is_set has_number_kinds
has_number_kinds-Answer classes s = ap (has_number_kinds classes s) (sym int.rolls-Answer) ∙ fold-roll-IntExpr InBinders InBinders (number_node classes s) (set_node classes s) IntExpr-F.IntExpr::Answer

pub has_number_kinds-Bound : (classes : List Class) (s : Scope) (k : ℕ) → has_number_kinds classes s (int.Bound k) ≡ number_node classes s (IntExpr-F.IntExpr::Bound k)
unfolding is_set has_number_kinds
has_number_kinds-Bound classes s k = ap (has_number_kinds classes s) (sym (int.rolls-Bound k)) ∙ fold-roll-IntExpr InBinders InBinders (number_node classes s) (set_node classes s) (IntExpr-F.IntExpr::Bound k)

pub has_number_kinds-Old : (classes : List Class) (s : Scope) (i : IntExpr) → has_number_kinds classes s (int.Old i) ≡ number_node classes s (IntExpr-F.IntExpr::Old (has_number_kinds classes s i))
unfolding is_set has_number_kinds
has_number_kinds-Old classes s i = ap (has_number_kinds classes s) (sym (int.rolls-Old i)) ∙ fold-roll-IntExpr InBinders InBinders (number_node classes s) (set_node classes s) (IntExpr-F.IntExpr::Old i)

pub has_number_kinds-Field : (classes : List Class) (s : Scope) (a : SetExpr) (name : List ℕ) → has_number_kinds classes s (int.Field a name) ≡ number_node classes s (IntExpr-F.Field (is_set classes s a) name)
unfolding is_set has_number_kinds
has_number_kinds-Field classes s a name = ap (has_number_kinds classes s) (sym (int.rolls-Field a name)) ∙ fold-roll-IntExpr InBinders InBinders (number_node classes s) (set_node classes s) (IntExpr-F.Field a name)

pub has_number_kinds-Count : (classes : List Class) (s : Scope) (a : SetExpr) → has_number_kinds classes s (int.Count a) ≡ number_node classes s (IntExpr-F.Count (is_set classes s a))
unfolding is_set has_number_kinds
has_number_kinds-Count classes s a = ap (has_number_kinds classes s) (sym (int.rolls-Count a)) ∙ fold-roll-IntExpr InBinders InBinders (number_node classes s) (set_node classes s) (IntExpr-F.Count a)

pub has_number_kinds-Sum : (classes : List Class) (s : Scope) (a : SetExpr) (i : IntExpr) → has_number_kinds classes s (int.Sum a i) ≡ number_node classes s (IntExpr-F.Sum (is_set classes s a) (has_number_kinds classes s i))
unfolding is_set has_number_kinds
has_number_kinds-Sum classes s a i = ap (has_number_kinds classes s) (sym (int.rolls-Sum a i)) ∙ fold-roll-IntExpr InBinders InBinders (number_node classes s) (set_node classes s) (IntExpr-F.Sum a i)

pub has_number_kinds-Add : (classes : List Class) (s : Scope) (i : IntExpr) (j : IntExpr) → has_number_kinds classes s (int.Add i j) ≡ number_node classes s (IntExpr-F.Add (has_number_kinds classes s i) (has_number_kinds classes s j))
unfolding is_set has_number_kinds
has_number_kinds-Add classes s i j = ap (has_number_kinds classes s) (sym (int.rolls-Add i j)) ∙ fold-roll-IntExpr InBinders InBinders (number_node classes s) (set_node classes s) (IntExpr-F.Add i j)

pub has_number_kinds-Minus : (classes : List Class) (s : Scope) (i : IntExpr) (j : IntExpr) → has_number_kinds classes s (int.Minus i j) ≡ number_node classes s (IntExpr-F.IntExpr::Minus (has_number_kinds classes s i) (has_number_kinds classes s j))
unfolding is_set has_number_kinds
has_number_kinds-Minus classes s i j = ap (has_number_kinds classes s) (sym (int.rolls-Minus i j)) ∙ fold-roll-IntExpr InBinders InBinders (number_node classes s) (set_node classes s) (IntExpr-F.IntExpr::Minus i j)

pub has_number_kinds-Neg : (classes : List Class) (s : Scope) (i : IntExpr) → has_number_kinds classes s (int.Neg i) ≡ number_node classes s (IntExpr-F.Neg (has_number_kinds classes s i))
unfolding is_set has_number_kinds
has_number_kinds-Neg classes s i = ap (has_number_kinds classes s) (sym (int.rolls-Neg i)) ∙ fold-roll-IntExpr InBinders InBinders (number_node classes s) (set_node classes s) (IntExpr-F.Neg i)

pub has_number_kinds-Times : (classes : List Class) (s : Scope) (n : ℤ) (i : IntExpr) → has_number_kinds classes s (int.Times n i) ≡ number_node classes s (IntExpr-F.Times n (has_number_kinds classes s i))
unfolding is_set has_number_kinds
has_number_kinds-Times classes s n i = ap (has_number_kinds classes s) (sym (int.rolls-Times n i)) ∙ fold-roll-IntExpr InBinders InBinders (number_node classes s) (set_node classes s) (IntExpr-F.Times n i)

pub has_number_kinds-Element : (classes : List Class) (s : Scope) (a : SetExpr) (i : IntExpr) → has_number_kinds classes s (int.Element a i) ≡ number_node classes s (IntExpr-F.IntExpr::Element (is_set classes s a) (has_number_kinds classes s i))
unfolding is_set has_number_kinds
has_number_kinds-Element classes s a i = ap (has_number_kinds classes s) (sym (int.rolls-Element a i)) ∙ fold-roll-IntExpr InBinders InBinders (number_node classes s) (set_node classes s) (IntExpr-F.IntExpr::Element a i)

pub has_number_kinds-Length : (classes : List Class) (s : Scope) (a : SetExpr) → has_number_kinds classes s (int.Length a) ≡ number_node classes s (IntExpr-F.Length (is_set classes s a))
unfolding is_set has_number_kinds
has_number_kinds-Length classes s a = ap (has_number_kinds classes s) (sym (int.rolls-Length a)) ∙ fold-roll-IntExpr InBinders InBinders (number_node classes s) (set_node classes s) (IntExpr-F.Length a)
