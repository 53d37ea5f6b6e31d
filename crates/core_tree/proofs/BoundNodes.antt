-- How large the whole numbers of a contract can be, node by node.
use Rattle.std.proofs.Common.{◌≡◌, ◌∙◌, ℕ, ℤ, Bool, List, Option, sym, ap}
use Rattle.core_tree.specs.declared.terms.RelExpr.{RelExpr}
use Rattle.core_tree.specs.declared.terms.SetExpr.{SetExpr}
use Rattle.core_tree.specs.declared.terms.SetExpr.TheVariants as set
use Rattle.core_tree.specs.declared.terms.IntExpr.{IntExpr}
use Rattle.core_tree.specs.declared.terms.IntExpr.TheVariants as int
use Rattle.core_tree.specs.declared.terms.IntExpr.TheOpen.{SetExpr-F, IntExpr-F}
use Rattle.core_tree.specs.declared.terms.IntExpr.TheFolds.{fold-roll-SetExpr, fold-roll-IntExpr}
use Rattle.core_tree.specs.TermBounds.{single_node, is_single, bound_node, bound_of}

pub is_single-This : is_single set.This ≡ single_node SetExpr-F.This
unfolding is_single bound_of
is_single-This = ap is_single (sym set.rolls-This) ∙ fold-roll-SetExpr (Option ℕ) Bool bound_node single_node SetExpr-F.This

pub is_single-Param : (k : ℕ) → is_single (set.Param k) ≡ single_node (SetExpr-F.SetExpr::Param k)
unfolding is_single bound_of
is_single-Param k = ap is_single (sym (set.rolls-Param k)) ∙ fold-roll-SetExpr (Option ℕ) Bool bound_node single_node (SetExpr-F.SetExpr::Param k)

pub is_single-Answer : is_single set.Answer ≡ single_node SetExpr-F.SetExpr::Answer
unfolding is_single bound_of
is_single-Answer = ap is_single (sym set.rolls-Answer) ∙ fold-roll-SetExpr (Option ℕ) Bool bound_node single_node SetExpr-F.SetExpr::Answer

pub is_single-Bound : (k : ℕ) → is_single (set.Bound k) ≡ single_node (SetExpr-F.SetExpr::Bound k)
unfolding is_single bound_of
is_single-Bound k = ap is_single (sym (set.rolls-Bound k)) ∙ fold-roll-SetExpr (Option ℕ) Bool bound_node single_node (SetExpr-F.SetExpr::Bound k)

pub is_single-Null : is_single set.Null ≡ single_node SetExpr-F.Null
unfolding is_single bound_of
is_single-Null = ap is_single (sym set.rolls-Null) ∙ fold-roll-SetExpr (Option ℕ) Bool bound_node single_node SetExpr-F.Null

pub is_single-Class : (c : ℕ) → is_single (set.Class c) ≡ single_node (SetExpr-F.Class c)
unfolding is_single bound_of
is_single-Class c = ap is_single (sym (set.rolls-Class c)) ∙ fold-roll-SetExpr (Option ℕ) Bool bound_node single_node (SetExpr-F.Class c)

pub is_single-Old : (a : SetExpr) → is_single (set.Old a) ≡ single_node (SetExpr-F.SetExpr::Old (is_single a))
unfolding is_single bound_of
is_single-Old a = ap is_single (sym (set.rolls-Old a)) ∙ fold-roll-SetExpr (Option ℕ) Bool bound_node single_node (SetExpr-F.SetExpr::Old a)

pub is_single-Union : (a : SetExpr) (b : SetExpr) → is_single (set.Union a b) ≡ single_node (SetExpr-F.Union (is_single a) (is_single b))
unfolding is_single bound_of
is_single-Union a b = ap is_single (sym (set.rolls-Union a b)) ∙ fold-roll-SetExpr (Option ℕ) Bool bound_node single_node (SetExpr-F.Union a b)

pub is_single-Minus : (a : SetExpr) (b : SetExpr) → is_single (set.Minus a b) ≡ single_node (SetExpr-F.SetExpr::Minus (is_single a) (is_single b))
unfolding is_single bound_of
is_single-Minus a b = ap is_single (sym (set.rolls-Minus a b)) ∙ fold-roll-SetExpr (Option ℕ) Bool bound_node single_node (SetExpr-F.SetExpr::Minus a b)

pub is_single-Meet : (a : SetExpr) (b : SetExpr) → is_single (set.Meet a b) ≡ single_node (SetExpr-F.Meet (is_single a) (is_single b))
unfolding is_single bound_of
is_single-Meet a b = ap is_single (sym (set.rolls-Meet a b)) ∙ fold-roll-SetExpr (Option ℕ) Bool bound_node single_node (SetExpr-F.Meet a b)

pub is_single-Image : (a : SetExpr) (r : RelExpr) → is_single (set.Image a r) ≡ single_node (SetExpr-F.Image (is_single a) r)
unfolding is_single bound_of
is_single-Image a r = ap is_single (sym (set.rolls-Image a r)) ∙ fold-roll-SetExpr (Option ℕ) Bool bound_node single_node (SetExpr-F.Image a r)

pub is_single-Element : (a : SetExpr) (i : IntExpr) → is_single (set.Element a i) ≡ single_node (SetExpr-F.SetExpr::Element (is_single a) (bound_of i))
unfolding is_single bound_of
is_single-Element a i = ap is_single (sym (set.rolls-Element a i)) ∙ fold-roll-SetExpr (Option ℕ) Bool bound_node single_node (SetExpr-F.SetExpr::Element a i)

pub bound_of-Literal : (n : ℤ) → bound_of (int.Literal n) ≡ bound_node (IntExpr-F.Literal n)
unfolding is_single bound_of
bound_of-Literal n = ap bound_of (sym (int.rolls-Literal n)) ∙ fold-roll-IntExpr (Option ℕ) Bool bound_node single_node (IntExpr-F.Literal n)

pub bound_of-Param : (k : ℕ) → bound_of (int.Param k) ≡ bound_node (IntExpr-F.IntExpr::Param k)
unfolding is_single bound_of
bound_of-Param k = ap bound_of (sym (int.rolls-Param k)) ∙ fold-roll-IntExpr (Option ℕ) Bool bound_node single_node (IntExpr-F.IntExpr::Param k)

pub bound_of-Answer : bound_of int.Answer ≡ bound_node IntExpr-F.IntExpr::Answer
unfolding is_single bound_of
bound_of-Answer = ap bound_of (sym int.rolls-Answer) ∙ fold-roll-IntExpr (Option ℕ) Bool bound_node single_node IntExpr-F.IntExpr::Answer

pub bound_of-Bound : (k : ℕ) → bound_of (int.Bound k) ≡ bound_node (IntExpr-F.IntExpr::Bound k)
unfolding is_single bound_of
bound_of-Bound k = ap bound_of (sym (int.rolls-Bound k)) ∙ fold-roll-IntExpr (Option ℕ) Bool bound_node single_node (IntExpr-F.IntExpr::Bound k)

pub bound_of-Old : (i : IntExpr) → bound_of (int.Old i) ≡ bound_node (IntExpr-F.IntExpr::Old (bound_of i))
unfolding is_single bound_of
bound_of-Old i = ap bound_of (sym (int.rolls-Old i)) ∙ fold-roll-IntExpr (Option ℕ) Bool bound_node single_node (IntExpr-F.IntExpr::Old i)

pub bound_of-Field : (a : SetExpr) (name : List ℕ) → bound_of (int.Field a name) ≡ bound_node (IntExpr-F.Field (is_single a) name)
unfolding is_single bound_of
bound_of-Field a name = ap bound_of (sym (int.rolls-Field a name)) ∙ fold-roll-IntExpr (Option ℕ) Bool bound_node single_node (IntExpr-F.Field a name)

pub bound_of-Count : (a : SetExpr) → bound_of (int.Count a) ≡ bound_node (IntExpr-F.Count (is_single a))
unfolding is_single bound_of
bound_of-Count a = ap bound_of (sym (int.rolls-Count a)) ∙ fold-roll-IntExpr (Option ℕ) Bool bound_node single_node (IntExpr-F.Count a)

pub bound_of-Sum : (a : SetExpr) (i : IntExpr) → bound_of (int.Sum a i) ≡ bound_node (IntExpr-F.Sum (is_single a) (bound_of i))
unfolding is_single bound_of
bound_of-Sum a i = ap bound_of (sym (int.rolls-Sum a i)) ∙ fold-roll-IntExpr (Option ℕ) Bool bound_node single_node (IntExpr-F.Sum a i)

pub bound_of-Add : (i : IntExpr) (j : IntExpr) → bound_of (int.Add i j) ≡ bound_node (IntExpr-F.Add (bound_of i) (bound_of j))
unfolding is_single bound_of
bound_of-Add i j = ap bound_of (sym (int.rolls-Add i j)) ∙ fold-roll-IntExpr (Option ℕ) Bool bound_node single_node (IntExpr-F.Add i j)

pub bound_of-Minus : (i : IntExpr) (j : IntExpr) → bound_of (int.Minus i j) ≡ bound_node (IntExpr-F.IntExpr::Minus (bound_of i) (bound_of j))
unfolding is_single bound_of
bound_of-Minus i j = ap bound_of (sym (int.rolls-Minus i j)) ∙ fold-roll-IntExpr (Option ℕ) Bool bound_node single_node (IntExpr-F.IntExpr::Minus i j)

pub bound_of-Neg : (i : IntExpr) → bound_of (int.Neg i) ≡ bound_node (IntExpr-F.Neg (bound_of i))
unfolding is_single bound_of
bound_of-Neg i = ap bound_of (sym (int.rolls-Neg i)) ∙ fold-roll-IntExpr (Option ℕ) Bool bound_node single_node (IntExpr-F.Neg i)

pub bound_of-Times : (n : ℤ) (i : IntExpr) → bound_of (int.Times n i) ≡ bound_node (IntExpr-F.Times n (bound_of i))
unfolding is_single bound_of
bound_of-Times n i = ap bound_of (sym (int.rolls-Times n i)) ∙ fold-roll-IntExpr (Option ℕ) Bool bound_node single_node (IntExpr-F.Times n i)

pub bound_of-Element : (a : SetExpr) (i : IntExpr) → bound_of (int.Element a i) ≡ bound_node (IntExpr-F.IntExpr::Element (is_single a) (bound_of i))
unfolding is_single bound_of
bound_of-Element a i = ap bound_of (sym (int.rolls-Element a i)) ∙ fold-roll-IntExpr (Option ℕ) Bool bound_node single_node (IntExpr-F.IntExpr::Element a i)

pub bound_of-Length : (a : SetExpr) → bound_of (int.Length a) ≡ bound_node (IntExpr-F.Length (is_single a))
unfolding is_single bound_of
bound_of-Length a = ap bound_of (sym (int.rolls-Length a)) ∙ fold-roll-IntExpr (Option ℕ) Bool bound_node single_node (IntExpr-F.Length a)
