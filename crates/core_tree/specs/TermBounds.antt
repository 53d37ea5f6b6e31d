-- How large the whole numbers in a contract can be.
use Rattle.std.specs.Prelude.{ℕ, ◌+◌, ◌*◌, ◌^◌, unsigned_abs, Bool, true, false, ◌&&◌, nat_le, if◌then◌else◌, Option, Some, None, option_and_then}
use Rattle.core_tree.specs.declared.terms.RelExpr.{RelExpr, out-RelExpr}
use Rattle.core_tree.specs.declared.terms.RelExpr.TheOpen.{RelExpr-F}
use Rattle.core_tree.specs.declared.terms.SetExpr.{SetExpr}
use Rattle.core_tree.specs.declared.terms.IntExpr.TheOpen.{SetExpr-F, IntExpr-F}
use Rattle.core_tree.specs.declared.terms.IntExpr.TheFolds.{fold-SetExpr, fold-IntExpr}
use Rattle.core_tree.specs.declared.terms.IntExpr.{IntExpr}

-- the relation is a field
abbrev pub is_field_relation : RelExpr → Bool
is_field_relation r = elim (out-RelExpr r) [ RelExpr-F.Field name ↦ true | _ ↦ false ]

-- the set has at most one member, as its form says
abbrev pub single_node : SetExpr-F (Option ℕ) Bool → Bool
single_node SetExpr-F.This = true
single_node (SetExpr-F.SetExpr::Param k) = true
single_node SetExpr-F.SetExpr::Answer = true
single_node (SetExpr-F.SetExpr::Bound k) = true
single_node SetExpr-F.Null = true
single_node (SetExpr-F.SetExpr::Old single) = single
single_node (SetExpr-F.Image single r) = single && is_field_relation r
single_node _ = false

-- the greatest bound that a number in a contract may have
abbrev pub greatest_bound : ℕ
greatest_bound = 2 ^ 80

-- the bound, where it is no greater than that
abbrev pub as_bound : ℕ → Option ℕ
as_bound n = if nat_le n greatest_bound then Some n else None

-- the bound that two parts give
abbrev pub of_both : (ℕ → ℕ → ℕ) → Option ℕ → Option ℕ → Option ℕ
of_both combined a b = option_and_then (λ m. option_and_then (λ n. as_bound (combined m n)) b) a

-- a heap has at most 2^24 objects, and an int lies within 2^31
abbrev pub bound_node : IntExpr-F (Option ℕ) Bool → Option ℕ
bound_node (IntExpr-F.Literal n) = as_bound (unsigned_abs n)
bound_node (IntExpr-F.IntExpr::Param k) = Some (2 ^ 31)
bound_node IntExpr-F.IntExpr::Answer = Some (2 ^ 31)
bound_node (IntExpr-F.IntExpr::Old i) = i
bound_node (IntExpr-F.Field single name) = Some (if single then 2 ^ 31 else 2 ^ 55)
bound_node (IntExpr-F.Count s) = Some (2 ^ 24)
bound_node (IntExpr-F.Sum s i) = of_both (λ m n. m * n) (Some (2 ^ 24)) i
bound_node (IntExpr-F.Add a b) = of_both (λ m n. m + n) a b
bound_node (IntExpr-F.IntExpr::Minus a b) = of_both (λ m n. m + n) a b
bound_node (IntExpr-F.Neg i) = i
bound_node (IntExpr-F.Times k i) = of_both (λ m n. m * n) (as_bound (unsigned_abs k)) i
-- the terms of arrays have no bound yet
bound_node (IntExpr-F.IntExpr::Bound k) = None
bound_node (IntExpr-F.IntExpr::Element s i) = None
bound_node (IntExpr-F.Length s) = None

unfoldable pub is_single : SetExpr → Bool
is_single = fold-SetExpr (Option ℕ) Bool bound_node single_node

-- a number within which the term's value lies in every heap; none where it or that of a part would be more than 2^80
unfoldable pub bound_of : IntExpr → Option ℕ
bound_of = fold-IntExpr (Option ℕ) Bool bound_node single_node
