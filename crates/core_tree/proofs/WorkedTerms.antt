-- Terms of contracts, computed against the definition of well-typed ones: for each rule one that keeps it and one that
-- breaks it.
use Rattle.std.proofs.Common.{◌≡◌, ℕ, pos, neg_ℤ, ◌^◌, List, [], ◌∷◌, ◌++◌, Some, None, true, false, codes, refl}
use denote.Hole.Carrier.{out, shown, hidden}
use Rattle.core_tree.specs.declared.ty.Ty.{Ty, out-Ty}
use Rattle.core_tree.specs.declared.ty.Ty.TheBlock.{shown-the_row-Ty-0}
use Rattle.core_tree.specs.declared.ty.Ty.TheVariants as ty
use Rattle.core_tree.specs.declared.operator.BinOp.TheVariants as op
use Rattle.core_tree.specs.declared.terms.RelExpr.{out-RelExpr}
use Rattle.core_tree.specs.declared.terms.RelExpr.TheBlock.{shown-the_row-RelExpr-0}
use Rattle.core_tree.specs.declared.terms.RelExpr.TheVariants as relation
use Rattle.core_tree.specs.declared.terms.SetExpr.TheVariants as set
use Rattle.core_tree.specs.declared.terms.IntExpr.{IntExpr}
use Rattle.core_tree.specs.declared.terms.IntExpr.TheVariants as int
use Rattle.core_tree.specs.declared.terms.Formula.TheVariants as formula
use Rattle.core_tree.specs.declared.program.Class.{Class}
use Rattle.core_tree.specs.declared.program.Field.{Field}
use Rattle.core_tree.specs.BuiltIn.{built_in_classes}
use Rattle.core_tree.specs.Typing.{Scope}
use Rattle.core_tree.specs.TermBounds.{bound_of}
use Rattle.core_tree.specs.TypedTerms.{is_relation, is_set, has_number_kinds, is_formula}
use Rattle.core_tree.proofs.BoundNodes.{is_single-This, is_single-Class, is_single-Image, bound_of-Field, bound_of-Param, bound_of-Sum, bound_of-Times}
use Rattle.core_tree.proofs.TermNodes.{is_relation-Field, is_set-This, is_set-Param, is_set-Answer, is_set-Bound, is_set-Class, is_set-Image, is_set-Element, has_number_kinds-Literal, has_number_kinds-Param, has_number_kinds-Answer, has_number_kinds-Field, has_number_kinds-Times, has_number_kinds-Length}
use Rattle.core_tree.proofs.FormulaNodes.{is_formula-All, is_formula-NonEmpty, is_formula-Compare, is_formula-Param, is_formula-AllInt}

abbrev field_of : List ℕ → Ty → Field
field_of name t = record { name = name; ty = t; start = None; owner = 18 }

-- class Node { Node next; int size; boolean open; String text; int both; }
abbrev pub node_class : Class
node_class = record {
  name = codes "Node";
  parent = Some 0;
  fields =
      field_of (codes "next") (ty.Class 18) ∷ field_of (codes "size") ty.Int ∷ field_of (codes "open") ty.Bool ∷ field_of (codes "text") ty.Text
      ∷ field_of (codes "both") ty.Int ∷ [];
  chosen = None ∷ [];
}

-- class Main { boolean both; }
abbrev pub main_class : Class
main_class = record { name = codes "Main"; parent = Some 0; fields = field_of (codes "both") ty.Bool ∷ []; chosen = None ∷ [] }

abbrev pub classes : List Class
classes = built_in_classes ++ node_class ∷ main_class ∷ []

-- a method of Node with the parameters (Node other, int n, boolean b, String text)
abbrev pub params : List Ty
params = ty.Class 18 ∷ ty.Int ∷ ty.Bool ∷ ty.Text ∷ []

-- on an object, with this result
abbrev pub on_node : Ty → Scope
on_node answer = record { this = Some 18; locals = params; answer = answer }

-- on no object
abbrev pub static_scope : Scope
static_scope = record { this = None; locals = params; answer = ty.Void }

-- ---- names

this_on_an_object : is_set classes (on_node ty.Void) set.This 0 ≡ true
this_on_an_object = rw (is_set-This classes (on_node ty.Void)) refl

this_in_a_static_method : is_set classes static_scope set.This 0 ≡ false
this_in_a_static_method = rw (is_set-This classes static_scope) refl

parameter_of_a_class : is_set classes static_scope (set.Param 0) 0 ≡ true
unfolding out-Ty out shown-the_row-Ty-0 shown hidden
parameter_of_a_class = rw (is_set-Param classes static_scope 0) refl

parameter_of_type_string : is_set classes static_scope (set.Param 3) 0 ≡ false
unfolding out-Ty out shown-the_row-Ty-0 shown hidden
parameter_of_type_string = rw (is_set-Param classes static_scope 3) refl

parameter_out_of_range : is_set classes static_scope (set.Param 4) 0 ≡ false
parameter_out_of_range = rw (is_set-Param classes static_scope 4) refl

known_class : is_set classes static_scope (set.Class 19) 0 ≡ true
known_class = rw (is_set-Class classes static_scope 19) refl

unknown_class : is_set classes static_scope (set.Class 20) 0 ≡ false
unknown_class = rw (is_set-Class classes static_scope 20) refl

-- all x : Node | some x
bound_variable : is_formula classes static_scope (formula.All (set.Class 18) (formula.NonEmpty (set.Bound 0))) 0 ≡ true
bound_variable = rw (is_formula-All classes static_scope (set.Class 18) (formula.NonEmpty (set.Bound 0)), is_set-Class classes static_scope 18, is_formula-NonEmpty classes static_scope (set.Bound 0), is_set-Bound classes static_scope 0) refl

free_variable : is_formula classes static_scope (formula.NonEmpty (set.Bound 0)) 0 ≡ false
free_variable = rw (is_formula-NonEmpty classes static_scope (set.Bound 0), is_set-Bound classes static_scope 0) refl

-- ---- kinds

int_parameter : has_number_kinds classes static_scope (int.Param 1) 0 ≡ true
unfolding out-Ty out shown-the_row-Ty-0 shown hidden
int_parameter = rw (has_number_kinds-Param classes static_scope 1) refl

boolean_as_a_number : has_number_kinds classes static_scope (int.Param 2) 0 ≡ false
unfolding out-Ty out shown-the_row-Ty-0 shown hidden
boolean_as_a_number = rw (has_number_kinds-Param classes static_scope 2) refl

boolean_parameter : is_formula classes static_scope (formula.Param 2) 0 ≡ true
unfolding out-Ty out shown-the_row-Ty-0 shown hidden
boolean_parameter = rw (is_formula-Param classes static_scope 2) refl

int_as_a_formula : is_formula classes static_scope (formula.Param 1) 0 ≡ false
unfolding out-Ty out shown-the_row-Ty-0 shown hidden
int_as_a_formula = rw (is_formula-Param classes static_scope 1) refl

-- 2 * n
literal_factor : has_number_kinds classes static_scope (int.Times (pos 2) (int.Param 1)) 0 ≡ true
unfolding out-Ty out shown-the_row-Ty-0 shown hidden
literal_factor = rw (has_number_kinds-Times classes static_scope (pos 2) (int.Param 1), has_number_kinds-Param classes static_scope 1) refl

factor_with_a_sign : has_number_kinds classes static_scope (int.Times (neg_ℤ (pos 2)) (int.Param 1)) 0 ≡ false
factor_with_a_sign = rw (has_number_kinds-Times classes static_scope (neg_ℤ (pos 2)) (int.Param 1)) refl

-- n < n
comparison : is_formula classes static_scope (formula.Compare op.Lt (int.Param 1) (int.Param 1)) 0 ≡ true
unfolding out-Ty out shown-the_row-Ty-0 shown hidden
comparison = rw (is_formula-Compare classes static_scope op.Lt (int.Param 1) (int.Param 1), has_number_kinds-Param classes static_scope 1, bound_of-Param 1) refl

sum_as_a_comparison : is_formula classes static_scope (formula.Compare op.Add (int.Param 1) (int.Param 1)) 0 ≡ false
sum_as_a_comparison = rw (is_formula-Compare classes static_scope op.Add (int.Param 1) (int.Param 1)) refl

-- no term of an array is well typed yet
element : is_set classes (on_node ty.Void) (set.Element set.This (int.Literal (pos 0))) 0 ≡ false
element = rw (is_set-Element classes (on_node ty.Void) set.This (int.Literal (pos 0))) refl

array_length : has_number_kinds classes (on_node ty.Void) (int.Length set.This) 0 ≡ false
array_length = rw (has_number_kinds-Length classes (on_node ty.Void) set.This) refl

quantifier_over_numbers : is_formula classes static_scope (formula.AllInt (int.Param 1) (int.Param 1) (formula.Param 2)) 0 ≡ false
quantifier_over_numbers = rw (is_formula-AllInt classes static_scope (int.Param 1) (int.Param 1) (formula.Param 2)) refl

-- ---- fields

-- this.next
references : is_set classes (on_node ty.Void) (set.Image set.This (relation.Field (codes "next"))) 0 ≡ true
unfolding out-Ty out shown-the_row-Ty-0 shown hidden
references = rw (is_set-Image classes (on_node ty.Void) set.This (relation.Field (codes "next")), is_set-This classes (on_node ty.Void), is_relation-Field classes (codes "next")) refl

ints_as_references : is_relation classes (relation.Field (codes "size")) ≡ false
unfolding out-Ty out shown-the_row-Ty-0 shown hidden
ints_as_references = rw (is_relation-Field classes (codes "size")) refl

strings_as_references : is_relation classes (relation.Field (codes "text")) ≡ false
unfolding out-Ty out shown-the_row-Ty-0 shown hidden
strings_as_references = rw (is_relation-Field classes (codes "text")) refl

undeclared_field : is_relation classes (relation.Field (codes "other")) ≡ false
undeclared_field = rw (is_relation-Field classes (codes "other")) refl

-- this.size
int_field : has_number_kinds classes (on_node ty.Void) (int.Field set.This (codes "size")) 0 ≡ true
unfolding out-Ty out shown-the_row-Ty-0 shown hidden
int_field = rw (has_number_kinds-Field classes (on_node ty.Void) set.This (codes "size"), is_set-This classes (on_node ty.Void)) refl

-- one class declares it as an int and another as a boolean
field_of_two_kinds : has_number_kinds classes (on_node ty.Void) (int.Field set.This (codes "both")) 0 ≡ false
unfolding out-Ty out shown-the_row-Ty-0 shown hidden
field_of_two_kinds = rw (has_number_kinds-Field classes (on_node ty.Void) set.This (codes "both"), is_set-This classes (on_node ty.Void)) refl

-- ---- results

int_result : has_number_kinds classes (on_node ty.Int) int.Answer 0 ≡ true
unfolding out-Ty out shown-the_row-Ty-0 shown hidden
int_result = rw (has_number_kinds-Answer classes (on_node ty.Int)) refl

result_of_a_void_method : has_number_kinds classes (on_node ty.Void) int.Answer 0 ≡ false
unfolding out-Ty out shown-the_row-Ty-0 shown hidden
result_of_a_void_method = rw (has_number_kinds-Answer classes (on_node ty.Void)) refl

int_result_as_a_set : is_set classes (on_node ty.Int) set.Answer 0 ≡ false
unfolding out-Ty out shown-the_row-Ty-0 shown hidden
int_result_as_a_set = rw (is_set-Answer classes (on_node ty.Int)) refl

-- ---- literals and bounds

greatest_literal : has_number_kinds classes static_scope (int.Literal (pos 2147483648)) 0 ≡ true
greatest_literal = rw (has_number_kinds-Literal classes static_scope (pos 2147483648)) refl

literal_too_large : has_number_kinds classes static_scope (int.Literal (pos 2147483649)) 0 ≡ false
literal_too_large = rw (has_number_kinds-Literal classes static_scope (pos 2147483649)) refl

-- this.next.size
of_one_object : bound_of (int.Field (set.Image set.This (relation.Field (codes "next"))) (codes "size")) ≡ Some (2 ^ 31)
unfolding out-RelExpr out shown-the_row-RelExpr-0 shown hidden
of_one_object = rw (bound_of-Field (set.Image set.This (relation.Field (codes "next"))) (codes "size"), is_single-Image set.This (relation.Field (codes "next")), is_single-This) refl

-- this.(next)*.size
abbrev along : IntExpr
along = int.Field (set.Image set.This (relation.PathsOrSame (relation.Field (codes "next")))) (codes "size")

of_many_objects : bound_of along ≡ Some (2 ^ 55)
unfolding out-RelExpr out shown-the_row-RelExpr-0 shown hidden
of_many_objects = rw (bound_of-Field (set.Image set.This (relation.PathsOrSame (relation.Field (codes "next")))) (codes "size"), is_single-Image set.This (relation.PathsOrSame (relation.Field (codes "next"))), is_single-This) refl

-- sum x : Node | Node.size
abbrev summed : IntExpr
summed = int.Sum (set.Class 18) (int.Field (set.Class 18) (codes "size"))

bound_of_a_sum : bound_of summed ≡ Some (2 ^ 79)
bound_of_a_sum = rw (bound_of-Sum (set.Class 18) (int.Field (set.Class 18) (codes "size")), bound_of-Field (set.Class 18) (codes "size"), is_single-Class 18) refl

-- 4 * (sum x : Node | Node.size)
bound_too_large : bound_of (int.Times (pos 4) summed) ≡ None
bound_too_large = rw (bound_of-Times (pos 4) summed, bound_of_a_sum) refl
