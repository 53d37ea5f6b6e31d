-- Contracts, computed against the definition of well-typed ones.
use Rattle.std.proofs.Common.{◌≡◌, pos, List, [], ◌∷◌, Option, Some, None, true, false, codes, refl}
use denote.Hole.Carrier.{out, shown, hidden}
use Rattle.std.specs.Int.{int_wrap}
use Rattle.core_tree.specs.declared.ty.Ty.{Ty, out-Ty}
use Rattle.core_tree.specs.declared.ty.Ty.TheBlock.{shown-the_row-Ty-0}
use Rattle.core_tree.specs.declared.ty.Ty.TheVariants as ty
use Rattle.core_tree.specs.declared.operator.BinOp.TheVariants as op
use Rattle.core_tree.specs.declared.expr.Expr.TheVariants as expr
use Rattle.core_tree.specs.declared.stmt.Stmt.TheVariants as stmt
use Rattle.core_tree.specs.declared.terms.SetExpr.TheVariants as set
use Rattle.core_tree.specs.declared.terms.IntExpr.{IntExpr}
use Rattle.core_tree.specs.declared.terms.IntExpr.TheVariants as int
use Rattle.core_tree.specs.declared.terms.Formula.{Formula}
use Rattle.core_tree.specs.declared.terms.Formula.TheVariants as formula
use Rattle.core_tree.specs.declared.contract.Modified.{Modified}
use Rattle.core_tree.specs.declared.contract.Modified.TheVariants as modified
use Rattle.core_tree.specs.declared.contract.Added.TheVariants as added
use Rattle.core_tree.specs.declared.contract.Contract.{Contract}
use Rattle.core_tree.specs.declared.program.Method.{Method}
use Rattle.core_tree.specs.declared.program.Program.{Program}
use Rattle.core_tree.specs.WellTyped.{IsWellTyped}
use Rattle.core_tree.specs.OtherContracts.{with_contracts}
use Rattle.core_tree.specs.TypedContracts.{entry_scope, contract_scope, is_modified, is_added, are_distinct, is_range, is_contract_answer, is_contract, has_contracts}
use Rattle.core_tree.proofs.BoundNodes.{is_single-This, bound_of-Field, bound_of-Old, bound_of-Add, bound_of-Literal}
use Rattle.core_tree.proofs.TermNodes.{is_set-This, is_set-Answer, has_number_kinds-Literal, has_number_kinds-Old, has_number_kinds-Field, has_number_kinds-Add}
use Rattle.core_tree.proofs.FormulaNodes.{is_formula-Compare, is_formula-Bool}
use Rattle.core_tree.proofs.OtherPrograms.{stays_well_typed}
use Rattle.core_tree.proofs.WorkedDispatch.{good, good_is_well_typed}
use Rattle.core_tree.proofs.WorkedTerms.{classes}

-- a method of Node without parameters, with this result and contract
abbrev method : Ty → Option Contract → Method
method answer contract = record {
  name = codes "grow";
  owner = 18;
  on_object = true;
  params = [];
  answer = answer;
  locals = [];
  body = [];
  contract = contract;
}

-- this.size
abbrev size : IntExpr
size = int.Field set.This (codes "size")

-- this.size == old(this.size) + 1
abbrev grown : Formula
grown = formula.Compare op.Eq size (int.Add (int.Old size) (int.Literal (pos 1)))

abbrev of_size : List Modified
of_size = modified.Field set.This (codes "size") ∷ []

-- ints 0..9 modifies this.size ensures this.size == old(this.size) + 1
abbrev grows : Contract
grows = record { lo = pos 0; hi = pos 9; required = None; modifies = of_size; adds = []; within = None; ensured = grown }

-- ---- clauses

place : is_modified classes (entry_scope (method ty.Int None)) (modified.Field set.This (codes "size")) ≡ true
unfolding out-Ty out shown-the_row-Ty-0 shown hidden
place = rw (is_set-This classes (entry_scope (method ty.Int None))) refl

result_in_a_place : is_modified classes (entry_scope (method (ty.Class 18) None)) (modified.Field set.Answer (codes "size")) ≡ false
unfolding out-Ty out shown-the_row-Ty-0 shown hidden
result_in_a_place = rw (is_set-Answer classes (entry_scope (method (ty.Class 18) None))) refl

string_field_in_a_place : is_modified classes (entry_scope (method ty.Int None)) (modified.Field set.This (codes "text")) ≡ false
unfolding out-Ty out shown-the_row-Ty-0 shown hidden
string_field_in_a_place = rw (is_set-This classes (entry_scope (method ty.Int None))) refl

elements_of_arrays : is_modified classes (entry_scope (method ty.Int None)) (modified.Elements set.This) ≡ false
elements_of_arrays = refl

two_nodes : is_added classes (added.Class 18 2) ≡ true
two_nodes = refl

built_in_class : is_added classes (added.Class 3 2) ≡ false
built_in_class = refl

unknown_class : is_added classes (added.Class 20 2) ≡ false
unknown_class = refl

no_instance : is_added classes (added.Class 18 0) ≡ false
no_instance = refl

most_instances : is_added classes (added.Class 18 200) ≡ true
most_instances = refl

too_many_instances : is_added classes (added.Class 18 201) ≡ false
too_many_instances = refl

new_arrays : is_added classes (added.Array ty.Int 3 2) ≡ false
new_arrays = refl

different_classes : are_distinct (added.Class 18 1 ∷ added.Class 19 1 ∷ []) ≡ true
different_classes = refl

same_class : are_distinct (added.Class 18 1 ∷ added.Class 19 1 ∷ added.Class 18 2 ∷ []) ≡ false
same_class = refl

range_of_one : is_range (pos 5) (pos 5) ≡ true
unfolding int_wrap
range_of_one = refl

empty_range : is_range (pos 5) (pos 4) ≡ false
unfolding int_wrap
empty_range = refl

range_beyond_int : is_range (pos 0) (pos 2147483648) ≡ false
unfolding int_wrap
range_beyond_int = refl

instance_answer : is_contract_answer (ty.Class 18) ≡ true
unfolding out-Ty out shown-the_row-Ty-0 shown hidden
instance_answer = refl

string_answer : is_contract_answer ty.Text ≡ false
unfolding out-Ty out shown-the_row-Ty-0 shown hidden
string_answer = refl

-- ---- contracts

grows_is_typed : is_contract classes (method ty.Void None) grows ≡ true
unfolding out-Ty out shown-the_row-Ty-0 shown hidden int_wrap
grows_is_typed =
    let m : Method = method ty.Void None in
    rw (
      is_set-This classes (entry_scope m),
      is_formula-Compare classes (contract_scope m) op.Eq size (int.Add (int.Old size) (int.Literal (pos 1))),
      has_number_kinds-Add classes (contract_scope m) (int.Old size) (int.Literal (pos 1)),
      has_number_kinds-Old classes (contract_scope m) size,
      has_number_kinds-Field classes (contract_scope m) set.This (codes "size"),
      has_number_kinds-Literal classes (contract_scope m) (pos 1),
      is_set-This classes (contract_scope m),
      bound_of-Add (int.Old size) (int.Literal (pos 1)),
      bound_of-Old size,
      bound_of-Field set.This (codes "size"),
      is_single-This,
      bound_of-Literal (pos 1),
    ) refl

-- a condition at entry, or a number of steps, is in no well-typed contract yet
with_a_condition : is_contract classes (method ty.Void None) (record grows { required = Some grown }) ≡ false
unfolding out-Ty out shown-the_row-Ty-0 shown hidden int_wrap
with_a_condition = refl

with_a_step_limit : is_contract classes (method ty.Void None) (record grows { within = Some 10 }) ≡ false
unfolding out-Ty out shown-the_row-Ty-0 shown hidden int_wrap
with_a_step_limit = rw (is_set-This classes (entry_scope (method ty.Void None))) refl

-- ensures true
abbrev anything : Contract
anything = record { lo = pos 0; hi = pos 9; required = None; modifies = []; adds = []; within = None; ensured = formula.Bool true }

abbrev two_methods : Option Contract → Option Contract → Program
two_methods first second = record { classes = classes; methods = method ty.Void first ∷ method ty.Void second ∷ []; makers = []; main = 0 }

contract_of_another_method : has_contracts (two_methods None (Some anything)) ≡ true
unfolding out-Ty out shown-the_row-Ty-0 shown hidden int_wrap
contract_of_another_method = rw (is_formula-Bool classes (contract_scope (method ty.Void (Some anything))) true) refl

contract_of_main : has_contracts (two_methods (Some anything) None) ≡ false
unfolding out-Ty out shown-the_row-Ty-0 shown hidden int_wrap
contract_of_main = rw (is_formula-Bool classes (contract_scope (method ty.Void (Some anything))) true) refl

-- the program of two classes, with a contract for a method
with_a_contract : IsWellTyped (with_contracts good (Some anything ∷ []))
unfolding out-Ty out shown-the_row-Ty-0 shown hidden int_wrap
with_a_contract = stays_well_typed good (Some anything ∷ []) good_is_well_typed (rw (is_formula-Bool good.classes (contract_scope f) true) refl)
  where
    f : Method
    f = record { name = codes "f"; owner = 18; on_object = true; params = []; answer = ty.Int; locals = []; body = stmt.Return (Some (expr.Int (pos 1))) ∷ []; contract = None }
