-- Worked runs of the reference evaluation, computed.
use Rattle.std.proofs.Common.{◌≡◌, ℕ, ℤ, pos, List, [], ◌∷◌, ◌++◌, map, Some, None, true, false, codes, refl}
use Rattle.std.specs.Int.{int_wrap}
use Rattle.std.specs.Fmt.{digits}
use lib.Utf8.{encode}
use denote.Hole.Carrier.{out, shown, hidden}
use Rattle.core_tree.specs.declared.ty.Ty.{Ty, out-Ty}
use Rattle.core_tree.specs.declared.ty.Ty.TheBlock.{shown-the_row-Ty-0}
use Rattle.core_tree.specs.declared.ty.Ty.TheVariants as ty
use Rattle.core_tree.specs.declared.ty.Ty.TheViews as type
use Rattle.core_tree.specs.declared.operator.BinOp.TheVariants as op
use Rattle.core_tree.specs.declared.operator.UpOp.TheVariants as update
use Rattle.core_tree.specs.declared.expr.Expr.{Expr, out-Expr}
use Rattle.core_tree.specs.declared.expr.Expr.TheBlock.{shown-the_row-Expr-0, shown-the_row-Expr-1}
use Rattle.core_tree.specs.declared.expr.Expr.TheVariants as expr
use Rattle.core_tree.specs.declared.expr.Expr.TheViews as view
use Rattle.core_tree.specs.declared.expr.Site.{Site}
use Rattle.core_tree.specs.declared.stmt.Target.TheVariants as target
use Rattle.core_tree.specs.declared.stmt.Stmt.{Stmt, out-Stmt}
use Rattle.core_tree.specs.declared.stmt.Stmt.TheBlock.{shown-the_row-Stmt-0, shown-the_row-Stmt-1, shown-the_row-Catch-2}
use Rattle.core_tree.specs.declared.stmt.Stmt.TheVariants as stmt
use Rattle.core_tree.specs.declared.stmt.Stmt.TheViews as statement
use Rattle.core_tree.specs.declared.program.Class.{Class}
use Rattle.core_tree.specs.declared.program.Method.{Method}
use Rattle.core_tree.specs.declared.program.Program.{Program}
use Rattle.core_tree.specs.BuiltIn.{built_in_classes}
use Rattle.core_tree.specs.Types.{line_within}
use Rattle.evaluation.specs.World.{Answer}
use Rattle.evaluation.specs.Execute.{meaning}
use Rattle.evaluation.specs.Run.{run, ending, Ending}

-- class Main, which declares no instance method
abbrev main_class : Class
main_class = record { name = codes "Main"; parent = Some 0; fields = []; chosen = None ∷ [] }

-- a static method of Main with these parameters, result and other locals
abbrev static_method : List Ty → Ty → List Ty → List Stmt → Method
static_method params answer locals body = record {
  name = codes "m";
  owner = 18;
  on_object = false;
  params = params;
  answer = answer;
  locals = locals;
  body = body;
  contract = None;
}

-- a main with these locals and this body, and static methods without parameters, with these bodies, that answer an int
abbrev program : List Ty → List Stmt → List (List Stmt) → Program
program locals body others = record {
  classes = built_in_classes ++ main_class ∷ [];
  methods = static_method (type.Array ty.Text ∷ []) ty.Void locals body ∷ map (static_method [] ty.Int []) others;
  makers = [];
  main = 0;
}

-- how a run ends, how many steps are left, and what it printed
pub record Seen : Type 0 where
  pub ending : Ending
  pub left : ℕ
  pub out : List ℕ

-- what is seen of a run with these arguments and that many steps
seen_of : Program → List (List ℕ) → ℕ → Seen
unfolding int_wrap digits meaning out-Expr out-Stmt out-Ty out shown-the_row-Expr-0 shown-the_row-Expr-1 shown-the_row-Stmt-0 shown-the_row-Stmt-1 shown-the_row-Catch-2 shown-the_row-Ty-0 shown hidden encode line_within
seen_of p args steps =
    let a : Answer = run p args steps [] in
    record { ending = ending a; left = a.world.fuel; out = a.out }

-- what is seen of the run of a main without arguments and locals
abbrev seen : List Stmt → List (List Stmt) → ℕ → Seen
seen body others steps = seen_of (program [] body others) [] steps

abbrev site : Site
site = record { line = 1; column = 1 }

abbrev int : ℤ → Expr
int n = expr.Int n

-- System.out.println(e);
abbrev print : Expr → Stmt
print e = stmt.Print true (Some e)

-- return n;
abbrev return : ℤ → Stmt
return n = stmt.Return (Some (int n))

-- a call of the method with this number
abbrev call : ℕ → Expr
call m = expr.Static m [] site

-- println(1 + 2);
abbrev print_sum : List Stmt
print_sum = print (view.Binary op.Add (int (pos 1)) (int (pos 2))) ∷ []

-- the print, the sum and its operands take a step each
four_steps : seen print_sum [] 4 ≡ record { ending = Ending.Done; left = 0; out = codes "3\n" }
unfolding seen_of
four_steps = refl

one_step_too_few : seen print_sum [] 3 ≡ record { ending = Ending.StepsSpent; left = 0; out = [] }
unfolding seen_of
one_step_too_few = refl

-- while (true) { }
abbrev endless : List Stmt
endless = statement.While (expr.Bool true) (stmt.Block []) ∷ []

an_endless_loop_is_spent : seen endless [] 10 ≡ record { ending = Ending.StepsSpent; left = 0; out = [] }
unfolding seen_of
an_endless_loop_is_spent = refl

-- println(1 / 0);
division_by_zero : seen (print (view.Binary op.Div (int (pos 1)) (int (pos 0))) ∷ []) [] 9 ≡ record { ending = Ending.Uncaught 5 None; left = 5; out = [] }
unfolding seen_of
division_by_zero = refl

-- static int m() { try { s } finally { return 2; } }
abbrev returning_finally : Stmt → List Stmt
returning_finally s = statement.Try s [] (Some (return (pos 2))) ∷ []

-- the earlier return is discarded
finally_after_return : seen (print (call 1) ∷ []) (returning_finally (return (pos 1)) ∷ []) 9 ≡ record { ending = Ending.Done; left = 2; out = codes "2\n" }
unfolding seen_of
finally_after_return = refl

-- the exception is discarded
finally_after_throw : seen (print (call 1) ∷ []) (returning_finally (stmt.Throw expr.Null) ∷ []) 9 ≡ record { ending = Ending.Done; left = 2; out = codes "2\n" }
unfolding seen_of
finally_after_throw = refl

-- static int m() { println(n); return n; }
abbrev printing : ℤ → List Stmt
printing n = print (int n) ∷ return n ∷ []

-- println(m1() + m2());
left_operand_first : seen (print (view.Binary op.Add (call 1) (call 2)) ∷ []) (printing (pos 1) ∷ printing (pos 2) ∷ []) 12 ≡ record { ending = Ending.Done; left = 0; out = codes "1\n2\n3\n" }
unfolding seen_of
left_operand_first = refl

-- ---- when null, an index and an operand are looked at, with a local that is an int[]

abbrev seen_array : List Stmt → Seen
seen_array body = seen_of (program (type.Array ty.Int ∷ []) body (printing (pos 1) ∷ [])) [] 20

-- int[] a = new int[1];
abbrev one_element : Stmt
one_element = stmt.Declare 1 (type.Array ty.Int) (Some (view.NewArray ty.Int (int (pos 1))))

-- a is null: println(a[m1()]);
null_after_the_index : seen_array (print (view.Element (expr.Local 1) (call 1)) ∷ []) ≡ record { ending = Ending.Uncaught 6 None; left = 12; out = codes "1\n" }
unfolding seen_of
null_after_the_index = refl

-- int[] a = new int[1]; a[5] = m1();
index_after_the_value : seen_array (one_element ∷ stmt.Assign (target.Element (expr.Local 1) (int (pos 5))) (call 1) ∷ []) ≡ record { ending = Ending.Uncaught 12 None; left = 9; out = codes "1\n" }
unfolding seen_of
index_after_the_value = refl

-- int[] a = new int[1]; a[5] += m1();
index_before_the_operand : seen_array (one_element ∷ stmt.Update (target.Element (expr.Local 1) (int (pos 5))) update.Add (Some (call 1)) ∷ []) ≡ record { ending = Ending.Uncaught 12 None; left = 14; out = [] }
unfolding seen_of
index_before_the_operand = refl

-- int[] a = new int[1]; a[0] += m1(); println(a[0]);
sum_is_stored : seen_array (one_element ∷ stmt.Update (target.Element (expr.Local 1) (int (pos 0))) update.Add (Some (call 1)) ∷ print (view.Element (expr.Local 1) (int (pos 0))) ∷ []) ≡ record { ending = Ending.Done; left = 5; out = codes "1\n1\n" }
unfolding seen_of
sum_is_stored = refl

-- ---- choices, loops and exceptions

-- if (false && m1() == 1) { }
second_operand_is_left_out : seen (statement.If (view.And (expr.Bool false) (view.Binary op.Eq (call 1) (int (pos 1)))) stmt.Empty None ∷ []) (printing (pos 1) ∷ []) 9 ≡ record { ending = Ending.Done; left = 6; out = [] }
unfolding seen_of
second_operand_is_left_out = refl

-- for (int i = 0; i < 2; i++) continue;
abbrev two_turns : List Stmt
two_turns = statement.For (stmt.Declare 1 ty.Int (Some (int (pos 0))) ∷ []) (Some (view.Binary op.Lt (expr.Local 1) (int (pos 2)))) (stmt.Update (target.Local 1) update.Add None ∷ []) stmt.Continue ∷ []

-- the loop, its declaration, three conditions, and two turns of a jump and an update
continue_goes_to_the_update : seen_of (program (ty.Int ∷ []) two_turns []) [] 20 ≡ record { ending = Ending.Done; left = 4; out = [] }
unfolding seen_of
continue_goes_to_the_update = refl

-- try { throw null; } catch (NullPointerException e) { println(7); }
abbrev caught : List Stmt
caught = statement.Try (stmt.Throw expr.Null) (record { class = 6; slot = 1; body = print (int (pos 7)) } ∷ []) None ∷ []

null_is_caught : seen_of (program (ty.Class 6 ∷ []) caught []) [] 9 ≡ record { ending = Ending.Done; left = 4; out = codes "7\n" }
unfolding seen_of
null_is_caught = refl

-- println(args.length);
two_arguments : seen_of (program [] (print (view.Length (expr.Local 0)) ∷ []) []) (codes "a" ∷ codes "bc" ∷ []) 3 ≡ record { ending = Ending.Done; left = 0; out = codes "2\n" }
unfolding seen_of
two_arguments = refl
