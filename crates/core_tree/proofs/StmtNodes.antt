-- When a statement is well typed, and which locals it declares, node by node.
use Rattle.std.proofs.Common.{◌≡◌, ◌∙◌, ℕ, Bool, List, Option, Some, None, map, sym, ap}
use Rattle.std.specs.Option.{option_map}
use Rattle.core_tree.specs.declared.ty.Ty.{Ty}
use Rattle.core_tree.specs.declared.operator.UpOp.{UpOp}
use Rattle.core_tree.specs.declared.expr.Expr.{Expr}
use Rattle.core_tree.specs.declared.stmt.Target.{Target}
use Rattle.core_tree.specs.declared.stmt.Catch.{Catch}
use Rattle.core_tree.specs.declared.stmt.Stmt.{Stmt}
use Rattle.core_tree.specs.declared.stmt.Stmt.TheVariants as stmt
use Rattle.core_tree.specs.declared.stmt.Stmt.TheOpen.{Stmt-F}
use Rattle.core_tree.specs.declared.stmt.Stmt.TheFolds.{fold-roll-Stmt, fold-Catch}
use Rattle.core_tree.specs.declared.program.Program.{Program}
use Rattle.core_tree.specs.Typing.{Scope, InLoop, stmt_node, catch_node, is_typed_stmt}
use Rattle.core_tree.specs.WellTyped.{declared_node, declared_catch, declared_numbers}

pub is_typed_stmt-Empty : (p : Program) (s : Scope) → is_typed_stmt p s stmt.Empty ≡ stmt_node p s Stmt-F.Empty
unfolding is_typed_stmt
is_typed_stmt-Empty p s = ap (is_typed_stmt p s) (sym stmt.rolls-Empty) ∙ fold-roll-Stmt InLoop InLoop (stmt_node p s) (catch_node p s) Stmt-F.Empty

pub is_typed_stmt-Block : (p : Program) (s : Scope) (all : List Stmt) → is_typed_stmt p s (stmt.Block all) ≡ stmt_node p s (Stmt-F.Block (map (is_typed_stmt p s) all))
unfolding is_typed_stmt
is_typed_stmt-Block p s all = ap (is_typed_stmt p s) (sym (stmt.rolls-Block all)) ∙ fold-roll-Stmt InLoop InLoop (stmt_node p s) (catch_node p s) (Stmt-F.Block all)

pub is_typed_stmt-Declare : (p : Program) (s : Scope) (at : ℕ) (t : Ty) (e : Option Expr) → is_typed_stmt p s (stmt.Declare at t e) ≡ stmt_node p s (Stmt-F.Declare at t e)
unfolding is_typed_stmt
is_typed_stmt-Declare p s at t e = ap (is_typed_stmt p s) (sym (stmt.rolls-Declare at t e)) ∙ fold-roll-Stmt InLoop InLoop (stmt_node p s) (catch_node p s) (Stmt-F.Declare at t e)

pub is_typed_stmt-Assign : (p : Program) (s : Scope) (to : Target) (e : Expr) → is_typed_stmt p s (stmt.Assign to e) ≡ stmt_node p s (Stmt-F.Assign to e)
unfolding is_typed_stmt
is_typed_stmt-Assign p s to e = ap (is_typed_stmt p s) (sym (stmt.rolls-Assign to e)) ∙ fold-roll-Stmt InLoop InLoop (stmt_node p s) (catch_node p s) (Stmt-F.Assign to e)

pub is_typed_stmt-Update : (p : Program) (s : Scope) (to : Target) (op : UpOp) (e : Option Expr) → is_typed_stmt p s (stmt.Update to op e) ≡ stmt_node p s (Stmt-F.Update to op e)
unfolding is_typed_stmt
is_typed_stmt-Update p s to op e = ap (is_typed_stmt p s) (sym (stmt.rolls-Update to op e)) ∙ fold-roll-Stmt InLoop InLoop (stmt_node p s) (catch_node p s) (Stmt-F.Update to op e)

pub is_typed_stmt-Eval : (p : Program) (s : Scope) (e : Expr) → is_typed_stmt p s (stmt.Eval e) ≡ stmt_node p s (Stmt-F.Eval e)
unfolding is_typed_stmt
is_typed_stmt-Eval p s e = ap (is_typed_stmt p s) (sym (stmt.rolls-Eval e)) ∙ fold-roll-Stmt InLoop InLoop (stmt_node p s) (catch_node p s) (Stmt-F.Eval e)

pub is_typed_stmt-Print : (p : Program) (s : Scope) (line : Bool) (e : Option Expr) → is_typed_stmt p s (stmt.Print line e) ≡ stmt_node p s (Stmt-F.Print line e)
unfolding is_typed_stmt
is_typed_stmt-Print p s line e = ap (is_typed_stmt p s) (sym (stmt.rolls-Print line e)) ∙ fold-roll-Stmt InLoop InLoop (stmt_node p s) (catch_node p s) (Stmt-F.Print line e)

pub is_typed_stmt-If : (p : Program) (s : Scope) (test : Expr) (body : Stmt) (other : Option Stmt) → is_typed_stmt p s (stmt.If test body other) ≡ stmt_node p s (Stmt-F.If test (is_typed_stmt p s body) (option_map (is_typed_stmt p s) other))
unfolding is_typed_stmt
is_typed_stmt-If p s test body None = ap (is_typed_stmt p s) (sym (stmt.rolls-If test body None)) ∙ fold-roll-Stmt InLoop InLoop (stmt_node p s) (catch_node p s) (Stmt-F.If test body None)
is_typed_stmt-If p s test body (Some other) = ap (is_typed_stmt p s) (sym (stmt.rolls-If test body (Some other))) ∙ fold-roll-Stmt InLoop InLoop (stmt_node p s) (catch_node p s) (Stmt-F.If test body (Some other))

pub is_typed_stmt-While : (p : Program) (s : Scope) (test : Expr) (body : Stmt) → is_typed_stmt p s (stmt.While test body) ≡ stmt_node p s (Stmt-F.While test (is_typed_stmt p s body))
unfolding is_typed_stmt
is_typed_stmt-While p s test body = ap (is_typed_stmt p s) (sym (stmt.rolls-While test body)) ∙ fold-roll-Stmt InLoop InLoop (stmt_node p s) (catch_node p s) (Stmt-F.While test body)

pub is_typed_stmt-DoWhile : (p : Program) (s : Scope) (body : Stmt) (test : Expr) → is_typed_stmt p s (stmt.DoWhile body test) ≡ stmt_node p s (Stmt-F.DoWhile (is_typed_stmt p s body) test)
unfolding is_typed_stmt
is_typed_stmt-DoWhile p s body test = ap (is_typed_stmt p s) (sym (stmt.rolls-DoWhile body test)) ∙ fold-roll-Stmt InLoop InLoop (stmt_node p s) (catch_node p s) (Stmt-F.DoWhile body test)

pub is_typed_stmt-For : (p : Program) (s : Scope) (first : List Stmt) (test : Option Expr) (updates : List Stmt) (body : Stmt) → is_typed_stmt p s (stmt.For first test updates body) ≡ stmt_node p s (Stmt-F.For (map (is_typed_stmt p s) first) test (map (is_typed_stmt p s) updates) (is_typed_stmt p s body))
unfolding is_typed_stmt
is_typed_stmt-For p s first test updates body = ap (is_typed_stmt p s) (sym (stmt.rolls-For first test updates body)) ∙ fold-roll-Stmt InLoop InLoop (stmt_node p s) (catch_node p s) (Stmt-F.For first test updates body)

pub is_typed_stmt-Return : (p : Program) (s : Scope) (e : Option Expr) → is_typed_stmt p s (stmt.Return e) ≡ stmt_node p s (Stmt-F.Return e)
unfolding is_typed_stmt
is_typed_stmt-Return p s e = ap (is_typed_stmt p s) (sym (stmt.rolls-Return e)) ∙ fold-roll-Stmt InLoop InLoop (stmt_node p s) (catch_node p s) (Stmt-F.Return e)

pub is_typed_stmt-Break : (p : Program) (s : Scope) → is_typed_stmt p s stmt.Break ≡ stmt_node p s Stmt-F.Break
unfolding is_typed_stmt
is_typed_stmt-Break p s = ap (is_typed_stmt p s) (sym stmt.rolls-Break) ∙ fold-roll-Stmt InLoop InLoop (stmt_node p s) (catch_node p s) Stmt-F.Break

pub is_typed_stmt-Continue : (p : Program) (s : Scope) → is_typed_stmt p s stmt.Continue ≡ stmt_node p s Stmt-F.Continue
unfolding is_typed_stmt
is_typed_stmt-Continue p s = ap (is_typed_stmt p s) (sym stmt.rolls-Continue) ∙ fold-roll-Stmt InLoop InLoop (stmt_node p s) (catch_node p s) Stmt-F.Continue

pub is_typed_stmt-Throw : (p : Program) (s : Scope) (e : Expr) → is_typed_stmt p s (stmt.Throw e) ≡ stmt_node p s (Stmt-F.Throw e)
unfolding is_typed_stmt
is_typed_stmt-Throw p s e = ap (is_typed_stmt p s) (sym (stmt.rolls-Throw e)) ∙ fold-roll-Stmt InLoop InLoop (stmt_node p s) (catch_node p s) (Stmt-F.Throw e)

pub is_typed_stmt-Try : (p : Program) (s : Scope) (body : Stmt) (catches : List Catch) (last : Option Stmt) → is_typed_stmt p s (stmt.Try body catches last) ≡ stmt_node p s (Stmt-F.Try (is_typed_stmt p s body) (map (fold-Catch InLoop InLoop (stmt_node p s) (catch_node p s)) catches) (option_map (is_typed_stmt p s) last))
unfolding is_typed_stmt
is_typed_stmt-Try p s body catches None = ap (is_typed_stmt p s) (sym (stmt.rolls-Try body catches None)) ∙ fold-roll-Stmt InLoop InLoop (stmt_node p s) (catch_node p s) (Stmt-F.Try body catches None)
is_typed_stmt-Try p s body catches (Some last) = ap (is_typed_stmt p s) (sym (stmt.rolls-Try body catches (Some last))) ∙ fold-roll-Stmt InLoop InLoop (stmt_node p s) (catch_node p s) (Stmt-F.Try body catches (Some last))

pub declared_numbers-Empty : declared_numbers stmt.Empty ≡ declared_node Stmt-F.Empty
unfolding declared_numbers
declared_numbers-Empty = ap declared_numbers (sym stmt.rolls-Empty) ∙ fold-roll-Stmt (List ℕ) (List ℕ) declared_node declared_catch Stmt-F.Empty

pub declared_numbers-Block : (all : List Stmt) → declared_numbers (stmt.Block all) ≡ declared_node (Stmt-F.Block (map declared_numbers all))
unfolding declared_numbers
declared_numbers-Block all = ap declared_numbers (sym (stmt.rolls-Block all)) ∙ fold-roll-Stmt (List ℕ) (List ℕ) declared_node declared_catch (Stmt-F.Block all)

pub declared_numbers-Declare : (at : ℕ) (t : Ty) (e : Option Expr) → declared_numbers (stmt.Declare at t e) ≡ declared_node (Stmt-F.Declare at t e)
unfolding declared_numbers
declared_numbers-Declare at t e = ap declared_numbers (sym (stmt.rolls-Declare at t e)) ∙ fold-roll-Stmt (List ℕ) (List ℕ) declared_node declared_catch (Stmt-F.Declare at t e)

pub declared_numbers-Assign : (to : Target) (e : Expr) → declared_numbers (stmt.Assign to e) ≡ declared_node (Stmt-F.Assign to e)
unfolding declared_numbers
declared_numbers-Assign to e = ap declared_numbers (sym (stmt.rolls-Assign to e)) ∙ fold-roll-Stmt (List ℕ) (List ℕ) declared_node declared_catch (Stmt-F.Assign to e)

pub declared_numbers-Update : (to : Target) (op : UpOp) (e : Option Expr) → declared_numbers (stmt.Update to op e) ≡ declared_node (Stmt-F.Update to op e)
unfolding declared_numbers
declared_numbers-Update to op e = ap declared_numbers (sym (stmt.rolls-Update to op e)) ∙ fold-roll-Stmt (List ℕ) (List ℕ) declared_node declared_catch (Stmt-F.Update to op e)

pub declared_numbers-Eval : (e : Expr) → declared_numbers (stmt.Eval e) ≡ declared_node (Stmt-F.Eval e)
unfolding declared_numbers
declared_numbers-Eval e = ap declared_numbers (sym (stmt.rolls-Eval e)) ∙ fold-roll-Stmt (List ℕ) (List ℕ) declared_node declared_catch (Stmt-F.Eval e)

pub declared_numbers-Print : (line : Bool) (e : Option Expr) → declared_numbers (stmt.Print line e) ≡ declared_node (Stmt-F.Print line e)
unfolding declared_numbers
declared_numbers-Print line e = ap declared_numbers (sym (stmt.rolls-Print line e)) ∙ fold-roll-Stmt (List ℕ) (List ℕ) declared_node declared_catch (Stmt-F.Print line e)

pub declared_numbers-If : (test : Expr) (body : Stmt) (other : Option Stmt) → declared_numbers (stmt.If test body other) ≡ declared_node (Stmt-F.If test (declared_numbers body) (option_map declared_numbers other))
unfolding declared_numbers
declared_numbers-If test body None = ap declared_numbers (sym (stmt.rolls-If test body None)) ∙ fold-roll-Stmt (List ℕ) (List ℕ) declared_node declared_catch (Stmt-F.If test body None)
declared_numbers-If test body (Some other) = ap declared_numbers (sym (stmt.rolls-If test body (Some other))) ∙ fold-roll-Stmt (List ℕ) (List ℕ) declared_node declared_catch (Stmt-F.If test body (Some other))

pub declared_numbers-While : (test : Expr) (body : Stmt) → declared_numbers (stmt.While test body) ≡ declared_node (Stmt-F.While test (declared_numbers body))
unfolding declared_numbers
declared_numbers-While test body = ap declared_numbers (sym (stmt.rolls-While test body)) ∙ fold-roll-Stmt (List ℕ) (List ℕ) declared_node declared_catch (Stmt-F.While test body)

pub declared_numbers-DoWhile : (body : Stmt) (test : Expr) → declared_numbers (stmt.DoWhile body test) ≡ declared_node (Stmt-F.DoWhile (declared_numbers body) test)
unfolding declared_numbers
declared_numbers-DoWhile body test = ap declared_numbers (sym (stmt.rolls-DoWhile body test)) ∙ fold-roll-Stmt (List ℕ) (List ℕ) declared_node declared_catch (Stmt-F.DoWhile body test)

pub declared_numbers-For : (first : List Stmt) (test : Option Expr) (updates : List Stmt) (body : Stmt) → declared_numbers (stmt.For first test updates body) ≡ declared_node (Stmt-F.For (map declared_numbers first) test (map declared_numbers updates) (declared_numbers body))
unfolding declared_numbers
declared_numbers-For first test updates body = ap declared_numbers (sym (stmt.rolls-For first test updates body)) ∙ fold-roll-Stmt (List ℕ) (List ℕ) declared_node declared_catch (Stmt-F.For first test updates body)

pub declared_numbers-Return : (e : Option Expr) → declared_numbers (stmt.Return e) ≡ declared_node (Stmt-F.Return e)
unfolding declared_numbers
declared_numbers-Return e = ap declared_numbers (sym (stmt.rolls-Return e)) ∙ fold-roll-Stmt (List ℕ) (List ℕ) declared_node declared_catch (Stmt-F.Return e)

pub declared_numbers-Break : declared_numbers stmt.Break ≡ declared_node Stmt-F.Break
unfolding declared_numbers
declared_numbers-Break = ap declared_numbers (sym stmt.rolls-Break) ∙ fold-roll-Stmt (List ℕ) (List ℕ) declared_node declared_catch Stmt-F.Break

pub declared_numbers-Continue : declared_numbers stmt.Continue ≡ declared_node Stmt-F.Continue
unfolding declared_numbers
declared_numbers-Continue = ap declared_numbers (sym stmt.rolls-Continue) ∙ fold-roll-Stmt (List ℕ) (List ℕ) declared_node declared_catch Stmt-F.Continue

pub declared_numbers-Throw : (e : Expr) → declared_numbers (stmt.Throw e) ≡ declared_node (Stmt-F.Throw e)
unfolding declared_numbers
declared_numbers-Throw e = ap declared_numbers (sym (stmt.rolls-Throw e)) ∙ fold-roll-Stmt (List ℕ) (List ℕ) declared_node declared_catch (Stmt-F.Throw e)

pub declared_numbers-Try : (body : Stmt) (catches : List Catch) (last : Option Stmt) → declared_numbers (stmt.Try body catches last) ≡ declared_node (Stmt-F.Try (declared_numbers body) (map (fold-Catch (List ℕ) (List ℕ) declared_node declared_catch) catches) (option_map declared_numbers last))
unfolding declared_numbers
declared_numbers-Try body catches None = ap declared_numbers (sym (stmt.rolls-Try body catches None)) ∙ fold-roll-Stmt (List ℕ) (List ℕ) declared_node declared_catch (Stmt-F.Try body catches None)
declared_numbers-Try body catches (Some last) = ap declared_numbers (sym (stmt.rolls-Try body catches (Some last))) ∙ fold-roll-Stmt (List ℕ) (List ℕ) declared_node declared_catch (Stmt-F.Try body catches (Some last))
