-- What the readers give for some short statements.
use Rattle.std.proofs.Common.{◌≡◌, ℕ, ◌+◌, List, [], ◌∷◌, true, Some, None, Ok, Err, refl}
use Rattle.java_tokens.specs.declared.token.Keyword.TheVariants as w
use Rattle.java_tokens.specs.declared.token.Operator.TheVariants as o
use Rattle.java_tokens.specs.declared.token.TokenKind.{TokenKind}
use Rattle.java_tokens.specs.declared.token.TokenKind.TheVariants as k
use Rattle.java_syntax.specs.declared.expression.Expr.{Expr}
use Rattle.java_syntax.specs.declared.expression.Expr as expr
use Rattle.java_syntax.specs.declared.expression.Expr.TheVariants as e
use Rattle.token_reading.specs.declared.name.BaseType.TheVariants as base
use Rattle.java_syntax.specs.declared.operator.AssignOp.TheVariants as assign
use Rattle.java_syntax.specs.declared.operator.BinaryOp.TheVariants as binary
use Rattle.java_syntax.specs.declared.operator.Fix.TheVariants as fix
use Rattle.java_syntax.specs.declared.operator.StepOp.TheVariants as step
use Rattle.java_syntax.specs.declared.statement.Stmt.{Stmt}
use Rattle.java_syntax.specs.declared.statement.Stmt.TheVariants as s
use Rattle.token_reading.specs.Lexeme.{Lexeme, lexeme, same_operator, same_keyword}
use Rattle.token_reading.specs.Outcome.{no_tree}
use Rattle.token_reading.specs.ReadType.{expect, expect_word, ident_at, ident, brackets, pairs, base_type, type_of, type_tree, none_fits}
use Rattle.java_reading.specs.ReadExpr.{more_args, args, named, cast, parens, operand, super_call, instance, array, creation, prefix, member, element, conditional, instance_of, operated, climb, precedence, reading}
use Rattle.java_reading.specs.ReadStmt.{value, arguments, local_of, initial, local, declaration, step_before, assignment, step_behind, evaluated, simple, unended, stmts, block, inner_block, condition, ended, otherwise, if_stmt, while_stmt, do_stmt, more_simples, simples, start, for_stmt, return_stmt, throw_stmt, super_stmt, catch_clause, catch, catches, finally, try_stmt, local_stmt, simple_stmt, plain_stmt, stmt, statement}

-- these tokens, numbered from the number on
abbrev row : ℕ → List TokenKind → List Lexeme
row n [] = []
row n (x ∷ xs) = lexeme n x ∷ row (n + 1) xs

-- Directly in a block the tokens are this statement, of height 6 at most.
abbrev Reads : List TokenKind → Stmt → Type 0
Reads tokens t = statement 6 true (row 0 tokens) ≡ Ok (t, [])

-- They are none.
abbrev Refuses : List TokenKind → Type 0
Refuses tokens = statement 6 true (row 0 tokens) ≡ Err no_tree

abbrev name_a : List ℕ
name_a = 97 ∷ []

abbrev name_b : List ℕ
name_b = 98 ∷ []

abbrev name_i : List ℕ
name_i = 105 ∷ []

abbrev name_j : List ℕ
name_j = 106 ∷ []

abbrev name_m : List ℕ
name_m = 109 ∷ []

abbrev name_n : List ℕ
name_n = 110 ∷ []

abbrev name_upper_a : List ℕ
name_upper_a = 65 ∷ []

abbrev name_upper_e : List ℕ
name_upper_e = 69 ∷ []

abbrev name_x : List ℕ
name_x = 120 ∷ []

-- `if`, loops and `try`
loops_and_branches :
    -- `if (a) if (b) ; else ;`
    Reads (k.Word w.If ∷ k.Op o.LeftParen ∷ k.Ident name_a ∷ k.Op o.RightParen ∷ k.Word w.If ∷ k.Op o.LeftParen ∷
    k.Ident name_b ∷ k.Op o.RightParen ∷ k.Op o.Semicolon ∷ k.Word w.Else ∷ k.Op o.Semicolon ∷ [])
    (s.If (e.Name (ident_at 2 name_a)) (s.If (e.Name (ident_at 6 name_b)) s.Empty (Some s.Empty)) None)
    -- `if (a) while (b) if (x) ; else ;`
    × Reads (k.Word w.If ∷ k.Op o.LeftParen ∷ k.Ident name_a ∷ k.Op o.RightParen ∷ k.Word w.While ∷
    k.Op o.LeftParen ∷ k.Ident name_b ∷ k.Op o.RightParen ∷ k.Word w.If ∷ k.Op o.LeftParen ∷ k.Ident name_x ∷
    k.Op o.RightParen ∷ k.Op o.Semicolon ∷ k.Word w.Else ∷ k.Op o.Semicolon ∷ [])
    (s.If (e.Name (ident_at 2 name_a)) (s.While (e.Name (ident_at 6 name_b)) (s.If (e.Name (ident_at 10 name_x))
    s.Empty (Some s.Empty))) None)
    -- `for (;;) ;`
    × Reads (k.Word w.For ∷ k.Op o.LeftParen ∷ k.Op o.Semicolon ∷ k.Op o.Semicolon ∷ k.Op o.RightParen ∷
    k.Op o.Semicolon ∷ [])
    (s.For [] None [] s.Empty)
    -- `for (int i = 0; i < n; i++) ;`
    × Reads (k.Word w.For ∷ k.Op o.LeftParen ∷ k.Word w.Int ∷ k.Ident name_i ∷ k.Op o.Assign ∷ k.Number 0 ∷
    k.Op o.Semicolon ∷ k.Ident name_i ∷ k.Op o.Less ∷ k.Ident name_n ∷ k.Op o.Semicolon ∷ k.Ident name_i ∷
    k.Op o.Increment ∷ k.Op o.RightParen ∷ k.Op o.Semicolon ∷ [])
    (s.For (s.Local (local_of (type_of base.Int 0) (ident_at 3 name_i) (Some (e.Number 5 0))) ∷ []) (Some (e.Binary
    binary.Less (e.Name (ident_at 7 name_i)) (e.Name (ident_at 9 name_n)))) (s.Step step.Increment fix.Behind
    (e.Name (ident_at 11 name_i)) ∷ []) s.Empty)
    -- `for (i = 0, j = 1; ; i++, j--) ;`
    × Reads (k.Word w.For ∷ k.Op o.LeftParen ∷ k.Ident name_i ∷ k.Op o.Assign ∷ k.Number 0 ∷ k.Op o.Comma ∷
    k.Ident name_j ∷ k.Op o.Assign ∷ k.Number 1 ∷ k.Op o.Semicolon ∷ k.Op o.Semicolon ∷ k.Ident name_i ∷
    k.Op o.Increment ∷ k.Op o.Comma ∷ k.Ident name_j ∷ k.Op o.Decrement ∷ k.Op o.RightParen ∷ k.Op o.Semicolon ∷
    [])
    (s.For (s.Assign (e.Name (ident_at 2 name_i)) assign.Assign (e.Number 4 0) ∷ s.Assign (e.Name (ident_at 6
    name_j)) assign.Assign (e.Number 8 1) ∷ []) None (s.Step step.Increment fix.Behind (e.Name (ident_at 11
    name_i)) ∷ s.Step step.Decrement fix.Behind (e.Name (ident_at 14 name_j)) ∷ []) s.Empty)
    -- `for (int i, j; ;) ;`
    × Refuses (k.Word w.For ∷ k.Op o.LeftParen ∷ k.Word w.Int ∷ k.Ident name_i ∷ k.Op o.Comma ∷ k.Ident name_j ∷
    k.Op o.Semicolon ∷ k.Op o.Semicolon ∷ k.Op o.RightParen ∷ k.Op o.Semicolon ∷ [])
    -- `do ; while (a);`
    × Reads (k.Word w.Do ∷ k.Op o.Semicolon ∷ k.Word w.While ∷ k.Op o.LeftParen ∷ k.Ident name_a ∷
    k.Op o.RightParen ∷ k.Op o.Semicolon ∷ [])
    (s.DoWhile s.Empty (e.Name (ident_at 4 name_a)))
    -- `try { }`
    × Refuses (k.Word w.Try ∷ k.Op o.LeftBrace ∷ k.Op o.RightBrace ∷ [])
    -- `try { } finally { }`
    × Reads (k.Word w.Try ∷ k.Op o.LeftBrace ∷ k.Op o.RightBrace ∷ k.Word w.Finally ∷ k.Op o.LeftBrace ∷
    k.Op o.RightBrace ∷ [])
    (s.Try (s.Block []) [] (Some (s.Block [])))
    -- `try { } catch (E x) { ; }`
    × Reads (k.Word w.Try ∷ k.Op o.LeftBrace ∷ k.Op o.RightBrace ∷ k.Word w.Catch ∷ k.Op o.LeftParen ∷
    k.Ident name_upper_e ∷ k.Ident name_x ∷ k.Op o.RightParen ∷ k.Op o.LeftBrace ∷ k.Op o.Semicolon ∷
    k.Op o.RightBrace ∷ [])
    (s.Try (s.Block []) (catch_clause (ident_at 5 name_upper_e) (ident_at 6 name_x) (s.Block (s.Empty ∷ [])) ∷ [])
    None)
    -- `try ; finally { }`
    × Refuses (k.Word w.Try ∷ k.Op o.Semicolon ∷ k.Word w.Finally ∷ k.Op o.LeftBrace ∷ k.Op o.RightBrace ∷ [])
    -- `return; return a; break; continue; throw a;`
    × Reads (k.Op o.LeftBrace ∷ k.Word w.Return ∷ k.Op o.Semicolon ∷ k.Word w.Return ∷ k.Ident name_a ∷
    k.Op o.Semicolon ∷ k.Word w.Break ∷ k.Op o.Semicolon ∷ k.Word w.Continue ∷ k.Op o.Semicolon ∷ k.Word w.Throw ∷
    k.Ident name_a ∷ k.Op o.Semicolon ∷ k.Op o.RightBrace ∷ [])
    (s.Block (s.Return 1 None ∷ s.Return 3 (Some (e.Name (ident_at 4 name_a))) ∷ s.Break 6 ∷ s.Continue 8 ∷ s.Throw
    (e.Name (ident_at 11 name_a)) ∷ []))
unfolding reading precedence prefix climb named args more_args cast parens operand super_call instance array creation member element conditional instance_of operated expect expect_word ident brackets pairs base_type type_tree same_operator same_keyword value arguments none_fits initial local declaration step_before assignment step_behind evaluated simple unended stmts block inner_block condition ended otherwise if_stmt while_stmt do_stmt more_simples simples start for_stmt return_stmt throw_stmt super_stmt catch catches finally try_stmt local_stmt simple_stmt plain_stmt stmt statement expr.out-Expr denote.Hole.Carrier.out
loops_and_branches = (refl, refl, refl, refl, refl, refl, refl, refl, refl, refl, refl, refl)

-- declarations, assignments and calls
declarations_and_expressions :
    -- `A x;`
    Reads (k.Ident name_upper_a ∷ k.Ident name_x ∷ k.Op o.Semicolon ∷ [])
    (s.Local (local_of (type_of (base.Class (ident_at 0 name_upper_a)) 0) (ident_at 1 name_x) None))
    -- `A[] x;`
    × Reads (k.Ident name_upper_a ∷ k.Op o.LeftBracket ∷ k.Op o.RightBracket ∷ k.Ident name_x ∷ k.Op o.Semicolon ∷
    [])
    (s.Local (local_of (type_of (base.Class (ident_at 0 name_upper_a)) 1) (ident_at 3 name_x) None))
    -- `if (x) int a = 1;`
    × Refuses (k.Word w.If ∷ k.Op o.LeftParen ∷ k.Ident name_x ∷ k.Op o.RightParen ∷ k.Word w.Int ∷
    k.Ident name_a ∷ k.Op o.Assign ∷ k.Number 1 ∷ k.Op o.Semicolon ∷ [])
    -- `a[i] = 1;`
    × Reads (k.Ident name_a ∷ k.Op o.LeftBracket ∷ k.Ident name_i ∷ k.Op o.RightBracket ∷ k.Op o.Assign ∷
    k.Number 1 ∷ k.Op o.Semicolon ∷ [])
    (s.Assign (e.Element (e.Name (ident_at 0 name_a)) (e.Name (ident_at 2 name_i))) assign.Assign (e.Number 5 1))
    -- `a.b >>>= 1;`
    × Reads (k.Ident name_a ∷ k.Op o.Dot ∷ k.Ident name_b ∷ k.Op o.UnsignedShiftRightAssign ∷ k.Number 1 ∷
    k.Op o.Semicolon ∷ [])
    (s.Assign (e.Field (e.Name (ident_at 0 name_a)) (ident_at 2 name_b)) assign.UnsignedShiftRight (e.Number 4 1))
    -- `(a) = 1;`
    × Reads (k.Op o.LeftParen ∷ k.Ident name_a ∷ k.Op o.RightParen ∷ k.Op o.Assign ∷ k.Number 1 ∷
    k.Op o.Semicolon ∷ [])
    (s.Assign (e.Paren 0 (e.Name (ident_at 1 name_a))) assign.Assign (e.Number 4 1))
    -- `a + b = 1;`
    × Refuses (k.Ident name_a ∷ k.Op o.Plus ∷ k.Ident name_b ∷ k.Op o.Assign ∷ k.Number 1 ∷ k.Op o.Semicolon ∷ [])
    -- `++a;`
    × Reads (k.Op o.Increment ∷ k.Ident name_a ∷ k.Op o.Semicolon ∷ [])
    (s.Step step.Increment fix.Before (e.Name (ident_at 1 name_a)))
    -- `super(a);`
    × Reads (k.Word w.Super ∷ k.Op o.LeftParen ∷ k.Ident name_a ∷ k.Op o.RightParen ∷ k.Op o.Semicolon ∷ [])
    (s.Super 0 ((e.Name (ident_at 2 name_a)) ∷ []))
    -- `super.m(a);`
    × Reads (k.Word w.Super ∷ k.Op o.Dot ∷ k.Ident name_m ∷ k.Op o.LeftParen ∷ k.Ident name_a ∷ k.Op o.RightParen ∷
    k.Op o.Semicolon ∷ [])
    (s.Eval (e.Super 0 (ident_at 2 name_m) ((e.Name (ident_at 4 name_a)) ∷ [])))
unfolding reading precedence prefix climb named args more_args cast parens operand super_call instance array creation member element conditional instance_of operated expect expect_word ident brackets pairs base_type type_tree same_operator same_keyword value arguments none_fits initial local declaration step_before assignment step_behind evaluated simple unended stmts block inner_block condition ended otherwise if_stmt while_stmt do_stmt more_simples simples start for_stmt return_stmt throw_stmt super_stmt catch catches finally try_stmt local_stmt simple_stmt plain_stmt stmt statement expr.out-Expr denote.Hole.Carrier.out
declarations_and_expressions = (refl, refl, refl, refl, refl, refl, refl, refl, refl, refl)
