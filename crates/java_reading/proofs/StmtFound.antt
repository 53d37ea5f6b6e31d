-- Statements that are written are found.
use Rattle.std.proofs.lemmas.List.{append-nil}
use Rattle.std.proofs.Math.Logic.{inl, inr}
use Rattle.std.proofs.Common.{◌≡◌, ℕ, zero, suc, ◌≤◌, ◌<◌, List, [], ◌∷◌, ◌++◌, length, Bool, true, false, Option, Some, None, Ok, refl, ap, subst, arith, append_assoc}
use Rattle.java_tokens.specs.declared.token.Keyword.TheVariants as word
use Rattle.java_tokens.specs.declared.token.Operator.{Operator}
use Rattle.java_tokens.specs.declared.token.Operator.TheVariants as o
use Rattle.java_tokens.specs.declared.token.TokenKind.TheVariants as k
use Rattle.java_syntax.specs.declared.expression.Expr.{Expr}
use Rattle.java_syntax.specs.declared.statement.CatchTree.{CatchTree, out-CatchTree}
use Rattle.java_syntax.specs.declared.statement.Stmt.{Stmt, out-Stmt, roll-Stmt}
use Rattle.java_syntax.specs.declared.statement.Stmt.TheOpen.{Stmt-F}
use Rattle.java_syntax.specs.declared.statement.Stmt.TheVariants.{rolls-Empty, rolls-Block, rolls-Super, rolls-If, rolls-While, rolls-DoWhile, rolls-For, rolls-Return, rolls-Break, rolls-Continue, rolls-Throw, rolls-Try}
use Rattle.java_syntax.specs.declared.statement.Stmt.TheViews.{roll-out-Stmt, roll-out-CatchTree}
use Rattle.token_reading.specs.Lexeme.{Lexeme, Then, sees, same_operator}
use Rattle.java_syntax.specs.Exprs.{Within, Args}
use Rattle.java_syntax.specs.Stmts.{StmtLayer, is_declaration, MayStand, Unended, local_type_height, UnendedWithin, Simple, MoreSimples, Simples, Declares, Start, Stmts, Condition, Ended, Otherwise, IsBlock, Catch, Catches, Finally, StmtNode, StmtWithin}
use Rattle.java_reading.specs.ReadStmt.{step_operator, value, arguments, unended, stmts, block, inner_block, condition, ended, otherwise, if_stmt, while_stmt, do_stmt, more_simples, simples, start, for_stmt, return_stmt, throw_stmt, super_stmt, catch, catches, finally, try_stmt, local_stmt, simple_stmt, plain_stmt, stmt, statement}
use Rattle.java_reading.proofs.ArgsFacts.{ArgsFacts}
use Rattle.java_reading.proofs.Begins.{begins_operator}
use Rattle.java_reading.proofs.Claims.{ArgsDone, args_done, args_over}
use Rattle.java_reading.proofs.ExprFacts.{ExprFacts}
use Rattle.java_reading.proofs.SimpleFound.{no_sign, Closes, semicolon_closes, comma_closes, paren_closes, value_or, declaration_or, simple_or}
use Rattle.java_reading.proofs.StmtLengths.{header_length, header_other, declares_local, header_simple_local, header_or, stmts_length, catches_length, stmt_length, stmt_no_brace, block_brace}
use Rattle.java_reading.proofs.StmtBegins.{more_simples_length, type_local, simple_local, unended_simple}
use Rattle.token_reading.proofs.Steps.{Or, found, higher, or_then, raise}
use Rattle.token_reading.proofs.Lexemes.{sees_it, sees_word_it}
use Rattle.java_reading.specs.Lookahead.{is_local}
use Rattle.token_reading.proofs.Found.{op_or, word_or, ident_or, none_or}

-- what is known of the statements that are lower than the whole
abbrev Finds : ℕ → ℕ → Type 0
Finds n b = (in_block : Bool) (t : Stmt) (xs rest : List Lexeme) → StmtWithin n in_block t xs rest → Or n b (statement b in_block xs) (Ok (t, rest))

module _ (facts : ExprFacts) (args_facts : ArgsFacts) (n b : ℕ) where
  arguments_by : (given : List Expr) (xs rest : List Lexeme) → ArgsDone n b given xs rest → Or n b (arguments b xs) (Ok (given, rest))
  unfolding arguments
  arguments_by given xs rest (args_done h hn hb r) = found (rw r refl)
  arguments_by given xs rest (args_over h r) = higher h (rw r refl)

  arguments_or : (given : List Expr) (xs rest : List Lexeme) → Args (Within n) given xs rest → Or n b (arguments b xs) (Ok (given, rest))
  arguments_or given xs rest w = arguments_by given xs rest (args_facts.found n b given xs rest w)

  condition_or : (c : Expr) (xs rest : List Lexeme) → Condition (Within n) (UnendedWithin n) (StmtWithin n) c xs rest
      → Or n b (condition (value b) (arguments b) (unended b) (statement b) xs) (Ok (c, rest))
  unfolding condition
  condition_or c xs rest w =
      or_then _ (op_or n b o.LeftParen xs w.0 w.1)
      (or_then _ (value_or facts n b c 1 w.0 w.2 w.3 (rw w.4.1 refl)) (or_then _ (op_or n b o.RightParen w.2 rest w.4) (found refl)))

  ended_or : (e : Option Expr) (xs rest : List Lexeme) → Ended (Within n) (UnendedWithin n) (StmtWithin n) e xs rest
      → Or n b (ended (value b) (arguments b) (unended b) (statement b) xs) (Ok (e, rest))
  unfolding ended
  ended_or None xs rest t = rw (t.1, sees_it o.Semicolon t.0 rest) (found refl)
  ended_or (Some e) xs rest w =
      rw (no_sign o.Semicolon 1 xs refl (facts.begins n e 1 xs w.0 w.1))
      (or_then _ (value_or facts n b e 1 xs w.0 w.1 (rw w.2.1 refl)) (or_then _ (op_or n b o.Semicolon w.0 rest w.2) (found refl)))

  -- ---- the header of a `for`

  module _ (close : Operator) (closes : (xs ys : List Lexeme) → Then (k.Op close) xs ys → Closes xs)
      (no_comma : (xs ys : List Lexeme) → Then (k.Op close) xs ys → sees o.Comma xs ≡ false) (begins_none : begins_operator close ≡ false) (steps_none : step_operator close ≡ None) where
    more_simples_or : (more : List Stmt) (fuel : ℕ) (done : List Stmt) (a : Stmt) (xs ys rest : List Lexeme) → length more < fuel
        → Simple (UnendedWithin n) a xs ys → MoreSimples (UnendedWithin n) close more ys rest
        → Or n b (more_simples (value b) (arguments b) (unended b) (statement b) close fuel done xs) (Ok (done ++ a ∷ more, rest))
    unfolding more_simples
    more_simples_or more zero done a xs ys rest room w ws = absurd (omega arith)
    more_simples_or [] (suc fuel) done a xs ys rest room w ws =
        or_then _ (header_or facts n b false a xs ys w.0 w.1 (closes ys rest ws))
        (rw (no_comma ys rest ws) (or_then _ (op_or n b close ys rest ws) (found refl)))
    more_simples_or (c ∷ more) (suc fuel) done a xs ys rest room w ws =
        let h = more_simples_or more fuel (done ++ a ∷ []) c ws.0 ws.2 rest (omega arith) ws.3 ws.4 in
        or_then _ (header_or facts n b false a xs ys w.0 w.1 (comma_closes ys ws.0 ws.1))
        (rw (ws.1.1, sees_it o.Comma ws.1.0 ws.0) (rw append_assoc at h))

    simples_or : (all : List Stmt) (xs rest : List Lexeme) → Simples (UnendedWithin n) close all xs rest
        → Or n b (simples (value b) (arguments b) (unended b) (statement b) close xs) (Ok (all, rest))
    unfolding simples
    simples_or [] xs rest t = rw (t.1, sees_it close t.0 rest) (found refl)
    simples_or (a ∷ more) xs rest w =
        rw (header_other facts n close begins_none steps_none a xs w.0 w.1.1)
        (more_simples_or more (length xs) [] a xs w.0 rest
        (omega (arith, header_length facts n a xs w.0 w.1.1, more_simples_length (UnendedWithin n) (header_length facts n) close more w.0 rest w.2)) w.1 w.2)

  paren_no_comma : (xs ys : List Lexeme) → Then (k.Op o.RightParen) xs ys → sees o.Comma xs ≡ false
  unfolding same_operator
  paren_no_comma xs ys t = rw t.1 refl

  semicolon_no_comma : (xs ys : List Lexeme) → Then (k.Op o.Semicolon) xs ys → sees o.Comma xs ≡ false
  unfolding same_operator
  semicolon_no_comma xs ys t = rw t.1 refl

  more_closes : (close : Operator) (more : List Stmt) (xs rest : List Lexeme) → ((xs ys : List Lexeme) → Then (k.Op close) xs ys → Closes xs)
      → MoreSimples (UnendedWithin n) close more xs rest → Closes xs
  more_closes close [] xs rest closes t = closes xs rest t
  more_closes close (a ∷ more) xs rest closes w = comma_closes xs w.0 w.1

  simples_local : (all : List Stmt) (xs rest : List Lexeme) → Simples (UnendedWithin n) o.Semicolon all xs rest → is_local xs ≡ false
  simples_local [] xs rest t = rw t.1 refl
  simples_local (a ∷ more) xs rest w = header_simple_local facts n a xs w.0 w.1 (more_closes o.Semicolon more w.0 rest semicolon_closes w.2)

  declares_or : (all : List Stmt) (xs rest : List Lexeme) → Declares (UnendedWithin n) all xs rest
      → Or n b (start (value b) (arguments b) (unended b) (statement b) xs) (Ok (all, rest))
  unfolding start
  declares_or (s ∷ []) xs rest w =
      rw (declares_local facts n s xs w.1 w.0 w.2)
      (or_then _ (header_or facts n b true s xs w.1 w.0 w.2 (semicolon_closes w.1 rest w.3))
      (or_then _ (op_or n b o.Semicolon w.1 rest w.3) (found refl)))
  declares_or _ xs rest w = absurd w

  start_or : (all : List Stmt) (xs rest : List Lexeme) → Start (UnendedWithin n) all xs rest
      → Or n b (start (value b) (arguments b) (unended b) (statement b) xs) (Ok (all, rest))
  unfolding start
  start_or all xs rest (inl w) = declares_or all xs rest w
  start_or all xs rest (inr w) =
      rw (simples_local all xs rest w) (simples_or o.Semicolon semicolon_closes semicolon_no_comma refl refl all xs rest w)

  module _ (ih : Finds n b) where
    otherwise_or : (other : Option Stmt) (xs rest : List Lexeme) → Otherwise (Within n) (UnendedWithin n) (StmtWithin n) other xs rest
        → Or n b (otherwise (value b) (arguments b) (unended b) (statement b) xs) (Ok (other, rest))
    unfolding otherwise
    otherwise_or None xs rest w = rw (w.0, w.1) (found refl)
    otherwise_or (Some s) xs rest w = rw (w.1.1, sees_word_it word.Else w.1.0 w.0) (or_then _ (ih false s w.0 rest w.2) (found refl))

    stmts_or : (all : List Stmt) (fuel : ℕ) (done : List Stmt) (xs rest : List Lexeme) → length all < fuel
        → Stmts (Within n) (UnendedWithin n) (StmtWithin n) all xs rest
        → Or n b (stmts (value b) (arguments b) (unended b) (statement b) fuel done xs) (Ok (done ++ all, rest))
    unfolding stmts
    stmts_or all zero done xs rest room w = absurd (omega arith)
    stmts_or [] (suc fuel) done xs rest room t = rw (t.1, sees_it o.RightBrace t.0 rest, append-nil) (found refl)
    stmts_or (s ∷ more) (suc fuel) done xs rest room w =
        let h = stmts_or more fuel (done ++ s ∷ []) w.0 rest (omega arith) w.2 in
        rw (stmt_no_brace facts n true s xs w.0 w.1) (or_then _ (ih true s xs w.0 w.1) (rw append_assoc at h))

    pub body_or : (all : List Stmt) (xs rest : List Lexeme) → Stmts (Within n) (UnendedWithin n) (StmtWithin n) all xs rest
        → Or n b (stmts (value b) (arguments b) (unended b) (statement b) (length xs) [] xs) (Ok (all, rest))
    body_or all xs rest w = stmts_or all (length xs) [] xs rest (omega (arith, stmts_length facts n (stmt_length facts n) all xs rest w)) w

    inner_or : (s : Stmt) (xs rest : List Lexeme) → IsBlock (Within n) (UnendedWithin n) (StmtWithin n) s xs rest
        → Or n b (inner_block (value b) (arguments b) (unended b) (statement b) xs) (Ok (s, rest))
    unfolding inner_block
    inner_or s xs rest w = rw (block_brace facts n false s xs rest w.0 w.1) (ih false s xs rest w.1)

    catch_or : (c : CatchTree) (xs ys rest : List Lexeme) (w : Catch (Within n) (UnendedWithin n) (StmtWithin n) c xs rest) → ys ≡ w.0
        → Or n b (catch (value b) (arguments b) (unended b) (statement b) ys) (Ok (c, rest))
    unfolding catch
    catch_or c xs ys rest w is =
        rw is (or_then _ (op_or n b o.LeftParen w.0 w.2 w.3)
        (or_then _ (ident_or n b (out-CatchTree c).class w.2 w.4 w.5) (or_then _ (ident_or n b (out-CatchTree c).name w.4 w.6 w.7)
        (or_then _ (op_or n b o.RightParen w.6 w.8 w.9)
        (or_then _ (inner_or (out-CatchTree c).body w.8 rest w.10) (found (ap (λ (d : CatchTree). Ok (d, rest)) (roll-out-CatchTree c))))))))

    catches_or : (all : List CatchTree) (fuel : ℕ) (done : List CatchTree) (xs rest : List Lexeme) → length all ≤ fuel
        → Catches (Within n) (UnendedWithin n) (StmtWithin n) all xs rest
        → Or n b (catches (value b) (arguments b) (unended b) (statement b) fuel done xs) (Ok (done ++ all, rest))
    unfolding catches
    catches_or [] zero done xs rest room w = rw (w.0, w.1, append-nil) (found refl)
    catches_or [] (suc fuel) done xs rest room w = rw (w.0, w.1, append-nil) (found refl)
    catches_or (c ∷ more) zero done xs rest room w = absurd (omega arith)
    catches_or (c ∷ more) (suc fuel) done xs rest room w =
        let h = catches_or more fuel (done ++ c ∷ []) w.0 rest (omega arith) w.2 in
        rw (w.1.1.1, sees_word_it word.Catch w.1.1.0 w.1.0) (or_then _ (catch_or c xs w.1.0 w.0 w.1 refl) (rw append_assoc at h))

    finally_or : (last : Option Stmt) (xs rest : List Lexeme) → Finally (Within n) (UnendedWithin n) (StmtWithin n) last xs rest
        → Or n b (finally (value b) (arguments b) (unended b) (statement b) xs) (Ok (last, rest))
    unfolding finally
    finally_or None xs rest w = rw (w.0, w.1) (found refl)
    finally_or (Some s) xs rest w = rw (w.1.1, sees_word_it word.Finally w.1.0 w.0) (or_then _ (inner_or s w.0 rest w.2) (found refl))

    -- ---- one production each

    plain_or : (f : StmtLayer) (in_block : Bool) (xs rest : List Lexeme) → is_declaration f ≡ false
        → ((ys : List Lexeme) × Unended (Within n) f xs ys × Then (k.Op o.Semicolon) ys rest)
        → Or n b (stmt b (value b) (arguments b) (unended b) (statement b) in_block xs) (Ok (roll-Stmt f, rest))
    unfolding stmt simple_stmt
    plain_or f in_block xs rest other w =
        let c = semicolon_closes w.0 rest w.2 in
        rw (
          simple_local facts n f xs w.0 other w.1 c,
          unended_simple (value b) (arguments b) (unended b) (statement b) facts n f xs w.0 other w.1,
        )
        (or_then _ (simple_or facts n b f xs w.0 other w.1 c) (or_then _ (op_or n b o.Semicolon w.0 rest w.2) (found refl)))

    node_or : (f : StmtLayer) (in_block : Bool) (xs rest : List Lexeme) → MayStand in_block f → local_type_height f ≤ n
        → StmtNode (Within n) (UnendedWithin n) (StmtWithin n) f xs rest
        → Or n b (stmt b (value b) (arguments b) (unended b) (statement b) in_block xs) (Ok (roll-Stmt f, rest))
    unfolding stmt plain_stmt block if_stmt while_stmt do_stmt for_stmt return_stmt throw_stmt super_stmt try_stmt local_stmt
    node_or Stmt-F.Empty in_block xs rest may fit w = rw (rolls-Empty, w.1) (found refl)
    node_or (Stmt-F.Block all) in_block xs rest may fit w =
        rw (rolls-Block all, w.1.1) (or_then _ (body_or all w.0 rest w.2) (found refl))
    node_or (Stmt-F.Local t) in_block xs rest may fit w =
        rw (type_local facts n t.ty t.name xs w.1.0 w.1.2 w.1.1 w.1.3, may)
        (or_then _ (declaration_or facts n b t xs w.0 fit w.1 (semicolon_closes w.0 rest w.2))
        (or_then _ (op_or n b o.Semicolon w.0 rest w.2) (found refl)))
    node_or (Stmt-F.Super at given) in_block xs rest may fit w =
        rw (rolls-Super at given, w.1, w.3.1, sees_it o.LeftParen w.3.0 w.2)
        (or_then _ (op_or n b o.LeftParen _ w.2 (w.3.0, refl))
        (or_then _ (arguments_or given w.2 w.4 w.5) (or_then _ (op_or n b o.Semicolon w.4 rest w.6) (found refl))))
    node_or (Stmt-F.If c s other) in_block xs rest may fit w =
        rw (rolls-If c s other, w.1.1)
        (or_then _ (condition_or c w.0 w.2 w.3) (or_then _ (ih false s w.2 w.4 w.5) (or_then _ (otherwise_or other w.4 rest w.6) (found refl))))
    node_or (Stmt-F.While c s) in_block xs rest may fit w =
        rw (rolls-While c s, w.1.1) (or_then _ (condition_or c w.0 w.2 w.3) (or_then _ (ih false s w.2 rest w.4) (found refl)))
    node_or (Stmt-F.DoWhile s c) in_block xs rest may fit w =
        rw (rolls-DoWhile s c, w.1.1)
        (or_then _ (ih false s w.0 w.2 w.3) (or_then _ (word_or n b word.While w.2 w.4 w.5)
        (or_then _ (condition_or c w.4 w.6 w.7) (or_then _ (op_or n b o.Semicolon w.6 rest w.8) (found refl)))))
    node_or (Stmt-F.For first c update s) in_block xs rest may fit w =
        rw (rolls-For first c update s, w.1.1)
        (or_then _ (op_or n b o.LeftParen w.0 w.2 w.3) (or_then _ (start_or first w.2 w.4 w.5) (or_then _ (ended_or c w.4 w.6 w.7)
        (or_then _ (simples_or o.RightParen paren_closes paren_no_comma refl refl update w.6 w.8 w.9)
        (or_then _ (ih false s w.8 rest w.10) (found refl))))))
    node_or (Stmt-F.Return at e) in_block xs rest may fit w = rw (rolls-Return at e, w.1) (or_then _ (ended_or e w.0 rest w.2) (found refl))
    node_or (Stmt-F.Break at) in_block xs rest may fit w = rw (rolls-Break at, w.1) (or_then _ (op_or n b o.Semicolon w.0 rest w.2) (found refl))
    node_or (Stmt-F.Continue at) in_block xs rest may fit w = rw (rolls-Continue at, w.1) (or_then _ (op_or n b o.Semicolon w.0 rest w.2) (found refl))
    node_or (Stmt-F.Throw e) in_block xs rest may fit w =
        rw (rolls-Throw e, w.1.1) (or_then _ (value_or facts n b e 1 w.0 w.2 w.3 (rw w.4.1 refl))
        (or_then _ (op_or n b o.Semicolon w.2 rest w.4) (found refl)))
    node_or (Stmt-F.Try body clauses last) in_block xs rest may fit w =
        rw (rolls-Try body clauses last, w.1.1)
        (or_then _ (inner_or body w.0 w.2 w.3)
        (or_then _ (catches_or clauses (length w.2) [] w.2 w.4 (omega (arith, catches_length facts n (stmt_length facts n) clauses w.2 w.4 w.5)) w.5)
        (or_then _ (finally_or last w.4 rest w.6) (found (rw w.7 refl)))))
    node_or f in_block xs rest may fit w = plain_or f in_block xs rest refl w

-- A statement that is written is found, or it is higher than the budget.
pub stmt_found : ExprFacts → ArgsFacts → (n b : ℕ) (in_block : Bool) (t : Stmt) (xs rest : List Lexeme) → StmtWithin n in_block t xs rest
    → Or n b (statement b in_block xs) (Ok (t, rest))
unfolding StmtWithin statement
stmt_found facts args_facts zero b in_block t xs rest w = absurd w
stmt_found facts args_facts (suc n) zero in_block t xs rest w =
    none_or n xs (Ok (t, rest)) (omega (arith, stmt_length facts (suc n) in_block t xs rest w))
stmt_found facts args_facts (suc n) (suc b) in_block t xs rest w =
    raise (subst (λ (d : Stmt). Or n b (stmt b (value b) (arguments b) (unended b) (statement b) in_block xs) (Ok (d, rest))) (roll-out-Stmt t)
    (node_or facts args_facts n b (stmt_found facts args_facts n b) (out-Stmt t) in_block xs rest w.0 w.2 w.1))
