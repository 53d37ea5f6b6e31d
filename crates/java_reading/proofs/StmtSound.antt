-- Statements that are read are written.
use Rattle.std.proofs.Math.Logic.{inl, inr}
use Rattle.std.proofs.Common.{◌≡◌, ℕ, zero, suc, ◌≤◌, List, [], ◌∷◌, ◌++◌, length, Bool, true, false, Some, None, refl, sym, ◌∙◌, ap, subst, arith, append_assoc}
use Rattle.std.proofs.lemmas.List.{append-nil}
use Rattle.java_tokens.specs.declared.token.Keyword.{Keyword}
use Rattle.java_tokens.specs.declared.token.Keyword.TheVariants as word
use Rattle.java_tokens.specs.declared.token.Operator.{Operator}
use Rattle.java_tokens.specs.declared.token.Operator.TheVariants as o
use Rattle.java_tokens.specs.declared.token.TokenKind.{TokenKind}
use Rattle.java_tokens.specs.declared.token.TokenKind.TheVariants as k
use Rattle.token_reading.specs.declared.name.Ident.{Ident}
use Rattle.java_syntax.specs.declared.statement.CatchTree.{CatchTree, CatchTree-F}
use Rattle.java_syntax.specs.declared.statement.Stmt.{Stmt, out-Stmt}
use Rattle.java_syntax.specs.declared.statement.Stmt.TheOpen.{Stmt-F}
use Rattle.java_syntax.specs.declared.statement.Stmt.TheVariants.{outs-Empty, outs-Block, outs-Super, outs-If, outs-While, outs-DoWhile, outs-For, outs-Return, outs-Break, outs-Continue, outs-Throw, outs-Try}
use Rattle.java_syntax.specs.declared.statement.Stmt.TheViews.{out-roll-CatchTree}
use Rattle.token_reading.specs.Lexeme.{Lexeme, lexeme, Then, sees, sees_word, same_operator}
use Rattle.token_reading.specs.Types.{IsIdent}
use Rattle.java_syntax.specs.Exprs.{Within}
use Rattle.java_syntax.specs.Stmts.{StmtLayer, is_declaration, is_block, handles, MayStand, Unended, local_type_height, UnendedWithin, Simple, MoreSimples, Simples, Start, Stmts, Condition, Ended, Otherwise, IsBlock, Catch, Catches, Finally, StmtNode, StmtWithin}
use Rattle.token_reading.specs.ReadType.{next}
use Rattle.java_reading.specs.ReadStmt.{value, arguments, catch_clause, unended, stmts, block, inner_block, condition, ended, otherwise, if_stmt, while_stmt, do_stmt, more_simples, simples, start, for_stmt, return_stmt, throw_stmt, super_stmt, catch, catches, finally, try_stmt, local_stmt, simple_stmt, word_stmt, stmt_by, plain_stmt, stmt, statement}
use Rattle.java_reading.proofs.ArgsFacts.{ArgsFacts}
use Rattle.java_reading.proofs.ExprFacts.{ExprFacts}
use Rattle.java_reading.proofs.SimpleSound.{value_gives, arguments_gives, declaration_gives, simple_gives, unended_gives}
use Rattle.java_reading.proofs.StmtBegins.{unended_other}
use Rattle.token_reading.proofs.Steps.{gives, gives_none, gives_then, gives_map, gives_if}
use Rattle.token_reading.proofs.Lexemes.{then_length, from_sees, from_sees_word}
use Rattle.java_reading.specs.Lookahead.{is_local}
use Rattle.token_reading.proofs.Given.{Takes, MayTake, op_gives, word_gives, ident_gives, none_gives}

-- what is known of the statements that are lower than the whole
abbrev Gets : ℕ → Type 0
Gets n = (in_block : Bool) (xs : List Lexeme) → Takes (StmtWithin n in_block) xs (n ≤ length xs) (statement n in_block xs)

module _ (facts : ExprFacts) (args_facts : ArgsFacts) (n : ℕ) where
  condition_gives : (xs : List Lexeme) → Takes (Condition (Within n) (UnendedWithin n) (StmtWithin n)) xs (n ≤ length xs)
      (condition (value n) (arguments n) (unended n) (statement n) xs)
  unfolding condition
  condition_gives xs =
      gives_then (op_gives o.LeftParen xs) (λ h. absurd h) (λ _ ys t.
      gives_then (value_gives facts n ys) (λ h. omega (arith, t.1)) (λ e zs w.
      gives_then (op_gives o.RightParen zs) (λ h. absurd h) (λ _ us u. gives e us ((ys, t.0, zs, w.0, u.0), omega (arith, t.1, w.1, u.1)))))

  ended_gives : (xs : List Lexeme) → Takes (Ended (Within n) (UnendedWithin n) (StmtWithin n)) xs (n ≤ length xs)
      (ended (value n) (arguments n) (unended n) (statement n) xs)
  unfolding ended
  ended_gives xs =
      gives_if (sees o.Semicolon xs)
      (λ h. let t = from_sees o.Semicolon xs h in gives None (next xs) (t, omega (arith, then_length _ xs (next xs) t)))
      (λ h. gives_then (value_gives facts n xs) (λ h. omega arith) (λ e ys w.
      gives_then (op_gives o.Semicolon ys) (λ h. absurd h) (λ _ zs t. gives (Some e) zs ((ys, w.0, t.0), omega (arith, w.1, t.1)))))

  -- ---- the header of a `for`

  abbrev SimplesFrom : Operator → List Stmt → List Stmt → List Lexeme → List Lexeme → Type 0
  SimplesFrom close done all xs rest =
      (a : Stmt) × (more : List Stmt) × (all ≡ done ++ a ∷ more) × (ys : List Lexeme) × Simple (UnendedWithin n) a xs ys
      × MoreSimples (UnendedWithin n) close more ys rest

  more_simples_gives : (close : Operator) (fuel : ℕ) (done : List Stmt) (xs : List Lexeme) → Takes (SimplesFrom close done) xs (n ≤ length xs)
      (more_simples (value n) (arguments n) (unended n) (statement n) close fuel done xs)
  unfolding more_simples
  more_simples_gives close zero done xs = gives_none
  more_simples_gives close (suc fuel) done xs =
      gives_then (unended_gives facts n false xs) (λ h. h) (λ a ys w. gives_if (sees o.Comma ys)
      (λ h. let t = from_sees o.Comma ys h in
      gives_map (λ all us v. (
        (a, v.0.0 ∷ v.0.1, v.0.2 ∙ append_assoc done (a ∷ []) (v.0.0 ∷ v.0.1), ys, w.0, (next ys, t, v.0.3, v.0.4, v.0.5)),
        omega (arith, w.1, v.1, then_length _ ys (next ys) t),
      ))
      (λ h. omega (arith, w.1, then_length _ ys (next ys) t))
      (more_simples_gives close fuel (done ++ a ∷ []) (next ys)))
      (λ h. gives_then (op_gives close ys) (λ h. absurd h) (λ _ zs t. gives (done ++ a ∷ []) zs (
        (a, [], refl, ys, w.0, t.0),
        omega (arith, w.1, t.1),
      ))))

  simples_gives : (close : Operator) (xs : List Lexeme) → Takes (Simples (UnendedWithin n) close) xs (n ≤ length xs)
      (simples (value n) (arguments n) (unended n) (statement n) close xs)
  unfolding simples
  simples_gives close xs =
      gives_if (sees close xs)
      (λ h. let t = from_sees close xs h in gives [] (next xs) (t, omega (arith, then_length _ xs (next xs) t)))
      (λ h. gives_map (λ all us v. (subst (λ (l : List Stmt). Simples (UnendedWithin n) close l xs us) (sym v.0.2) (v.0.3, v.0.4, v.0.5), v.1))
      (λ h. h) (more_simples_gives close (length xs) [] xs))

  start_gives : (xs : List Lexeme) → Takes (Start (UnendedWithin n)) xs (n ≤ length xs) (start (value n) (arguments n) (unended n) (statement n) xs)
  unfolding start
  start_gives xs =
      gives_if (is_local xs)
      (λ h. gives_then (unended_gives facts n true xs) (λ h. h) (λ a ys w.
      gives_then (op_gives o.Semicolon ys) (λ h. absurd h) (λ _ zs t. gives (a ∷ []) zs (inl (w.0.0, ys, w.0.1, t.0), omega (arith, w.1, t.1)))))
      (λ h. gives_map (λ all us v. (inr v.0, v.1)) (λ h. h) (simples_gives o.Semicolon xs))

  -- ---- a block among the parts

  brace_block_by : (f : StmtLayer) (xs rest : List Lexeme) (m : ℕ) → StmtNode (Within m) (UnendedWithin m) (StmtWithin m) f xs rest
      → sees o.LeftBrace xs ≡ true
      → is_block f ≡ true
  unfolding same_operator
  brace_block_by Stmt-F.Empty xs rest m w h = let other : false ≡ true = rw w.1 at h in absurd (cc)
  brace_block_by (Stmt-F.Block all) xs rest m w h = refl
  brace_block_by (Stmt-F.Super at given) xs rest m w h = let other : false ≡ true = rw w.1 at h in absurd (cc)
  brace_block_by (Stmt-F.If c s other) xs rest m w h = let other : false ≡ true = rw w.1.1 at h in absurd (cc)
  brace_block_by (Stmt-F.While c s) xs rest m w h = let other : false ≡ true = rw w.1.1 at h in absurd (cc)
  brace_block_by (Stmt-F.DoWhile s c) xs rest m w h = let other : false ≡ true = rw w.1.1 at h in absurd (cc)
  brace_block_by (Stmt-F.For first c update s) xs rest m w h = let other : false ≡ true = rw w.1.1 at h in absurd (cc)
  brace_block_by (Stmt-F.Return at e) xs rest m w h = let other : false ≡ true = rw w.1 at h in absurd (cc)
  brace_block_by (Stmt-F.Break at) xs rest m w h = let other : false ≡ true = rw w.1 at h in absurd (cc)
  brace_block_by (Stmt-F.Continue at) xs rest m w h = let other : false ≡ true = rw w.1 at h in absurd (cc)
  brace_block_by (Stmt-F.Throw e) xs rest m w h = let other : false ≡ true = rw w.1.1 at h in absurd (cc)
  brace_block_by (Stmt-F.Try body clauses last) xs rest m w h = let other : false ≡ true = rw w.1.1 at h in absurd (cc)
  brace_block_by f xs rest m w h =
      let other : false ≡ true = sym (unended_other facts m o.LeftBrace refl refl f xs w.0 w.1) ∙ h in absurd (cc)

  brace_block : (m : ℕ) (in_block : Bool) (t : Stmt) (xs rest : List Lexeme) → StmtWithin m in_block t xs rest → sees o.LeftBrace xs ≡ true
      → is_block (out-Stmt t) ≡ true
  unfolding StmtWithin
  brace_block zero in_block t xs rest w h = absurd w
  brace_block (suc m) in_block t xs rest w h = brace_block_by (out-Stmt t) xs rest m w.1 h

  module _ (ih : Gets n) where
    otherwise_gives : (xs : List Lexeme) → MayTake (Otherwise (Within n) (UnendedWithin n) (StmtWithin n)) xs (n ≤ length xs)
        (otherwise (value n) (arguments n) (unended n) (statement n) xs)
    unfolding otherwise
    otherwise_gives xs =
        gives_if (sees_word word.Else xs)
        (λ h. let t = from_sees_word word.Else xs h in
        gives_then (ih false (next xs)) (λ h. omega (arith, then_length _ xs (next xs) t)) (λ s ys w.
        gives (Some s) ys ((next xs, t, w.0), omega (arith, w.1, then_length _ xs (next xs) t))))
        (λ h. gives None xs ((refl, h), omega arith))

    abbrev StmtsFrom : List Stmt → List Stmt → List Lexeme → List Lexeme → Type 0
    StmtsFrom done all xs rest = (more : List Stmt) × (all ≡ done ++ more) × Stmts (Within n) (UnendedWithin n) (StmtWithin n) more xs rest

    stmts_gives : (fuel : ℕ) (done : List Stmt) (xs : List Lexeme) → Takes (StmtsFrom done) xs (n ≤ length xs)
        (stmts (value n) (arguments n) (unended n) (statement n) fuel done xs)
    unfolding stmts
    stmts_gives zero done xs = gives_none
    stmts_gives (suc fuel) done xs =
        gives_if (sees o.RightBrace xs)
        (λ h. let t = from_sees o.RightBrace xs h in gives done (next xs) (
          ([], sym (append-nil done), t),
          omega (arith, then_length _ xs (next xs) t),
        ))
        (λ h. gives_then (ih true xs) (λ h. h) (λ a ys w.
        gives_map (λ all us v. ((a ∷ v.0.0, v.0.1 ∙ append_assoc done (a ∷ []) v.0.0, (ys, w.0, v.0.2)), omega (arith, w.1, v.1)))
        (λ h. omega (arith, w.1)) (stmts_gives fuel (done ++ a ∷ []) ys)))

    pub body_gives : (xs : List Lexeme) → Takes (Stmts (Within n) (UnendedWithin n) (StmtWithin n)) xs (n ≤ length xs)
        (stmts (value n) (arguments n) (unended n) (statement n) (length xs) [] xs)
    body_gives xs =
        gives_map (λ all us v. (subst (λ (l : List Stmt). Stmts (Within n) (UnendedWithin n) (StmtWithin n) l xs us) (sym v.0.1) v.0.2, v.1))
        (λ h. h) (stmts_gives (length xs) [] xs)

    inner_gives : (xs : List Lexeme) → Takes (IsBlock (Within n) (UnendedWithin n) (StmtWithin n)) xs (n ≤ length xs)
        (inner_block (value n) (arguments n) (unended n) (statement n) xs)
    unfolding inner_block
    inner_gives xs =
        gives_if (sees o.LeftBrace xs) (λ h. gives_map (λ t ys w. ((brace_block n false t xs ys w.0 h, w.0), w.1)) (λ h. h) (ih false xs))
        (λ h. gives_none)

    abbrev Caught : CatchTree-F Stmt CatchTree → List Lexeme → List Lexeme → Type 0
    Caught c xs rest =
        (ys : List Lexeme) × Then (k.Word word.Catch) xs ys × (zs : List Lexeme) × Then (k.Op o.LeftParen) ys zs
        × (us : List Lexeme) × IsIdent c.class zs us × (vs : List Lexeme) × IsIdent c.name us vs
        × (ws : List Lexeme) × Then (k.Op o.RightParen) vs ws × IsBlock (Within n) (UnendedWithin n) (StmtWithin n) c.body ws rest

    caught : (class name : Ident) (body : Stmt) (xs rest : List Lexeme) → Caught (record { class = class; name = name; body = body }) xs rest
        → Catch (Within n) (UnendedWithin n) (StmtWithin n) (catch_clause class name body) xs rest
    caught class name body xs rest w =
        subst (λ (c : CatchTree-F Stmt CatchTree). Caught c xs rest) (sym (out-roll-CatchTree (record { class = class; name = name; body = body }))) w

    catch_gives : (xs ys : List Lexeme) → Then (k.Word word.Catch) xs ys
        → Takes (Catch (Within n) (UnendedWithin n) (StmtWithin n)) xs (n ≤ length xs)
        (catch (value n) (arguments n) (unended n) (statement n) ys)
    unfolding catch
    catch_gives xs ys t =
        gives_then (op_gives o.LeftParen ys) (λ h. absurd h) (λ _ zs u. gives_then (ident_gives zs) (λ h. absurd h) (λ class us x.
        gives_then (ident_gives us) (λ h. absurd h) (λ name vs y. gives_then (op_gives o.RightParen vs) (λ h. absurd h) (λ _ ws v.
        gives_then (inner_gives ws) (λ h. omega (arith, then_length _ xs ys t, u.1, x.1, y.1, v.1)) (λ body ts w.
        gives (catch_clause class name body) ts (
          caught class name body xs ts (ys, t, zs, u.0, us, x.0, vs, y.0, ws, v.0, w.0),
          omega (arith, then_length _ xs ys t, u.1, x.1, y.1, v.1, w.1),
        ))))))

    catches_gives : (fuel : ℕ) (done : List CatchTree) (xs : List Lexeme)
        → MayTake (λ all xs rest. (more : List CatchTree) × (all ≡ done ++ more)
        × Catches (Within n) (UnendedWithin n) (StmtWithin n) more xs rest) xs (n ≤ length xs)
        (catches (value n) (arguments n) (unended n) (statement n) fuel done xs)
    unfolding catches
    catches_gives zero done xs =
        gives_if (sees_word word.Catch xs) (λ h. gives_none) (λ h. gives done xs (([], sym (append-nil done), (refl, h)), omega arith))
    catches_gives (suc fuel) done xs =
        gives_if (sees_word word.Catch xs)
        (λ h. gives_then (catch_gives xs (next xs) (from_sees_word word.Catch xs h)) (λ h. h) (λ c ys w.
        gives_map (λ all us v. ((c ∷ v.0.0, v.0.1 ∙ append_assoc done (c ∷ []) v.0.0, (ys, w.0, v.0.2)), omega (arith, w.1, v.1)))
        (λ h. omega (arith, w.1)) (catches_gives fuel (done ++ c ∷ []) ys)))
        (λ h. gives done xs (([], sym (append-nil done), (refl, h)), omega arith))

    all_catches_gives : (xs : List Lexeme) → MayTake (Catches (Within n) (UnendedWithin n) (StmtWithin n)) xs (n ≤ length xs)
        (catches (value n) (arguments n) (unended n) (statement n) (length xs) [] xs)
    all_catches_gives xs =
        gives_map (λ all us v. (subst (λ (l : List CatchTree). Catches (Within n) (UnendedWithin n) (StmtWithin n) l xs us) (sym v.0.1) v.0.2, v.1))
        (λ h. h) (catches_gives (length xs) [] xs)

    finally_gives : (xs : List Lexeme) → MayTake (Finally (Within n) (UnendedWithin n) (StmtWithin n)) xs (n ≤ length xs)
        (finally (value n) (arguments n) (unended n) (statement n) xs)
    unfolding finally
    finally_gives xs =
        gives_if (sees_word word.Finally xs)
        (λ h. let t = from_sees_word word.Finally xs h in
        gives_then (inner_gives (next xs)) (λ h. omega (arith, then_length _ xs (next xs) t)) (λ s ys w.
        gives (Some s) ys ((next xs, t, w.0), omega (arith, w.1, then_length _ xs (next xs) t))))
        (λ h. gives None xs ((refl, h), omega arith))

    -- ---- one production each

    -- one level more
    abbrev pub Whole : Bool → Stmt → List Lexeme → List Lexeme → Type 0
    Whole in_block t xs ys =
        MayStand in_block (out-Stmt t) × StmtNode (Within n) (UnendedWithin n) (StmtWithin n) (out-Stmt t) xs ys
        × (local_type_height (out-Stmt t) ≤ n)

    ended_node : (f : StmtLayer) (xs ys rest : List Lexeme) → Unended (Within n) f xs ys → Then (k.Op o.Semicolon) ys rest
        → StmtNode (Within n) (UnendedWithin n) (StmtWithin n) f xs rest
    ended_node (Stmt-F.Local t) xs ys rest w t' = (ys, w, t')
    ended_node (Stmt-F.Assign a op e) xs ys rest w t = (ys, w, t)
    ended_node (Stmt-F.Step op side a) xs ys rest w t = (ys, w, t)
    ended_node (Stmt-F.Eval e) xs ys rest w t = (ys, w, t)
    ended_node _ xs ys rest w t = absurd w

    may_stand : (d in_block : Bool) (f : StmtLayer) → is_declaration f ≡ d → (d ≡ true → in_block ≡ true) → MayStand in_block f
    may_stand d in_block (Stmt-F.Local t) is may = may (sym is)
    may_stand d in_block _ is may = tt

    local_gives : (xs : List Lexeme) → Takes (Whole true) xs (suc n ≤ length xs) (local_stmt n (value n) (arguments n) (unended n) (statement n) xs)
    unfolding local_stmt
    local_gives xs =
        gives_then (declaration_gives facts n xs) (λ h. omega arith) (λ t ys w. gives_then (op_gives o.Semicolon ys) (λ h. absurd h) (λ _ zs u.
        gives t zs ((may_stand true true (out-Stmt t) w.0.0 (λ h. h), ended_node (out-Stmt t) xs ys zs w.0.1 u.0, w.0.2), omega (arith, w.1, u.1))))

    simple_stmt_gives : (in_block : Bool) (xs : List Lexeme)
        → Takes (Whole in_block) xs (suc n ≤ length xs) (simple_stmt (value n) (arguments n) (unended n) (statement n) xs)
    unfolding simple_stmt
    simple_stmt_gives in_block xs =
        gives_then (simple_gives facts n xs) (λ h. omega arith) (λ t ys w. gives_then (op_gives o.Semicolon ys) (λ h. absurd h) (λ _ zs u.
        gives t zs (
          (may_stand false in_block (out-Stmt t) w.0.0 (λ h. absurd (cc)), ended_node (out-Stmt t) xs ys zs w.0.1 u.0, w.0.2),
          omega (arith, w.1, u.1),
        )))

    if_gives : (in_block : Bool) (xs ys : List Lexeme) → Then (k.Word word.If) xs ys → Takes (Whole in_block) xs (suc n ≤ length xs)
        (if_stmt (value n) (arguments n) (unended n) (statement n) ys)
    unfolding if_stmt
    if_gives in_block xs ys t =
        gives_then (condition_gives ys) (λ h. omega (arith, then_length _ xs ys t)) (λ c zs w.
        gives_then (ih false zs) (λ h. omega (arith, then_length _ xs ys t, w.1)) (λ s us v.
        gives_then (otherwise_gives us) (λ h. omega (arith, then_length _ xs ys t, w.1, v.1)) (λ other vs u.
        gives _ vs (rw (outs-If c s other) (tt, (ys, t, zs, w.0, us, v.0, u.0), omega arith), omega (arith, then_length _ xs ys t, w.1, v.1, u.1)))))

    while_gives : (in_block : Bool) (xs ys : List Lexeme) → Then (k.Word word.While) xs ys → Takes (Whole in_block) xs (suc n ≤ length xs)
        (while_stmt (value n) (arguments n) (unended n) (statement n) ys)
    unfolding while_stmt
    while_gives in_block xs ys t =
        gives_then (condition_gives ys) (λ h. omega (arith, then_length _ xs ys t)) (λ c zs w.
        gives_then (ih false zs) (λ h. omega (arith, then_length _ xs ys t, w.1)) (λ s us v.
        gives _ us (rw (outs-While c s) (tt, (ys, t, zs, w.0, v.0), omega arith), omega (arith, then_length _ xs ys t, w.1, v.1))))

    do_gives : (in_block : Bool) (xs ys : List Lexeme) → Then (k.Word word.Do) xs ys → Takes (Whole in_block) xs (suc n ≤ length xs)
        (do_stmt (value n) (arguments n) (unended n) (statement n) ys)
    unfolding do_stmt
    do_gives in_block xs ys t =
        gives_then (ih false ys) (λ h. omega (arith, then_length _ xs ys t)) (λ s zs w.
        gives_then (word_gives word.While zs) (λ h. absurd h) (λ _ us v.
        gives_then (condition_gives us) (λ h. omega (arith, then_length _ xs ys t, w.1, v.1)) (λ c vs u.
        gives_then (op_gives o.Semicolon vs) (λ h. absurd h) (λ _ ws x.
        gives _ ws (rw (outs-DoWhile s c) (tt, (ys, t, zs, w.0, us, v.0, vs, u.0, x.0), omega arith), omega (arith, then_length _ xs ys t, w.1, v.1, u.1, x.1))))))

    for_gives : (in_block : Bool) (xs ys : List Lexeme) → Then (k.Word word.For) xs ys → Takes (Whole in_block) xs (suc n ≤ length xs)
        (for_stmt (value n) (arguments n) (unended n) (statement n) ys)
    unfolding for_stmt
    for_gives in_block xs ys t =
        gives_then (op_gives o.LeftParen ys) (λ h. absurd h) (λ _ zs p.
        gives_then (start_gives zs) (λ h. omega (arith, then_length _ xs ys t, p.1)) (λ first us w.
        gives_then (ended_gives us) (λ h. omega (arith, then_length _ xs ys t, p.1, w.1)) (λ c vs v.
        gives_then (simples_gives o.RightParen vs) (λ h. omega (arith, then_length _ xs ys t, p.1, w.1, v.1)) (λ update ws u.
        gives_then (ih false ws) (λ h. omega (arith, then_length _ xs ys t, p.1, w.1, v.1, u.1)) (λ s ts x.
        gives _ ts (
          rw (outs-For first c update s) (tt, (ys, t, zs, p.0, us, w.0, vs, v.0, ws, u.0, x.0), omega arith),
          omega (arith, then_length _ xs ys t, p.1, w.1, v.1, u.1, x.1),
        ))))))

    return_gives : (in_block : Bool) (at : ℕ) (xs ys : List Lexeme) → xs ≡ lexeme at (k.Word word.Return) ∷ ys
        → Takes (Whole in_block) xs (suc n ≤ length xs)
        (return_stmt (value n) (arguments n) (unended n) (statement n) at ys)
    unfolding return_stmt
    return_gives in_block at xs ys is =
        gives_then (ended_gives ys) (λ h. omega (arith, ap length is)) (λ e zs w.
        gives _ zs (rw (outs-Return at e) (tt, (ys, is, w.0), omega arith), omega (arith, ap length is, w.1)))

    throw_gives : (in_block : Bool) (xs ys : List Lexeme) → Then (k.Word word.Throw) xs ys → Takes (Whole in_block) xs (suc n ≤ length xs)
        (throw_stmt (value n) (arguments n) (unended n) (statement n) ys)
    unfolding throw_stmt
    throw_gives in_block xs ys t =
        gives_then (value_gives facts n ys) (λ h. omega (arith, then_length _ xs ys t)) (λ e zs w.
        gives_then (op_gives o.Semicolon zs) (λ h. absurd h) (λ _ us v.
        gives _ us (rw (outs-Throw e) (tt, (ys, t, zs, w.0, v.0), omega arith), omega (arith, then_length _ xs ys t, w.1, v.1))))

    super_gives : (in_block : Bool) (at : ℕ) (xs ys : List Lexeme) → xs ≡ lexeme at (k.Word word.Super) ∷ ys
        → Takes (Whole in_block) xs (suc n ≤ length xs)
        (super_stmt (value n) (arguments n) (unended n) (statement n) at ys)
    unfolding super_stmt
    super_gives in_block at xs ys is =
        gives_then (op_gives o.LeftParen ys) (λ h. absurd h) (λ _ zs t.
        gives_then (arguments_gives facts n args_facts zs) (λ h. omega (arith, ap length is, t.1)) (λ given us w.
        gives_then (op_gives o.Semicolon us) (λ h. absurd h) (λ _ vs v.
        gives _ vs (rw (outs-Super at given) (tt, (ys, is, zs, t.0, us, w.0, v.0), omega arith), omega (arith, ap length is, t.1, w.1, v.1)))))

    try_gives : (in_block : Bool) (xs ys : List Lexeme) → Then (k.Word word.Try) xs ys → Takes (Whole in_block) xs (suc n ≤ length xs)
        (try_stmt (value n) (arguments n) (unended n) (statement n) ys)
    unfolding try_stmt
    try_gives in_block xs ys t =
        gives_then (inner_gives ys) (λ h. omega (arith, then_length _ xs ys t)) (λ body zs w.
        gives_then (all_catches_gives zs) (λ h. omega (arith, then_length _ xs ys t, w.1)) (λ clauses us v.
        gives_then (finally_gives us) (λ h. omega (arith, then_length _ xs ys t, w.1, v.1)) (λ last vs u. gives_if (handles clauses last)
        (λ h. gives _ vs (
          rw (outs-Try body clauses last) (tt, (ys, t, zs, w.0, us, v.0, u.0, h), omega arith),
          omega (arith, then_length _ xs ys t, w.1, v.1, u.1),
        ))
        (λ h. gives_none))))

    block_gives : (in_block : Bool) (xs ys : List Lexeme) → Then (k.Op o.LeftBrace) xs ys → Takes (Whole in_block) xs (suc n ≤ length xs)
        (block (value n) (arguments n) (unended n) (statement n) ys)
    unfolding block
    block_gives in_block xs ys t =
        gives_then (body_gives ys) (λ h. omega (arith, then_length _ xs ys t)) (λ all zs w.
        gives _ zs (rw (outs-Block all) (tt, (ys, t, w.0), omega arith), omega (arith, then_length _ xs ys t, w.1)))

    -- ---- any of them

    word_gives_stmt : (in_block : Bool) (x : Lexeme) (xs : List Lexeme) (v : Keyword) → x.kind ≡ k.Word v
        → Takes (Whole in_block) (x ∷ xs) (suc n ≤ length (x ∷ xs))
        (word_stmt (value n) (arguments n) (unended n) (statement n) v x.at (x ∷ xs) xs)
    word_gives_stmt in_block x xs word.If is = if_gives in_block (x ∷ xs) xs (x.at, ap (λ kd. lexeme x.at kd ∷ xs) is)
    word_gives_stmt in_block x xs word.While is = while_gives in_block (x ∷ xs) xs (x.at, ap (λ kd. lexeme x.at kd ∷ xs) is)
    word_gives_stmt in_block x xs word.Do is = do_gives in_block (x ∷ xs) xs (x.at, ap (λ kd. lexeme x.at kd ∷ xs) is)
    word_gives_stmt in_block x xs word.For is = for_gives in_block (x ∷ xs) xs (x.at, ap (λ kd. lexeme x.at kd ∷ xs) is)
    word_gives_stmt in_block x xs word.Return is = return_gives in_block x.at (x ∷ xs) xs (ap (λ kd. lexeme x.at kd ∷ xs) is)
    word_gives_stmt in_block x xs word.Break is =
        gives_then (op_gives o.Semicolon xs) (λ h. absurd h) (λ _ ys t.
        gives _ ys (rw (outs-Break x.at) (tt, (xs, ap (λ kd. lexeme x.at kd ∷ xs) is, t.0), omega arith), omega (arith, t.1)))
    word_gives_stmt in_block x xs word.Continue is =
        gives_then (op_gives o.Semicolon xs) (λ h. absurd h) (λ _ ys t.
        gives _ ys (rw (outs-Continue x.at) (tt, (xs, ap (λ kd. lexeme x.at kd ∷ xs) is, t.0), omega arith), omega (arith, t.1)))
    word_gives_stmt in_block x xs word.Throw is = throw_gives in_block (x ∷ xs) xs (x.at, ap (λ kd. lexeme x.at kd ∷ xs) is)
    word_gives_stmt in_block x xs word.Try is = try_gives in_block (x ∷ xs) xs (x.at, ap (λ kd. lexeme x.at kd ∷ xs) is)
    word_gives_stmt in_block x xs word.Super is =
        gives_if (sees o.LeftParen xs) (λ h. super_gives in_block x.at (x ∷ xs) xs (ap (λ kd. lexeme x.at kd ∷ xs) is))
        (λ h. simple_stmt_gives in_block (x ∷ xs))
    word_gives_stmt in_block x xs _ is = simple_stmt_gives in_block (x ∷ xs)

    kind_gives : (in_block : Bool) (x : Lexeme) (xs : List Lexeme) (kd : TokenKind) → x.kind ≡ kd
        → Takes (Whole in_block) (x ∷ xs) (suc n ≤ length (x ∷ xs))
        (stmt_by (value n) (arguments n) (unended n) (statement n) kd x.at (x ∷ xs) xs)
    kind_gives in_block x xs (k.Word v) is = word_gives_stmt in_block x xs v is
    kind_gives in_block x xs (k.Op o.LeftBrace) is = block_gives in_block (x ∷ xs) xs (x.at, ap (λ kd. lexeme x.at kd ∷ xs) is)
    kind_gives in_block x xs (k.Op o.Semicolon) is =
        gives _ xs (rw outs-Empty (tt, (x.at, ap (λ kd. lexeme x.at kd ∷ xs) is), omega arith), omega arith)
    kind_gives in_block x xs _ is = simple_stmt_gives in_block (x ∷ xs)

    plain_gives : (in_block : Bool) (xs : List Lexeme)
        → Takes (Whole in_block) xs (suc n ≤ length xs) (plain_stmt (value n) (arguments n) (unended n) (statement n) xs)
    unfolding plain_stmt
    plain_gives in_block [] = gives_none
    plain_gives in_block (x ∷ xs) = kind_gives in_block x xs x.kind refl

    stmt_gives : (in_block : Bool) (xs : List Lexeme)
        → Takes (Whole in_block) xs (suc n ≤ length xs) (stmt n (value n) (arguments n) (unended n) (statement n) in_block xs)
    unfolding stmt
    stmt_gives true xs = gives_if (is_local xs) (λ h. local_gives xs) (λ h. plain_gives true xs)
    stmt_gives false xs = gives_if (is_local xs) (λ h. gives_none) (λ h. plain_gives false xs)

-- A statement that is read is written; with a budget that is too small there are as many tokens at least.
pub stmt_sound : ExprFacts → ArgsFacts → (n : ℕ) → Gets n
unfolding statement StmtWithin
stmt_sound facts args_facts zero in_block xs = gives_map (λ t ys w. w) (λ h. omega arith) (none_gives xs)
stmt_sound facts args_facts (suc n) in_block xs = stmt_gives facts args_facts n (stmt_sound facts args_facts n) in_block xs
