-- What a statement takes, and its first token.
use Rattle.std.proofs.Math.Logic.{inl, inr}
use Rattle.std.proofs.Common.{◌≡◌, ℕ, zero, suc, ◌+◌, ◌≤◌, ◌<◌, List, [], ◌∷◌, length, Bool, true, false, Option, Some, None, Ok, refl, ap, subst, arith}
use Rattle.java_tokens.specs.declared.token.Operator.{Operator}
use Rattle.java_tokens.specs.declared.token.Operator.TheVariants as o
use Rattle.java_syntax.specs.declared.expression.Expr.{Expr}
use Rattle.java_syntax.specs.declared.statement.CatchTree.{CatchTree, out-CatchTree}
use Rattle.java_syntax.specs.declared.statement.Stmt.{Stmt, out-Stmt, roll-Stmt}
use Rattle.java_syntax.specs.declared.statement.Stmt.TheOpen.{Stmt-F}
use Rattle.java_syntax.specs.declared.statement.Stmt.TheViews.{roll-out-Stmt}
use Rattle.token_reading.specs.Lexeme.{Lexeme, sees, same_operator}
use Rattle.java_syntax.specs.Exprs.{Within}
use Rattle.java_syntax.specs.Stmts.{StmtLayer, is_declaration, is_block, Unended, local_type_height, UnendedWithin, Simple, Simples, Declares, Start, Stmts, Condition, Ended, Otherwise, Catch, Catches, Finally, StmtNode, StmtWithin}
use Rattle.java_reading.specs.ReadStmt.{step_operator, unended}
use Rattle.java_reading.proofs.Begins.{begins_operator}
use Rattle.java_reading.proofs.ExprFacts.{ExprFacts}
use Rattle.java_reading.proofs.Shorter.{args_length}
use Rattle.java_reading.proofs.SimpleFound.{Closes, declaration_or, simple_or}
use Rattle.java_reading.proofs.StmtBegins.{unended_length, more_simples_length, unended_other, type_local, simple_local}
use Rattle.token_reading.proofs.Steps.{Or, raise}
use Rattle.token_reading.proofs.Lexemes.{then_length, sees_it}
use Rattle.java_reading.specs.Lookahead.{is_local}
use Rattle.token_reading.proofs.Found.{none_or}

module _ (facts : ExprFacts) where
  -- ---- in the header of a `for`

  pub header_length : (n : ℕ) (s : Stmt) (xs rest : List Lexeme) → UnendedWithin n s xs rest → length rest < length xs
  unfolding UnendedWithin
  header_length zero s xs rest w = absurd w
  header_length (suc n) s xs rest w = unended_length (Within n) (facts.shorter n) (out-Stmt s) xs rest w.0

  pub header_other : (n : ℕ) (sign : Operator) → begins_operator sign ≡ false → step_operator sign ≡ None → (s : Stmt) (xs rest : List Lexeme)
      → UnendedWithin n s xs rest → sees sign xs ≡ false
  unfolding UnendedWithin
  header_other zero sign no_ none s xs rest w = absurd w
  header_other (suc n) sign no_ none s xs rest w = unended_other facts n sign no_ none (out-Stmt s) xs rest w.0

  declares_local_by : (n : ℕ) (f : StmtLayer) (xs rest : List Lexeme) → is_declaration f ≡ true → Unended (Within n) f xs rest → is_local xs ≡ true
  declares_local_by n (Stmt-F.Local t) xs rest is w = type_local facts n t.ty t.name xs w.0 w.2 w.1 w.3
  declares_local_by n _ xs rest is w = absurd (cc)

  pub declares_local : (n : ℕ) (s : Stmt) (xs rest : List Lexeme) → is_declaration (out-Stmt s) ≡ true → UnendedWithin n s xs rest
      → is_local xs ≡ true
  unfolding UnendedWithin
  declares_local zero s xs rest is w = absurd w
  declares_local (suc n) s xs rest is w = declares_local_by n (out-Stmt s) xs rest is w.0

  pub header_simple_local : (n : ℕ) (s : Stmt) (xs rest : List Lexeme) → Simple (UnendedWithin n) s xs rest → Closes rest → is_local xs ≡ false
  unfolding UnendedWithin
  header_simple_local zero s xs rest w c = absurd w.1
  header_simple_local (suc n) s xs rest w c = simple_local facts n (out-Stmt s) xs rest w.0 w.1.0 c

  header_by : (n b : ℕ) (d : Bool) (f : StmtLayer) (xs rest : List Lexeme) → is_declaration f ≡ d → local_type_height f ≤ n
      → Unended (Within n) f xs rest → Closes rest
      → Or n b (unended (suc b) d xs) (Ok (roll-Stmt f, rest))
  unfolding unended
  header_by n b true (Stmt-F.Local t) xs rest is fit w c = declaration_or facts n b t xs rest fit w c
  header_by n b true _ xs rest is fit w c = absurd (cc)
  header_by n b false f xs rest is fit w c = simple_or facts n b f xs rest is w c

  pub header_or : (n b : ℕ) (d : Bool) (s : Stmt) (xs rest : List Lexeme) → is_declaration (out-Stmt s) ≡ d → UnendedWithin n s xs rest → Closes rest
      → Or n b (unended b d xs) (Ok (s, rest))
  unfolding UnendedWithin unended
  header_or zero b d s xs rest is w c = absurd w
  header_or (suc n) zero d s xs rest is w c =
      none_or n xs (Ok (s, rest)) (omega (arith, unended_length (Within n) (facts.shorter n) (out-Stmt s) xs rest w.0))
  header_or (suc n) (suc b) d s xs rest is w c =
      subst (λ (t : Stmt). Or (suc n) (suc b) (unended (suc b) d xs) (Ok (t, rest))) (roll-out-Stmt s)
      (raise (header_by n b d (out-Stmt s) xs rest is w.1 w.0 c))

  -- ---- lengths

  module _ (n : ℕ) (shorter : (in_block : Bool) (t : Stmt) (xs rest : List Lexeme) → StmtWithin n in_block t xs rest → length rest < length xs) where
    pub stmts_length : (all : List Stmt) (xs rest : List Lexeme) → Stmts (Within n) (UnendedWithin n) (StmtWithin n) all xs rest
        → length all + length rest < length xs
    stmts_length [] xs rest t = omega (arith, then_length _ xs rest t)
    stmts_length (s ∷ more) xs rest w = omega (arith, shorter true s xs w.0 w.1, stmts_length more w.0 rest w.2)

    condition_length : (c : Expr) (xs rest : List Lexeme) → Condition (Within n) (UnendedWithin n) (StmtWithin n) c xs rest → length rest < length xs
    condition_length c xs rest w = omega (arith, then_length _ xs w.0 w.1, facts.shorter n c 1 w.0 w.2 w.3, then_length _ w.2 rest w.4)

    ended_length : (e : Option Expr) (xs rest : List Lexeme) → Ended (Within n) (UnendedWithin n) (StmtWithin n) e xs rest → length rest < length xs
    ended_length None xs rest t = omega (arith, then_length _ xs rest t)
    ended_length (Some e) xs rest w = omega (arith, facts.shorter n e 1 xs w.0 w.1, then_length _ w.0 rest w.2)

    otherwise_length : (other : Option Stmt) (xs rest : List Lexeme) → Otherwise (Within n) (UnendedWithin n) (StmtWithin n) other xs rest
        → length rest ≤ length xs
    otherwise_length None xs rest w = omega (arith, ap length w.0)
    otherwise_length (Some s) xs rest w = omega (arith, then_length _ xs w.0 w.1, shorter false s w.0 rest w.2)

    pub simples_length : (close : Operator) (all : List Stmt) (xs rest : List Lexeme) → Simples (UnendedWithin n) close all xs rest
        → length rest < length xs
    simples_length close [] xs rest t = omega (arith, then_length _ xs rest t)
    simples_length close (s ∷ more) xs rest w =
        omega (arith, header_length n s xs w.0 w.1.1, more_simples_length (UnendedWithin n) (header_length n) close more w.0 rest w.2)

    declares_length : (all : List Stmt) (xs rest : List Lexeme) → Declares (UnendedWithin n) all xs rest → length rest < length xs
    declares_length (s ∷ []) xs rest w = omega (arith, header_length n s xs w.1 w.2, then_length _ w.1 rest w.3)
    declares_length _ xs rest w = absurd w

    start_length : (all : List Stmt) (xs rest : List Lexeme) → Start (UnendedWithin n) all xs rest → length rest < length xs
    start_length all xs rest (inl w) = declares_length all xs rest w
    start_length all xs rest (inr w) = simples_length o.Semicolon all xs rest w

    catch_length : (c : CatchTree) (xs rest : List Lexeme) → Catch (Within n) (UnendedWithin n) (StmtWithin n) c xs rest → length rest < length xs
    catch_length c xs rest w =
        omega (
          arith,
          then_length _ xs w.0 w.1,
          then_length _ w.0 w.2 w.3,
          ap length w.5,
          ap length w.7,
          then_length _ w.6 w.8 w.9,
          shorter false (out-CatchTree c).body w.8 rest w.10.1,
        )

    pub catches_length : (all : List CatchTree) (xs rest : List Lexeme) → Catches (Within n) (UnendedWithin n) (StmtWithin n) all xs rest
        → length all + length rest ≤ length xs
    catches_length [] xs rest w = omega (arith, ap length w.0)
    catches_length (c ∷ more) xs rest w = omega (arith, catch_length c xs w.0 w.1, catches_length more w.0 rest w.2)

    finally_length : (last : Option Stmt) (xs rest : List Lexeme) → Finally (Within n) (UnendedWithin n) (StmtWithin n) last xs rest
        → length rest ≤ length xs
    finally_length None xs rest w = omega (arith, ap length w.0)
    finally_length (Some s) xs rest w = omega (arith, then_length _ xs w.0 w.1, shorter false s w.0 rest w.2.1)

    node_length : (f : StmtLayer) (xs rest : List Lexeme) → StmtNode (Within n) (UnendedWithin n) (StmtWithin n) f xs rest → length rest < length xs
    node_length Stmt-F.Empty xs rest w = omega (arith, then_length _ xs rest w)
    node_length (Stmt-F.Block all) xs rest w = omega (arith, then_length _ xs w.0 w.1, stmts_length all w.0 rest w.2)
    node_length (Stmt-F.Super at given) xs rest w =
        omega (
          arith,
          ap length w.1,
          then_length _ w.0 w.2 w.3,
          args_length (Within n) (facts.shorter n) given w.2 w.4 w.5,
          then_length _ w.4 rest w.6,
        )
    node_length (Stmt-F.If c s other) xs rest w =
        omega (arith, then_length _ xs w.0 w.1, condition_length c w.0 w.2 w.3, shorter false s w.2 w.4 w.5, otherwise_length other w.4 rest w.6)
    node_length (Stmt-F.While c s) xs rest w =
        omega (arith, then_length _ xs w.0 w.1, condition_length c w.0 w.2 w.3, shorter false s w.2 rest w.4)
    node_length (Stmt-F.DoWhile s c) xs rest w =
        omega (
          arith,
          then_length _ xs w.0 w.1,
          shorter false s w.0 w.2 w.3,
          then_length _ w.2 w.4 w.5,
          condition_length c w.4 w.6 w.7,
          then_length _ w.6 rest w.8,
        )
    node_length (Stmt-F.For first c update s) xs rest w =
        omega (
          arith,
          then_length _ xs w.0 w.1,
          then_length _ w.0 w.2 w.3,
          start_length first w.2 w.4 w.5,
          ended_length c w.4 w.6 w.7,
          simples_length o.RightParen update w.6 w.8 w.9,
          shorter false s w.8 rest w.10,
        )
    node_length (Stmt-F.Return at e) xs rest w = omega (arith, ap length w.1, ended_length e w.0 rest w.2)
    node_length (Stmt-F.Break at) xs rest w = omega (arith, ap length w.1, then_length _ w.0 rest w.2)
    node_length (Stmt-F.Continue at) xs rest w = omega (arith, ap length w.1, then_length _ w.0 rest w.2)
    node_length (Stmt-F.Throw e) xs rest w = omega (arith, then_length _ xs w.0 w.1, facts.shorter n e 1 w.0 w.2 w.3, then_length _ w.2 rest w.4)
    node_length (Stmt-F.Try body clauses last) xs rest w =
        omega (
          arith,
          then_length _ xs w.0 w.1,
          shorter false body w.0 w.2 w.3.1,
          catches_length clauses w.2 w.4 w.5,
          finally_length last w.4 rest w.6,
        )
    node_length f xs rest w = omega (arith, unended_length (Within n) (facts.shorter n) f xs w.0 w.1, then_length _ w.0 rest w.2)

  pub stmt_length : (n : ℕ) (in_block : Bool) (t : Stmt) (xs rest : List Lexeme) → StmtWithin n in_block t xs rest → length rest < length xs
  unfolding StmtWithin
  stmt_length zero in_block t xs rest w = absurd w
  stmt_length (suc n) in_block t xs rest w = node_length n (stmt_length n) (out-Stmt t) xs rest w.1

  -- ---- the first token

  no_brace : (n : ℕ) (f : StmtLayer) (xs rest : List Lexeme) → StmtNode (Within n) (UnendedWithin n) (StmtWithin n) f xs rest
      → sees o.RightBrace xs ≡ false
  unfolding same_operator
  no_brace n Stmt-F.Empty xs rest w = rw w.1 refl
  no_brace n (Stmt-F.Block all) xs rest w = rw w.1.1 refl
  no_brace n (Stmt-F.Super at given) xs rest w = rw w.1 refl
  no_brace n (Stmt-F.If c s other) xs rest w = rw w.1.1 refl
  no_brace n (Stmt-F.While c s) xs rest w = rw w.1.1 refl
  no_brace n (Stmt-F.DoWhile s c) xs rest w = rw w.1.1 refl
  no_brace n (Stmt-F.For first c update s) xs rest w = rw w.1.1 refl
  no_brace n (Stmt-F.Return at e) xs rest w = rw w.1 refl
  no_brace n (Stmt-F.Break at) xs rest w = rw w.1 refl
  no_brace n (Stmt-F.Continue at) xs rest w = rw w.1 refl
  no_brace n (Stmt-F.Throw e) xs rest w = rw w.1.1 refl
  no_brace n (Stmt-F.Try body clauses last) xs rest w = rw w.1.1 refl
  no_brace n f xs rest w = unended_other facts n o.RightBrace refl refl f xs w.0 w.1

  pub stmt_no_brace : (n : ℕ) (in_block : Bool) (t : Stmt) (xs rest : List Lexeme) → StmtWithin n in_block t xs rest → sees o.RightBrace xs ≡ false
  unfolding StmtWithin
  stmt_no_brace zero in_block t xs rest w = absurd w
  stmt_no_brace (suc n) in_block t xs rest w = no_brace n (out-Stmt t) xs rest w.1

  block_brace_by : (n : ℕ) (f : StmtLayer) (xs rest : List Lexeme) → is_block f ≡ true
      → StmtNode (Within n) (UnendedWithin n) (StmtWithin n) f xs rest → sees o.LeftBrace xs ≡ true
  block_brace_by n (Stmt-F.Block all) xs rest is w = rw w.1.1 (sees_it o.LeftBrace w.1.0 w.0)
  block_brace_by n _ xs rest is w = absurd (cc)

  pub block_brace : (n : ℕ) (in_block : Bool) (t : Stmt) (xs rest : List Lexeme) → is_block (out-Stmt t) ≡ true → StmtWithin n in_block t xs rest
      → sees o.LeftBrace xs ≡ true
  unfolding StmtWithin
  block_brace zero in_block t xs rest is w = absurd w
  block_brace (suc n) in_block t xs rest is w = block_brace_by n (out-Stmt t) xs rest is w.1
