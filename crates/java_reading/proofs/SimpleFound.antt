-- Declarations and simple statements that are written are found.
use Rattle.std.proofs.Common.{◌≡◌, ℕ, ◌≤◌, List, [], ◌∷◌, Bool, true, false, Option, Some, None, Ok, refl, sym, ◌∙◌, ap, arith}
use Rattle.java_tokens.specs.declared.token.Operator.{Operator}
use Rattle.java_tokens.specs.declared.token.Operator.TheVariants as o
use Rattle.java_tokens.specs.declared.token.TokenKind.{TokenKind}
use Rattle.java_tokens.specs.declared.token.TokenKind.TheVariants as k
use Rattle.java_syntax.specs.declared.expression.Expr.{Expr, out-Expr}
use Rattle.java_syntax.specs.declared.expression.Expr.TheOpen.{Expr-F}
use Rattle.java_syntax.specs.declared.operator.AssignOp.{AssignOp}
use Rattle.java_syntax.specs.declared.operator.AssignOp.TheVariants as assign
use Rattle.java_syntax.specs.declared.operator.Fix.{Fix}
use Rattle.java_syntax.specs.declared.operator.Fix.TheVariants as fix
use Rattle.java_syntax.specs.declared.operator.StepOp.{StepOp}
use Rattle.java_syntax.specs.declared.operator.StepOp.TheVariants as step
use Rattle.java_syntax.specs.declared.statement.LocalTree.{LocalTree}
use Rattle.java_syntax.specs.declared.statement.Stmt.{roll-Stmt}
use Rattle.java_syntax.specs.declared.statement.Stmt.TheOpen.{Stmt-F}
use Rattle.java_syntax.specs.declared.statement.Stmt.TheVariants.{rolls-Local, rolls-Assign, rolls-Step, rolls-Eval}
use Rattle.token_reading.specs.Lexeme.{Lexeme, lexeme, Then, sees, same_operator}
use Rattle.token_reading.specs.Height.{type_height}
use Rattle.java_syntax.specs.Exprs.{Layer, level, Within}
use Rattle.java_syntax.specs.Stmts.{StmtLayer, assign_sign, step_sign, is_declaration, Initial, IsLocal, Steps, Unended}
use Rattle.java_reading.specs.ReadExpr.{follows}
use Rattle.java_reading.specs.ReadStmt.{value, is_post, assign_at, step_operator, step_by, step_at, initial, local, declaration, step_before, assignment, step_behind, evaluated, simple}
use Rattle.java_reading.proofs.Begins.{begins_operator, begins, Begins}
use Rattle.java_reading.proofs.Claims.{Done, done, over}
use Rattle.java_reading.proofs.ExprFacts.{ExprFacts}
use Rattle.java_reading.proofs.Levels.{binary_range, unary_range}
use Rattle.token_reading.proofs.Steps.{Or, found, higher, or_then}
use Rattle.token_reading.proofs.Lexemes.{sees_it, from_sees}
use Rattle.token_reading.proofs.Found.{ident_or, named_type_or}
use Rattle.java_reading.specs.Lookahead.{declares}

-- ---- what an expression doesn't begin with

abbrev pub kind_at : List Lexeme → TokenKind
kind_at [] = k.End
kind_at (x ∷ xs) = x.kind

no_sign_by : (s : Operator) (l : ℕ) (xs : List Lexeme) → begins_operator s ≡ false → Begins l xs → (t : Bool) → sees s xs ≡ t → t ≡ false
no_sign_by s l xs no_ b false h = refl
no_sign_by s l xs no_ b true h =
    let t = from_sees s xs h in
    let same : b.first.kind ≡ k.Op s = ap kind_at (sym b.is ∙ t.1) in
    let any : begins_operator s ≡ true = sym (ap begins same) ∙ b.any in absurd (cc)

pub no_sign : (s : Operator) (l : ℕ) (xs : List Lexeme) → begins_operator s ≡ false → Begins l xs → sees s xs ≡ false
no_sign s l xs no_ b = no_sign_by s l xs no_ b (sees s xs) refl

no_step_operator : (s : Operator) → begins_operator s ≡ true → step_operator s ≡ None
no_step_operator o.Increment h = absurd (cc)
no_step_operator o.Decrement h = absurd (cc)
no_step_operator _ h = refl

no_step_kind : (kd : TokenKind) → begins kd ≡ true → step_by kd ≡ None
no_step_kind (k.Op s) h = no_step_operator s h
no_step_kind _ h = refl

pub no_step : (l : ℕ) (xs : List Lexeme) → Begins l xs → step_at xs ≡ None
no_step l xs b = rw b.is (no_step_kind b.first.kind b.any)

-- ---- signs

pub assign_it : (op : AssignOp) (at : ℕ) (xs : List Lexeme) → assign_at (lexeme at (k.Op (assign_sign op)) ∷ xs) ≡ Some op
assign_it assign.Assign at xs = refl
assign_it _ at xs = refl

pub assign_follows : (op : AssignOp) (at : ℕ) (xs : List Lexeme) → follows (lexeme at (k.Op (assign_sign op)) ∷ xs) ≡ 0
assign_follows assign.Assign at xs = refl
assign_follows _ at xs = refl

pub assign_declares : (op : AssignOp) (at : ℕ) (xs : List Lexeme) → declares (lexeme at (k.Op (assign_sign op)) ∷ xs) ≡ false
assign_declares assign.Assign at xs = refl
assign_declares _ at xs = refl

pub step_it : (op : StepOp) (at : ℕ) (xs : List Lexeme) → step_at (lexeme at (k.Op (step_sign op)) ∷ xs) ≡ Some op
step_it step.Increment at xs = refl
step_it step.Decrement at xs = refl

pub step_no_assign : (op : StepOp) (at : ℕ) (xs : List Lexeme) → assign_at (lexeme at (k.Op (step_sign op)) ∷ xs) ≡ None
step_no_assign step.Increment at xs = refl
step_no_assign step.Decrement at xs = refl

pub step_follows : (op : StepOp) (at : ℕ) (xs : List Lexeme) → follows (lexeme at (k.Op (step_sign op)) ∷ xs) ≡ 0
step_follows step.Increment at xs = refl
step_follows step.Decrement at xs = refl

pub step_declares : (op : StepOp) (at : ℕ) (xs : List Lexeme) → declares (lexeme at (k.Op (step_sign op)) ∷ xs) ≡ false
step_declares step.Increment at xs = refl
step_declares step.Decrement at xs = refl

pub post_of : (f : Layer) → 14 ≤ level f → is_post f ≡ true
post_of (Expr-F.Unary at op a) h = absurd (omega (arith, (unary_range op).1))
post_of (Expr-F.Cast at t a) h = absurd (omega arith)
post_of (Expr-F.Binary op a b) h = absurd (omega (arith, (binary_range op).1))
post_of (Expr-F.InstanceOf a t) h = absurd (omega arith)
post_of (Expr-F.Conditional c a b) h = absurd (omega arith)
post_of _ h = refl

-- ---- what stands after a declaration or a simple statement

pub record Closes (rest : List Lexeme) : Type 0 where
  pub loose : follows rest ≡ 0
  pub no_initial : sees o.Assign rest ≡ false
  pub no_assign : assign_at rest ≡ None
  pub no_step : step_at rest ≡ None
  pub no_type : declares rest ≡ false

pub semicolon_closes : (rest ys : List Lexeme) → Then (k.Op o.Semicolon) rest ys → Closes rest
unfolding same_operator
semicolon_closes rest ys t = rw t.1 (record { loose = refl; no_initial = refl; no_assign = refl; no_step = refl; no_type = refl })

pub comma_closes : (rest ys : List Lexeme) → Then (k.Op o.Comma) rest ys → Closes rest
unfolding same_operator
comma_closes rest ys t = rw t.1 (record { loose = refl; no_initial = refl; no_assign = refl; no_step = refl; no_type = refl })

pub paren_closes : (rest ys : List Lexeme) → Then (k.Op o.RightParen) rest ys → Closes rest
unfolding same_operator
paren_closes rest ys t = rw t.1 (record { loose = refl; no_initial = refl; no_assign = refl; no_step = refl; no_type = refl })

-- ---- expressions

module _ (facts : ExprFacts) (n b : ℕ) where
  value_by : (e : Expr) (xs rest : List Lexeme) → Done n b 1 e xs rest → Or n b (value b xs) (Ok (e, rest))
  unfolding value
  value_by e xs rest (done h hn hb r) = found (rw r refl)
  value_by e xs rest (over h r) = higher h (rw r refl)

  pub value_or : (e : Expr) (l : ℕ) (xs rest : List Lexeme) → Within n e l xs rest → follows rest ≡ 0 → Or n b (value b xs) (Ok (e, rest))
  value_or e l xs rest w loose = value_by e xs rest (facts.found n b e l xs rest w loose)

  post_true : (a : Expr) (xs rest : List Lexeme) → Within n a 14 xs rest → is_post (out-Expr a) ≡ true
  post_true a xs rest w = post_of (out-Expr a) (facts.within_level n a 14 xs rest w)

  pub initial_or : (e : Option Expr) (xs rest : List Lexeme) → Initial (Within n) e xs rest → Closes rest
      → Or n b (initial (value b) xs) (Ok (e, rest))
  unfolding initial
  initial_or None xs rest w c = rw w (found (rw c.no_initial refl))
  initial_or (Some e) xs rest w c =
      rw (w.1.1, sees_it o.Assign w.1.0 w.0) (or_then _ (value_or e 1 w.0 rest w.2 c.loose) (found refl))

  pub local_or : (t : LocalTree) (xs rest : List Lexeme) → type_height t.ty ≤ n → IsLocal (Within n) t xs rest → Closes rest
      → Or n b (local b (value b) xs) (Ok (t, rest))
  unfolding local
  local_or t xs rest fit w c =
      or_then _ (named_type_or n b t.ty t.name xs w.0 w.2 w.1 fit w.3)
      (or_then _ (ident_or n b t.name w.0 w.2 w.3) (or_then _ (initial_or t.value w.2 rest w.4 c) (found refl)))

  pub declaration_or : (t : LocalTree) (xs rest : List Lexeme) → type_height t.ty ≤ n → IsLocal (Within n) t xs rest → Closes rest
      → Or n b (declaration b (value b) xs) (Ok (roll-Stmt (Stmt-F.Local t), rest))
  unfolding declaration
  declaration_or t xs rest fit w c = rw (rolls-Local t) (or_then _ (local_or t xs rest fit w c) (found refl))

  steps_or : (op : StepOp) (a : Expr) (side : Fix) (xs rest : List Lexeme) → Steps (Within n) op a side xs rest → Closes rest
      → Or n b (simple (value b) xs) (Ok (roll-Stmt (Stmt-F.Step op side a), rest))
  unfolding simple step_before evaluated step_behind
  steps_or op a fix.Before xs rest w c =
      rw (rolls-Step op fix.Before a, w.1.1, step_it op w.1.0 w.0)
      (or_then _ (value_or a 14 w.0 rest w.2 c.loose) (found (rw (post_true a w.0 rest w.2) refl)))
  steps_or op a fix.Behind xs rest w c =
      rw (rolls-Step op fix.Behind a, no_step 14 xs (facts.begins n a 14 xs w.0 w.1))
      (or_then _ (value_or a 14 xs w.0 w.1 (rw w.2.1 (step_follows op w.2.0 rest)))
      (found (rw (w.2.1, step_no_assign op w.2.0 rest, step_it op w.2.0 rest, post_true a xs w.0 w.1) refl)))

  -- all but declarations
  pub simple_or : (f : StmtLayer) (xs rest : List Lexeme) → is_declaration f ≡ false → Unended (Within n) f xs rest → Closes rest
      → Or n b (simple (value b) xs) (Ok (roll-Stmt f, rest))
  unfolding simple evaluated assignment
  simple_or (Stmt-F.Local t) xs rest other w c = absurd (cc)
  simple_or (Stmt-F.Assign a op e) xs rest other w c =
      rw (rolls-Assign a op e, no_step 14 xs (facts.begins n a 14 xs w.0 w.1))
      (or_then _ (value_or a 14 xs w.0 w.1 (rw w.3.1 (assign_follows op w.3.0 w.2)))
      (rw (w.3.1, assign_it op w.3.0 w.2, post_true a xs w.0 w.1) (or_then _ (value_or e 1 w.2 rest w.4 c.loose) (found refl))))
  simple_or (Stmt-F.Step op side a) xs rest other w c = steps_or op a side xs rest w c
  simple_or (Stmt-F.Eval e) xs rest other w c =
      rw (rolls-Eval e, no_step 1 xs (facts.begins n e 1 xs rest w))
      (or_then _ (value_or e 1 xs rest w c.loose) (found (rw (c.no_assign, c.no_step) refl)))
  simple_or _ xs rest other w c = absurd w
