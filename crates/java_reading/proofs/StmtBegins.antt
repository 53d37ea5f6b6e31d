-- What a statement begins with, and that it takes a token.
use Rattle.std.proofs.Common.{◌≡◌, ℕ, zero, suc, ◌+◌, ◌≤◌, ◌<◌, ◌&&◌, List, [], ◌∷◌, length, Bool, true, false, Option, Some, None, refl, sym, ◌∙◌, ap, arith}
use Rattle.java_tokens.specs.declared.token.Keyword.{Keyword}
use Rattle.java_tokens.specs.declared.token.Keyword.TheVariants as w
use Rattle.java_tokens.specs.declared.token.Operator.{Operator}
use Rattle.java_tokens.specs.declared.token.Operator.TheVariants as o
use Rattle.java_tokens.specs.declared.token.TokenKind.{TokenKind}
use Rattle.java_tokens.specs.declared.token.TokenKind.TheVariants as k
use Rattle.java_syntax.specs.declared.expression.Expr.{Expr}
use Rattle.token_reading.specs.declared.name.BaseType.{BaseType}
use Rattle.token_reading.specs.declared.name.BaseType.TheVariants as base
use Rattle.token_reading.specs.declared.name.Ident.{Ident}
use Rattle.token_reading.specs.declared.name.TypeTree.{TypeTree}
use Rattle.java_syntax.specs.declared.operator.Fix.{Fix}
use Rattle.java_syntax.specs.declared.operator.Fix.TheVariants as fix
use Rattle.java_syntax.specs.declared.operator.StepOp.{StepOp}
use Rattle.java_syntax.specs.declared.operator.StepOp.TheVariants as step
use Rattle.java_syntax.specs.declared.statement.Stmt.{Stmt}
use Rattle.java_syntax.specs.declared.statement.Stmt.TheOpen.{Stmt-F}
use Rattle.token_reading.specs.Lexeme.{Lexeme, lexeme, Then, sees, same_keyword}
use Rattle.token_reading.specs.Types.{IsIdent, Brackets, IsBase, IsType}
use Rattle.java_syntax.specs.Exprs.{begins_plain_keyword, Within}
use Rattle.java_syntax.specs.Stmts.{StmtLayer, step_sign, is_declaration, Initial, Steps, Unended, MoreSimples}
use Rattle.token_reading.specs.Outcome.{Parser}
use Rattle.java_reading.specs.ReadStmt.{step_operator, word_stmt, stmt_by, simple_stmt, plain_stmt}
use Rattle.java_reading.proofs.Begins.{begins_operator, begins, Begins}
use Rattle.java_reading.proofs.ExprFacts.{ExprFacts}
use Rattle.java_reading.proofs.SimpleFound.{kind_at, no_sign, assign_declares, step_declares, Closes}
use Rattle.token_reading.proofs.Lexemes.{then_length, sees_it, type_length, from_sees}
use Rattle.java_reading.specs.Lookahead.{is_local, is_super_call}

-- ---- lengths

module _ (Part : Expr → ℕ → List Lexeme → List Lexeme → Type 0)
    (shorter : (e : Expr) (l : ℕ) (xs rest : List Lexeme) → Part e l xs rest → length rest < length xs) where
  pub initial_length : (e : Option Expr) (xs rest : List Lexeme) → Initial Part e xs rest → length rest ≤ length xs
  initial_length None xs rest w = omega (arith, ap length w)
  initial_length (Some e) xs rest w = omega (arith, then_length _ xs w.0 w.1, shorter e 1 w.0 rest w.2)

  steps_length : (op : StepOp) (a : Expr) (side : Fix) (xs rest : List Lexeme) → Steps Part op a side xs rest → length rest < length xs
  steps_length op a fix.Before xs rest w = omega (arith, then_length _ xs w.0 w.1, shorter a 14 w.0 rest w.2)
  steps_length op a fix.Behind xs rest w = omega (arith, shorter a 14 xs w.0 w.1, then_length _ w.0 rest w.2)

  pub unended_length : (f : StmtLayer) (xs rest : List Lexeme) → Unended Part f xs rest → length rest < length xs
  unended_length (Stmt-F.Local t) xs rest w =
      omega (arith, type_length t.ty xs w.0 w.1, ap length w.3, initial_length t.value w.2 rest w.4)
  unended_length (Stmt-F.Assign a op e) xs rest w =
      omega (arith, shorter a 14 xs w.0 w.1, then_length _ w.0 w.2 w.3, shorter e 1 w.2 rest w.4)
  unended_length (Stmt-F.Step op side a) xs rest w = steps_length op a side xs rest w
  unended_length (Stmt-F.Eval e) xs rest w = shorter e 1 xs rest w
  unended_length _ xs rest w = absurd w

module _ (Header : Stmt → List Lexeme → List Lexeme → Type 0)
    (shorter : (s : Stmt) (xs rest : List Lexeme) → Header s xs rest → length rest < length xs) where
  pub more_simples_length : (close : Operator) (all : List Stmt) (xs rest : List Lexeme) → MoreSimples Header close all xs rest
      → length all + length rest < length xs
  more_simples_length close [] xs rest t = omega (arith, then_length _ xs rest t)
  more_simples_length close (s ∷ more) xs rest w =
      omega (arith, then_length _ xs w.0 w.1, shorter s w.0 w.2 w.3.1, more_simples_length close more w.2 rest w.4)

-- ---- what begins as an expression or with a sign before its operand

sign_is : (s : Operator) (kd : TokenKind) (xs ys : List Lexeme) → Then kd xs ys → (kd ≡ k.Op s → ⊥) → (t : Bool) → sees s xs ≡ t → t ≡ false
sign_is s kd xs ys t no_ false h = refl
sign_is s kd xs ys t no_ true h = absurd (no_ (ap kind_at (sym t.1 ∙ (from_sees s xs h).1)))

-- another token comes first
pub other_sign : (s : Operator) (kd : TokenKind) (xs ys : List Lexeme) → Then kd xs ys → (kd ≡ k.Op s → ⊥) → sees s xs ≡ false
other_sign s kd xs ys t no_ = sign_is s kd xs ys t no_ (sees s xs) refl

step_other : (op : StepOp) (s : Operator) → step_operator s ≡ None → k.Op (step_sign op) ≡ k.Op s → ⊥
step_other step.Increment s no_ is = let same : o.Increment ≡ s = cc in let some : step_operator s ≡ Some step.Increment =
    sym (ap step_operator same) in cc
step_other step.Decrement s no_ is = let same : o.Decrement ≡ s = cc in let some : step_operator s ≡ Some step.Decrement =
    sym (ap step_operator same) in cc

base_other : (s : Operator) (b : BaseType) (xs ys : List Lexeme) → IsBase b xs ys → sees s xs ≡ false
base_other s base.Int xs ys t = rw t.1 refl
base_other s base.Boolean xs ys t = rw t.1 refl
base_other s (base.Class x) xs ys w = rw w refl

module _ (facts : ExprFacts) (n : ℕ) where
  steps_other : (s : Operator) → begins_operator s ≡ false → step_operator s ≡ None → (op : StepOp) (a : Expr) (side : Fix) (xs rest : List Lexeme)
      → Steps (Within n) op a side xs rest → sees s xs ≡ false
  steps_other s no_ none op a fix.Before xs rest w = other_sign s _ xs w.0 w.1 (step_other op s none)
  steps_other s no_ none op a fix.Behind xs rest w = no_sign s 14 xs no_ (facts.begins n a 14 xs w.0 w.1)

  -- a sign that begins neither an expression nor a step
  pub unended_other : (s : Operator) → begins_operator s ≡ false → step_operator s ≡ None → (f : StmtLayer) (xs rest : List Lexeme)
      → Unended (Within n) f xs rest → sees s xs ≡ false
  unended_other s no_ none (Stmt-F.Local t) xs rest w = base_other s t.ty.base xs w.1.0 w.1.1
  unended_other s no_ none (Stmt-F.Assign a op e) xs rest w = no_sign s 14 xs no_ (facts.begins n a 14 xs w.0 w.1)
  unended_other s no_ none (Stmt-F.Step op side a) xs rest w = steps_other s no_ none op a side xs rest w
  unended_other s no_ none (Stmt-F.Eval e) xs rest w = no_sign s 1 xs no_ (facts.begins n e 1 xs rest w)
  unended_other s no_ none _ xs rest w = absurd w

  -- ---- a declaration or not

  brackets_local : (x t : Ident) (d : ℕ) (ys zs us : List Lexeme) → Brackets d ys zs → IsIdent t zs us
      → is_local (lexeme x.at (k.Ident x.name) ∷ ys) ≡ true
  brackets_local x t zero ys zs us w named = rw (w, named) refl
  brackets_local x t (suc d) ys zs us w named = rw (w.1.1, w.3.1, sees_it o.RightBracket w.3.0 w.2) refl

  base_local : (b : BaseType) (t : Ident) (d : ℕ) (xs ys zs us : List Lexeme) → IsBase b xs ys → Brackets d ys zs → IsIdent t zs us
      → is_local xs ≡ true
  base_local base.Int t d xs ys zs us v w named = rw v.1 refl
  base_local base.Boolean t d xs ys zs us v w named = rw v.1 refl
  base_local (base.Class x) t d xs ys zs us v w named = rw v (brackets_local x t d ys zs us w named)

  -- a type and a name
  pub type_local : (t : TypeTree) (x : Ident) (xs ys zs : List Lexeme) → IsType t xs ys → IsIdent x ys zs → is_local xs ≡ true
  type_local t x xs ys zs w named = base_local t.base x t.dimensions xs w.0 ys zs w.1 w.2 named

  step_local : (op : StepOp) (at : ℕ) (xs : List Lexeme) → is_local (lexeme at (k.Op (step_sign op)) ∷ xs) ≡ false
  step_local step.Increment at xs = refl
  step_local step.Decrement at xs = refl

  steps_local : (op : StepOp) (a : Expr) (side : Fix) (xs rest : List Lexeme) → Steps (Within n) op a side xs rest → is_local xs ≡ false
  steps_local op a fix.Before xs rest w = rw w.1.1 (step_local op w.1.0 w.0)
  steps_local op a fix.Behind xs rest w = facts.no_local n a 14 xs w.0 (rw w.2.1 (step_declares op w.2.0 rest)) w.1

  pub simple_local : (f : StmtLayer) (xs rest : List Lexeme) → is_declaration f ≡ false → Unended (Within n) f xs rest → Closes rest
      → is_local xs ≡ false
  simple_local (Stmt-F.Local t) xs rest other w c = absurd (cc)
  simple_local (Stmt-F.Assign a op e) xs rest other w c = facts.no_local n a 14 xs w.0 (rw w.3.1 (assign_declares op w.3.0 w.2)) w.1
  simple_local (Stmt-F.Step op side a) xs rest other w c = steps_local op a side xs rest w
  simple_local (Stmt-F.Eval e) xs rest other w c = facts.no_local n e 1 xs rest c.no_type w
  simple_local _ xs rest other w c = absurd w

-- ---- to the reader of simple statements

module _ (value : Parser Expr) (arguments : Parser (List Expr)) (header part : Bool → Parser Stmt) where
  plain_word : (word : Keyword) (at : ℕ) (whole xs : List Lexeme) → begins_plain_keyword word ≡ true
      → (same_keyword word w.Super && sees o.LeftParen xs) ≡ false
      → word_stmt value arguments header part word at whole xs ≡ simple_stmt value arguments header part whole
  unfolding same_keyword
  plain_word w.Super at whole xs h no_ = rw no_ refl
  plain_word w.If at whole xs h no_ = absurd (cc)
  plain_word w.While at whole xs h no_ = absurd (cc)
  plain_word w.Do at whole xs h no_ = absurd (cc)
  plain_word w.For at whole xs h no_ = absurd (cc)
  plain_word w.Return at whole xs h no_ = absurd (cc)
  plain_word w.Break at whole xs h no_ = absurd (cc)
  plain_word w.Continue at whole xs h no_ = absurd (cc)
  plain_word w.Throw at whole xs h no_ = absurd (cc)
  plain_word w.Try at whole xs h no_ = absurd (cc)
  plain_word _ at whole xs h no_ = refl

  plain_operator : (s : Operator) (at : ℕ) (whole xs : List Lexeme) → begins_operator s ≡ true
      → stmt_by value arguments header part (k.Op s) at whole xs ≡ simple_stmt value arguments header part whole
  plain_operator o.LeftBrace at whole xs h = absurd (cc)
  plain_operator o.Semicolon at whole xs h = absurd (cc)
  plain_operator _ at whole xs h = refl

  plain_kind : (x : Lexeme) (kd : TokenKind) (at : ℕ) (whole xs : List Lexeme) → x.kind ≡ kd → begins kd ≡ true → is_super_call (x ∷ xs) ≡ false
      → stmt_by value arguments header part kd at whole xs ≡ simple_stmt value arguments header part whole
  plain_kind x (k.Word word) at whole xs is h no_ = plain_word word at whole xs h (rw is at no_)
  plain_kind x (k.Op s) at whole xs is h no_ = plain_operator s at whole xs h
  plain_kind x k.End at whole xs is h no_ = absurd (cc)
  plain_kind x _ at whole xs is h no_ = refl

  pub begins_simple : (l : ℕ) (xs : List Lexeme) → Begins l xs → is_super_call xs ≡ false
      → plain_stmt value arguments header part xs ≡ simple_stmt value arguments header part xs
  unfolding plain_stmt
  begins_simple l xs b no_ =
      rw b.is (plain_kind b.first b.first.kind b.first.at (b.first ∷ b.more) b.more refl b.any (rw b.is at no_))

  step_simple : (op : StepOp) (at : ℕ) (xs : List Lexeme)
      → plain_stmt value arguments header part (lexeme at (k.Op (step_sign op)) ∷ xs) ≡ simple_stmt value arguments header part (lexeme at (k.Op (step_sign op)) ∷ xs)
  unfolding plain_stmt
  step_simple step.Increment at xs = refl
  step_simple step.Decrement at xs = refl

  module _ (facts : ExprFacts) (n : ℕ) where
    expr_simple : (e : Expr) (l : ℕ) (xs rest : List Lexeme) → Within n e l xs rest
        → plain_stmt value arguments header part xs ≡ simple_stmt value arguments header part xs
    expr_simple e l xs rest w = begins_simple l xs (facts.begins n e l xs rest w) (facts.no_super_call n e l xs rest w)

    steps_simple : (op : StepOp) (a : Expr) (side : Fix) (xs rest : List Lexeme) → Steps (Within n) op a side xs rest
        → plain_stmt value arguments header part xs ≡ simple_stmt value arguments header part xs
    steps_simple op a fix.Before xs rest w = rw w.1.1 (step_simple op w.1.0 w.0)
    steps_simple op a fix.Behind xs rest w = expr_simple a 14 xs w.0 w.1

    pub unended_simple : (f : StmtLayer) (xs rest : List Lexeme) → is_declaration f ≡ false → Unended (Within n) f xs rest
        → plain_stmt value arguments header part xs ≡ simple_stmt value arguments header part xs
    unended_simple (Stmt-F.Local t) xs rest other w = absurd (cc)
    unended_simple (Stmt-F.Assign a op e) xs rest other w = expr_simple a 14 xs w.0 w.1
    unended_simple (Stmt-F.Step op side a) xs rest other w = steps_simple op a side xs rest w
    unended_simple (Stmt-F.Eval e) xs rest other w = expr_simple e 1 xs rest w
    unended_simple _ xs rest other w = absurd w
