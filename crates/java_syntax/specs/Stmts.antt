-- Which statements the tokens are (JLS 14).
use Rattle.std.specs.Prelude.{◌≡◌, ℕ, zero, suc, ◌≤◌, List, [], ◌∷◌, Bool, true, false, Option, Some, None, ◌⊎◌}
use Rattle.java_tokens.specs.declared.token.Keyword.TheVariants as w
use Rattle.java_tokens.specs.declared.token.Operator.{Operator}
use Rattle.java_tokens.specs.declared.token.Operator.TheVariants as o
use Rattle.java_tokens.specs.declared.token.TokenKind.TheVariants as k
use Rattle.java_syntax.specs.declared.expression.Expr.{Expr}
use Rattle.java_syntax.specs.declared.operator.AssignOp.{AssignOp}
use Rattle.java_syntax.specs.declared.operator.AssignOp.TheVariants as assign
use Rattle.java_syntax.specs.declared.operator.Fix.{Fix}
use Rattle.java_syntax.specs.declared.operator.Fix.TheVariants as fix
use Rattle.java_syntax.specs.declared.operator.StepOp.{StepOp}
use Rattle.java_syntax.specs.declared.operator.StepOp.TheVariants as step
use Rattle.java_syntax.specs.declared.statement.CatchTree.{CatchTree, out-CatchTree}
use Rattle.java_syntax.specs.declared.statement.LocalTree.{LocalTree}
use Rattle.java_syntax.specs.declared.statement.Stmt.{Stmt, out-Stmt}
use Rattle.java_syntax.specs.declared.statement.Stmt.TheOpen.{Stmt-F}
use Rattle.token_reading.specs.Lexeme.{Lexeme, lexeme, Then, sees_word}
use Rattle.token_reading.specs.Types.{IsIdent, IsType}
use Rattle.token_reading.specs.Height.{type_height}
use Rattle.java_syntax.specs.Exprs.{Args, Within}

-- one level of a statement
abbrev pub StmtLayer : Type 0
StmtLayer = Stmt-F Stmt CatchTree

-- ---- signs

-- of an assignment (JLS 15.26)
abbrev pub assign_sign : AssignOp → Operator
assign_sign assign.Assign = o.Assign
assign_sign assign.Add = o.PlusAssign
assign_sign assign.Subtract = o.MinusAssign
assign_sign assign.Multiply = o.StarAssign
assign_sign assign.Divide = o.SlashAssign
assign_sign assign.Remainder = o.PercentAssign
assign_sign assign.BitAnd = o.AndAssign
assign_sign assign.BitOr = o.OrAssign
assign_sign assign.BitXor = o.XorAssign
assign_sign assign.ShiftLeft = o.ShiftLeftAssign
assign_sign assign.ShiftRight = o.ShiftRightAssign
assign_sign assign.UnsignedShiftRight = o.UnsignedShiftRightAssign

-- of a step (JLS 15.14, 15.15)
abbrev pub step_sign : StepOp → Operator
step_sign step.Increment = o.Increment
step_sign step.Decrement = o.Decrement

-- ---- declarations and blocks among the statements

-- a declaration of a local variable
abbrev pub is_declaration : StmtLayer → Bool
is_declaration (Stmt-F.Local t) = true
is_declaration _ = false

-- a block (JLS 14.2)
abbrev pub is_block : StmtLayer → Bool
is_block (Stmt-F.Block all) = true
is_block _ = false

-- A declaration isn't a part of an `if`, a loop or the like: it stands directly in a block (JLS 14.4.2).
abbrev pub MayStand : Bool → StmtLayer → Type 0
MayStand in_block (Stmt-F.Local t) = in_block ≡ true
MayStand in_block _ = Unit {0}

-- A `try` has a catch clause or a `finally` (JLS 14.20).
abbrev pub handles : List CatchTree → Option Stmt → Bool
handles [] None = false
handles _ _ = true

-- ---- declarations and simple statements, without their semicolons. `Part e l xs rest` says that the expression e, of
-- level l or above, is written at the front of xs, and that the rest stands after it.

module _ (Part : Expr → ℕ → List Lexeme → List Lexeme → Type 0) where
  -- an initial value with its `=`, or nothing
  abbrev pub Initial : Option Expr → List Lexeme → List Lexeme → Type 0
  Initial None xs rest = xs ≡ rest
  Initial (Some e) xs rest = (ys : List Lexeme) × Then (k.Op o.Assign) xs ys × Part e 1 ys rest

  -- a type, a name and maybe an initial value (JLS 14.4)
  abbrev pub IsLocal : LocalTree → List Lexeme → List Lexeme → Type 0
  IsLocal t xs rest = (ys : List Lexeme) × IsType t.ty xs ys × (zs : List Lexeme) × IsIdent t.name ys zs × Initial t.value zs rest

  -- `++` or `--` on the named side of its operand (JLS 15.14, 15.15)
  abbrev pub Steps : StepOp → Expr → Fix → List Lexeme → List Lexeme → Type 0
  Steps op a fix.Before xs rest = (ys : List Lexeme) × Then (k.Op (step_sign op)) xs ys × Part a 14 ys rest
  Steps op a fix.Behind xs rest = (ys : List Lexeme) × Part a 14 xs ys × Then (k.Op (step_sign op)) ys rest

  -- the declaration or simple statement without its semicolon; other statements have no such form
  abbrev pub Unended : StmtLayer → List Lexeme → List Lexeme → Type 0
  Unended (Stmt-F.Local t) xs rest = IsLocal t xs rest
  Unended (Stmt-F.Assign a op e) xs rest =
      (ys : List Lexeme) × Part a 14 xs ys × (zs : List Lexeme) × Then (k.Op (assign_sign op)) ys zs × Part e 1 zs rest
  Unended (Stmt-F.Step op side a) xs rest = Steps op a side xs rest
  Unended (Stmt-F.Eval e) xs rest = Part e 1 xs rest
  Unended _ xs rest = ⊥

-- the height of the type in a statement, and 0 of none
abbrev pub local_type_height : StmtLayer → ℕ
local_type_height (Stmt-F.Local t) = type_height t.ty
local_type_height _ = 0

-- such a statement, of at most this height
unfoldable pub UnendedWithin : ℕ → Stmt → List Lexeme → List Lexeme → Type 0
UnendedWithin zero s xs rest = ⊥
UnendedWithin (suc n) s xs rest = Unended (Within n) (out-Stmt s) xs rest × (local_type_height (out-Stmt s) ≤ n)

-- ---- the header of a `for` (JLS 14.14.1). `Header s xs rest` says that the declaration or simple statement s is written
-- without its semicolon.

module _ (Header : Stmt → List Lexeme → List Lexeme → Type 0) where
  -- a simple statement, which is no declaration
  abbrev pub Simple : Stmt → List Lexeme → List Lexeme → Type 0
  Simple s xs rest = (is_declaration (out-Stmt s) ≡ false) × Header s xs rest

  -- further simple statements, and the token that closes the list
  abbrev pub MoreSimples : Operator → List Stmt → List Lexeme → List Lexeme → Type 0
  MoreSimples close [] xs rest = Then (k.Op close) xs rest
  MoreSimples close (s ∷ more) xs rest =
      (ys : List Lexeme) × Then (k.Op o.Comma) xs ys × (zs : List Lexeme) × Simple s ys zs × MoreSimples close more zs rest

  -- simple statements with commas between them, and the token that closes the list
  abbrev pub Simples : Operator → List Stmt → List Lexeme → List Lexeme → Type 0
  Simples close [] xs rest = Then (k.Op close) xs rest
  Simples close (s ∷ more) xs rest = (ys : List Lexeme) × Simple s xs ys × MoreSimples close more ys rest

  -- one declaration and its semicolon
  abbrev pub Declares : List Stmt → List Lexeme → List Lexeme → Type 0
  Declares (s ∷ []) xs rest = (is_declaration (out-Stmt s) ≡ true) × (ys : List Lexeme) × Header s xs ys × Then (k.Op o.Semicolon) ys rest
  Declares _ xs rest = ⊥

  -- the start of a `for`: a declaration or simple statements, and the semicolon
  abbrev pub Start : List Stmt → List Lexeme → List Lexeme → Type 0
  Start all xs rest = Declares all xs rest ⊎ Simples o.Semicolon all xs rest

-- ---- the grammar. `Inner in_block s xs rest` says that the statement s is written at the front of xs, directly in a block
-- or not, and that the rest stands after it.

module _ (Part : Expr → ℕ → List Lexeme → List Lexeme → Type 0) (Header : Stmt → List Lexeme → List Lexeme → Type 0)
    (Inner : Bool → Stmt → List Lexeme → List Lexeme → Type 0) where
  -- statements and the closing brace (JLS 14.2)
  abbrev pub Stmts : List Stmt → List Lexeme → List Lexeme → Type 0
  Stmts [] xs rest = Then (k.Op o.RightBrace) xs rest
  Stmts (s ∷ more) xs rest = (ys : List Lexeme) × Inner true s xs ys × Stmts more ys rest

  -- a condition in its parentheses
  abbrev pub Condition : Expr → List Lexeme → List Lexeme → Type 0
  Condition c xs rest =
      (ys : List Lexeme) × Then (k.Op o.LeftParen) xs ys × (zs : List Lexeme) × Part c 1 ys zs × Then (k.Op o.RightParen) zs rest

  -- an expression or nothing, and the semicolon
  abbrev pub Ended : Option Expr → List Lexeme → List Lexeme → Type 0
  Ended None xs rest = Then (k.Op o.Semicolon) xs rest
  Ended (Some e) xs rest = (ys : List Lexeme) × Part e 1 xs ys × Then (k.Op o.Semicolon) ys rest

  -- An `else` belongs to the nearest `if` that can have it: none follows an `if` without one (JLS 14.5).
  abbrev pub Otherwise : Option Stmt → List Lexeme → List Lexeme → Type 0
  Otherwise None xs rest = (xs ≡ rest) × (sees_word w.Else rest ≡ false)
  Otherwise (Some s) xs rest = (ys : List Lexeme) × Then (k.Word w.Else) xs ys × Inner false s ys rest

  -- a part that is a block
  abbrev pub IsBlock : Stmt → List Lexeme → List Lexeme → Type 0
  IsBlock s xs rest = (is_block (out-Stmt s) ≡ true) × Inner false s xs rest

  -- `catch (C x) { .. }` (JLS 14.20)
  abbrev pub Catch : CatchTree → List Lexeme → List Lexeme → Type 0
  Catch c xs rest =
      (ys : List Lexeme) × Then (k.Word w.Catch) xs ys × (zs : List Lexeme) × Then (k.Op o.LeftParen) ys zs
      × (us : List Lexeme) × IsIdent (out-CatchTree c).class zs us × (vs : List Lexeme) × IsIdent (out-CatchTree c).name us vs
      × (ws : List Lexeme) × Then (k.Op o.RightParen) vs ws × IsBlock (out-CatchTree c).body ws rest

  -- the catch clauses after the block of a `try`: all that stand there
  abbrev pub Catches : List CatchTree → List Lexeme → List Lexeme → Type 0
  Catches [] xs rest = (xs ≡ rest) × (sees_word w.Catch rest ≡ false)
  Catches (c ∷ more) xs rest = (ys : List Lexeme) × Catch c xs ys × Catches more ys rest

  -- the block of `finally`; none follows a `try` without one
  abbrev pub Finally : Option Stmt → List Lexeme → List Lexeme → Type 0
  Finally None xs rest = (xs ≡ rest) × (sees_word w.Finally rest ≡ false)
  Finally (Some s) xs rest = (ys : List Lexeme) × Then (k.Word w.Finally) xs ys × IsBlock s ys rest

  -- one production for each kind of statement
  abbrev pub StmtNode : StmtLayer → List Lexeme → List Lexeme → Type 0
  StmtNode Stmt-F.Empty xs rest = Then (k.Op o.Semicolon) xs rest
  StmtNode (Stmt-F.Block all) xs rest = (ys : List Lexeme) × Then (k.Op o.LeftBrace) xs ys × Stmts all ys rest
  StmtNode (Stmt-F.Super at given) xs rest =
      (ys : List Lexeme) × (xs ≡ lexeme at (k.Word w.Super) ∷ ys) × (zs : List Lexeme) × Then (k.Op o.LeftParen) ys zs
      × (us : List Lexeme) × Args Part given zs us × Then (k.Op o.Semicolon) us rest
  StmtNode (Stmt-F.If c s other) xs rest =
      (ys : List Lexeme) × Then (k.Word w.If) xs ys × (zs : List Lexeme) × Condition c ys zs
      × (us : List Lexeme) × Inner false s zs us × Otherwise other us rest
  StmtNode (Stmt-F.While c s) xs rest =
      (ys : List Lexeme) × Then (k.Word w.While) xs ys × (zs : List Lexeme) × Condition c ys zs × Inner false s zs rest
  StmtNode (Stmt-F.DoWhile s c) xs rest =
      (ys : List Lexeme) × Then (k.Word w.Do) xs ys × (zs : List Lexeme) × Inner false s ys zs
      × (us : List Lexeme) × Then (k.Word w.While) zs us × (vs : List Lexeme) × Condition c us vs × Then (k.Op o.Semicolon) vs rest
  StmtNode (Stmt-F.For start c update s) xs rest =
      (ys : List Lexeme) × Then (k.Word w.For) xs ys × (zs : List Lexeme) × Then (k.Op o.LeftParen) ys zs
      × (us : List Lexeme) × Start Header start zs us × (vs : List Lexeme) × Ended c us vs
      × (ws : List Lexeme) × Simples Header o.RightParen update vs ws × Inner false s ws rest
  StmtNode (Stmt-F.Return at e) xs rest = (ys : List Lexeme) × (xs ≡ lexeme at (k.Word w.Return) ∷ ys) × Ended e ys rest
  StmtNode (Stmt-F.Break at) xs rest = (ys : List Lexeme) × (xs ≡ lexeme at (k.Word w.Break) ∷ ys) × Then (k.Op o.Semicolon) ys rest
  StmtNode (Stmt-F.Continue at) xs rest = (ys : List Lexeme) × (xs ≡ lexeme at (k.Word w.Continue) ∷ ys) × Then (k.Op o.Semicolon) ys rest
  StmtNode (Stmt-F.Throw e) xs rest =
      (ys : List Lexeme) × Then (k.Word w.Throw) xs ys × (zs : List Lexeme) × Part e 1 ys zs × Then (k.Op o.Semicolon) zs rest
  StmtNode (Stmt-F.Try body clauses last) xs rest =
      (ys : List Lexeme) × Then (k.Word w.Try) xs ys × (zs : List Lexeme) × IsBlock body ys zs
      × (us : List Lexeme) × Catches clauses zs us × Finally last us rest × (handles clauses last ≡ true)
  -- a declaration or a simple statement, and its semicolon
  StmtNode f xs rest = (ys : List Lexeme) × Unended Part f xs ys × Then (k.Op o.Semicolon) ys rest

-- The statement, of at most this height, is written at the front of the first list, directly in a block or not, and the
-- second stands after it.
unfoldable pub StmtWithin : ℕ → Bool → Stmt → List Lexeme → List Lexeme → Type 0
StmtWithin zero in_block s xs rest = ⊥
StmtWithin (suc n) in_block s xs rest =
    MayStand in_block (out-Stmt s) × StmtNode (Within n) (UnendedWithin n) (StmtWithin n) (out-Stmt s) xs rest
    × (local_type_height (out-Stmt s) ≤ n)
