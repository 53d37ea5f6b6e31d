-- Reading of statements, as functions on lists.
use Rattle.std.specs.Prelude.{ℕ, zero, suc, if◌then◌else◌, List, [], ◌∷◌, ◌++◌, length, Bool, true, false, Option, Some, None, Ok, Err}
use Rattle.java_tokens.specs.declared.token.Keyword.{Keyword}
use Rattle.java_tokens.specs.declared.token.Keyword.TheVariants as w
use Rattle.java_tokens.specs.declared.token.Operator.{Operator}
use Rattle.java_tokens.specs.declared.token.Operator.TheVariants as o
use Rattle.java_tokens.specs.declared.token.TokenKind.{TokenKind}
use Rattle.java_tokens.specs.declared.token.TokenKind.TheVariants as k
use Rattle.java_syntax.specs.declared.expression.Expr.{Expr, out-Expr}
use Rattle.java_syntax.specs.declared.expression.Expr.TheOpen.{Expr-F}
use Rattle.token_reading.specs.declared.name.Ident.{Ident}
use Rattle.token_reading.specs.declared.name.TypeTree.{TypeTree}
use Rattle.java_syntax.specs.declared.operator.AssignOp.{AssignOp}
use Rattle.java_syntax.specs.declared.operator.AssignOp.TheVariants as assign
use Rattle.java_syntax.specs.declared.operator.Fix.TheVariants as fix
use Rattle.java_syntax.specs.declared.operator.StepOp.{StepOp}
use Rattle.java_syntax.specs.declared.operator.StepOp.TheVariants as step
use Rattle.java_syntax.specs.declared.statement.CatchTree.{CatchTree, roll-CatchTree}
use Rattle.java_syntax.specs.declared.statement.LocalTree.{LocalTree}
use Rattle.java_syntax.specs.declared.statement.Stmt.{Stmt}
use Rattle.java_syntax.specs.declared.statement.Stmt.TheVariants as s
use Rattle.token_reading.specs.Lexeme.{Lexeme, sees, sees_word}
use Rattle.java_syntax.specs.Exprs.{Layer}
use Rattle.java_syntax.specs.Stmts.{handles}
use Rattle.token_reading.specs.Outcome.{no_tree, Parser, ◌>>=◌}
use Rattle.token_reading.specs.ReadType.{next, expect, expect_word, none_fits, ident, type_tree}
use Rattle.java_reading.specs.ReadExpr.{args, reading}
use Rattle.java_reading.specs.Lookahead.{is_local}

-- ---- expressions in statements, without their heights

-- an expression of at most this height
unfoldable pub value : ℕ → Parser Expr
value n xs = reading n 1 xs >>= (λ t ys. Ok (t.0, ys))

-- arguments of at most this height and the closing parenthesis
unfoldable pub arguments : ℕ → Parser (List Expr)
arguments n xs = args (reading n) xs >>= (λ r ys. Ok (r.0, ys))

-- what can stand before a sign of assignment, as far as the grammar goes
abbrev pub is_post : Layer → Bool
is_post (Expr-F.Unary at op a) = false
is_post (Expr-F.Cast at t a) = false
is_post (Expr-F.Binary op a b) = false
is_post (Expr-F.InstanceOf a t) = false
is_post (Expr-F.Conditional c a b) = false
is_post _ = true

-- ---- signs

abbrev pub assign_operator : Operator → Option AssignOp
assign_operator o.Assign = Some assign.Assign
assign_operator o.PlusAssign = Some assign.Add
assign_operator o.MinusAssign = Some assign.Subtract
assign_operator o.StarAssign = Some assign.Multiply
assign_operator o.SlashAssign = Some assign.Divide
assign_operator o.PercentAssign = Some assign.Remainder
assign_operator o.AndAssign = Some assign.BitAnd
assign_operator o.OrAssign = Some assign.BitOr
assign_operator o.XorAssign = Some assign.BitXor
assign_operator o.ShiftLeftAssign = Some assign.ShiftLeft
assign_operator o.ShiftRightAssign = Some assign.ShiftRight
assign_operator o.UnsignedShiftRightAssign = Some assign.UnsignedShiftRight
assign_operator _ = None

abbrev pub assign_by : TokenKind → Option AssignOp
assign_by (k.Op sign) = assign_operator sign
assign_by _ = None

-- the sign of assignment that comes first
abbrev pub assign_at : List Lexeme → Option AssignOp
assign_at [] = None
assign_at (x ∷ xs) = assign_by x.kind

abbrev pub step_operator : Operator → Option StepOp
step_operator o.Increment = Some step.Increment
step_operator o.Decrement = Some step.Decrement
step_operator _ = None

abbrev pub step_by : TokenKind → Option StepOp
step_by (k.Op sign) = step_operator sign
step_by _ = None

-- the `++` or `--` that comes first
abbrev pub step_at : List Lexeme → Option StepOp
step_at [] = None
step_at (x ∷ xs) = step_by x.kind

abbrev pub local_of : TypeTree → Ident → Option Expr → LocalTree
local_of t name value = record { ty = t; name = name; value = value }

abbrev pub catch_clause : Ident → Ident → Stmt → CatchTree
catch_clause class name body = roll-CatchTree (record { class = class; name = name; body = body })

-- ---- declarations and simple statements, without their semicolons. `value` reads an expression that is lower than the
-- whole.

module _ (value : Parser Expr) where
  -- an initial value with its `=`, or nothing
  unfoldable pub initial : Parser (Option Expr)
  initial xs = if sees o.Assign xs then (value (next xs) >>= (λ e ys. Ok (Some e, ys))) else Ok (None, xs)

  -- after the `++` or `--` before its operand
  unfoldable pub step_before : StepOp → Parser Stmt
  step_before op xs = value xs >>= (λ a ys. if is_post (out-Expr a) then Ok (s.Step op fix.Before a, ys) else Err no_tree)

  -- after an operand and its sign of assignment
  unfoldable pub assignment : Expr → AssignOp → Parser Stmt
  assignment a op xs = if is_post (out-Expr a) then (value xs >>= (λ e ys. Ok (s.Assign a op e, ys))) else Err no_tree

  -- after an operand and its `++` or `--`
  unfoldable pub step_behind : Expr → StepOp → Parser Stmt
  step_behind a op xs = if is_post (out-Expr a) then Ok (s.Step op fix.Behind a, xs) else Err no_tree

  abbrev pub stepped_by : Expr → Option StepOp → Parser Stmt
  stepped_by a (Some op) xs = step_behind a op (next xs)
  stepped_by a None xs = Ok (s.Eval a, xs)

  abbrev pub assigned_by : Expr → Option AssignOp → Parser Stmt
  assigned_by a (Some op) xs = assignment a op (next xs)
  assigned_by a None xs = stepped_by a (step_at xs) xs

  -- after an expression with which the statement begins
  unfoldable pub evaluated : Expr → Parser Stmt
  evaluated a xs = assigned_by a (assign_at xs) xs

  abbrev pub simple_by : Option StepOp → Parser Stmt
  simple_by (Some op) xs = step_before op (next xs)
  simple_by None xs = value xs >>= evaluated

  unfoldable pub simple : Parser Stmt
  simple xs = simple_by (step_at xs) xs

-- a declaration whose type has at most this height
unfoldable pub local : ℕ → Parser Expr → Parser LocalTree
local n value xs =
    type_tree n xs >>= (λ t ys. ident ys >>= (λ x zs. initial value zs >>= (λ e us. Ok (local_of t x e, us))))

unfoldable pub declaration : ℕ → Parser Expr → Parser Stmt
declaration n value xs = local n value xs >>= (λ t ys. Ok (s.Local t, ys))

-- one of the two, of at most this height
unfoldable pub unended : ℕ → Bool → Parser Stmt
unended zero declares xs = none_fits xs
unended (suc n) true xs = declaration n (value n) xs
unended (suc n) false xs = simple (value n) xs

-- ---- statements. `header` reads a declaration or a simple statement without its semicolon, and `part` a statement, directly
-- in a block or not, that is lower than the whole.

module _ (value : Parser Expr) (arguments : Parser (List Expr)) (header part : Bool → Parser Stmt) where
  -- statements and the closing brace, after those that are found; the number bounds the turns
  unfoldable pub stmts : ℕ → List Stmt → Parser (List Stmt)
  stmts zero found xs = Err no_tree
  stmts (suc n) found xs =
      if sees o.RightBrace xs then Ok (found, next xs) else (part true xs >>= (λ a ys. stmts n (found ++ a ∷ []) ys))

  -- after the opening brace
  unfoldable pub block : Parser Stmt
  block xs = stmts (length xs) [] xs >>= (λ all ys. Ok (s.Block all, ys))

  -- a part that is a block
  unfoldable pub inner_block : Parser Stmt
  inner_block xs = if sees o.LeftBrace xs then part false xs else Err no_tree

  -- a condition in its parentheses
  unfoldable pub condition : Parser Expr
  condition xs = expect o.LeftParen xs >>= (λ _ ys. value ys >>= (λ e zs. expect o.RightParen zs >>= (λ _ us. Ok (e, us))))

  -- an expression or nothing, and the semicolon
  unfoldable pub ended : Parser (Option Expr)
  ended xs =
      if sees o.Semicolon xs then Ok (None, next xs)
      else (value xs >>= (λ e ys. expect o.Semicolon ys >>= (λ _ zs. Ok (Some e, zs))))

  -- ---- after the keyword

  unfoldable pub otherwise : Parser (Option Stmt)
  otherwise xs = if sees_word w.Else xs then (part false (next xs) >>= (λ t ys. Ok (Some t, ys))) else Ok (None, xs)

  unfoldable pub if_stmt : Parser Stmt
  if_stmt xs = condition xs >>= (λ c ys. part false ys >>= (λ t zs. otherwise zs >>= (λ other us. Ok (s.If c t other, us))))

  unfoldable pub while_stmt : Parser Stmt
  while_stmt xs = condition xs >>= (λ c ys. part false ys >>= (λ t zs. Ok (s.While c t, zs)))

  unfoldable pub do_stmt : Parser Stmt
  do_stmt xs =
      part false xs >>= (λ t ys. expect_word w.While ys >>= (λ _ zs. condition zs >>= (λ c us. expect o.Semicolon us >>= (λ _ vs.
      Ok (s.DoWhile t c, vs)))))

  -- further simple statements and the token that closes the list, after those that are found
  unfoldable pub more_simples : Operator → ℕ → List Stmt → Parser (List Stmt)
  more_simples close zero found xs = Err no_tree
  more_simples close (suc n) found xs =
      header false xs >>= (λ a ys.
      if sees o.Comma ys then more_simples close n (found ++ a ∷ []) (next ys)
      else (expect close ys >>= (λ _ zs. Ok (found ++ a ∷ [], zs))))

  unfoldable pub simples : Operator → Parser (List Stmt)
  simples close xs = if sees close xs then Ok ([], next xs) else more_simples close (length xs) [] xs

  -- the start of a `for` and its semicolon
  unfoldable pub start : Parser (List Stmt)
  start xs =
      if is_local xs then (header true xs >>= (λ t ys. expect o.Semicolon ys >>= (λ _ zs. Ok (t ∷ [], zs))))
      else simples o.Semicolon xs

  unfoldable pub for_stmt : Parser Stmt
  for_stmt xs =
      expect o.LeftParen xs >>= (λ _ ys. start ys >>= (λ first zs. ended zs >>= (λ c us. simples o.RightParen us >>= (λ update vs.
      part false vs >>= (λ t ws. Ok (s.For first c update t, ws))))))

  unfoldable pub return_stmt : ℕ → Parser Stmt
  return_stmt at xs = ended xs >>= (λ e ys. Ok (s.Return at e, ys))

  unfoldable pub throw_stmt : Parser Stmt
  throw_stmt xs = value xs >>= (λ e ys. expect o.Semicolon ys >>= (λ _ zs. Ok (s.Throw e, zs)))

  unfoldable pub super_stmt : ℕ → Parser Stmt
  super_stmt at xs =
      expect o.LeftParen xs >>= (λ _ ys. arguments ys >>= (λ given zs. expect o.Semicolon zs >>= (λ _ us. Ok (s.Super at given, us))))

  -- ---- the parts of a `try`

  -- after `catch`
  unfoldable pub catch : Parser CatchTree
  catch xs =
      expect o.LeftParen xs >>= (λ _ ys. ident ys >>= (λ class zs. ident zs >>= (λ name us. expect o.RightParen us >>= (λ _ vs.
      inner_block vs >>= (λ body ws. Ok (catch_clause class name body, ws))))))

  -- the catch clauses, after those that are found
  unfoldable pub catches : ℕ → List CatchTree → Parser (List CatchTree)
  catches zero found xs = if sees_word w.Catch xs then Err no_tree else Ok (found, xs)
  catches (suc n) found xs =
      if sees_word w.Catch xs then (catch (next xs) >>= (λ c ys. catches n (found ++ c ∷ []) ys)) else Ok (found, xs)

  unfoldable pub finally : Parser (Option Stmt)
  finally xs = if sees_word w.Finally xs then (inner_block (next xs) >>= (λ t ys. Ok (Some t, ys))) else Ok (None, xs)

  unfoldable pub try_stmt : Parser Stmt
  try_stmt xs =
      inner_block xs >>= (λ body ys. catches (length ys) [] ys >>= (λ clauses zs. finally zs >>= (λ last us.
      if handles clauses last then Ok (s.Try body clauses last, us) else Err no_tree)))

  -- ---- any statement

  -- a simple statement and its semicolon
  unfoldable pub simple_stmt : Parser Stmt
  simple_stmt xs = simple value xs >>= (λ t ys. expect o.Semicolon ys >>= (λ _ zs. Ok (t, zs)))

  abbrev pub word_stmt : Keyword → ℕ → List Lexeme → Parser Stmt
  word_stmt w.If at whole xs = if_stmt xs
  word_stmt w.While at whole xs = while_stmt xs
  word_stmt w.Do at whole xs = do_stmt xs
  word_stmt w.For at whole xs = for_stmt xs
  word_stmt w.Return at whole xs = return_stmt at xs
  word_stmt w.Break at whole xs = expect o.Semicolon xs >>= (λ _ ys. Ok (s.Break at, ys))
  word_stmt w.Continue at whole xs = expect o.Semicolon xs >>= (λ _ ys. Ok (s.Continue at, ys))
  word_stmt w.Throw at whole xs = throw_stmt xs
  word_stmt w.Try at whole xs = try_stmt xs
  word_stmt w.Super at whole xs = if sees o.LeftParen xs then super_stmt at xs else simple_stmt whole
  word_stmt _ at whole xs = simple_stmt whole

  abbrev pub stmt_by : TokenKind → ℕ → List Lexeme → Parser Stmt
  stmt_by (k.Word word) at whole xs = word_stmt word at whole xs
  stmt_by (k.Op o.LeftBrace) at whole xs = block xs
  stmt_by (k.Op o.Semicolon) at whole xs = Ok (s.Empty, xs)
  stmt_by _ at whole xs = simple_stmt whole

  -- a statement that is no declaration
  unfoldable pub plain_stmt : Parser Stmt
  plain_stmt [] = Err no_tree
  plain_stmt (x ∷ xs) = stmt_by x.kind x.at (x ∷ xs) xs

-- ---- the same, where a declaration may come first, whose type has the height n at most

module _ (n : ℕ) (value : Parser Expr) (arguments : Parser (List Expr)) (header part : Bool → Parser Stmt) where
  -- a declaration and its semicolon
  unfoldable pub local_stmt : Parser Stmt
  local_stmt xs = declaration n value xs >>= (λ t ys. expect o.Semicolon ys >>= (λ _ zs. Ok (t, zs)))

  unfoldable pub stmt : Bool → Parser Stmt
  stmt in_block xs =
      if is_local xs then (if in_block then local_stmt xs else Err no_tree) else plain_stmt value arguments header part xs

-- a statement of at most this height, directly in a block or not
unfoldable pub statement : ℕ → Bool → Parser Stmt
statement zero in_block xs = none_fits xs
statement (suc n) in_block xs = stmt n (value n) (arguments n) (unended n) (statement n) in_block xs

-- statements of at most this height and the closing brace, after the opening one
unfoldable pub body : ℕ → Parser (List Stmt)
body n xs = stmts (value n) (arguments n) (unended n) (statement n) (length xs) [] xs
