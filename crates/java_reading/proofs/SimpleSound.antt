-- Declarations and simple statements that are read are written.
use Rattle.std.proofs.Common.{◌≡◌, ℕ, zero, suc, ◌≤◌, ◌<◌, List, [], ◌∷◌, length, Bool, true, false, Option, Some, None, Ok, Err, refl, ◌∙◌, ap, arith}
use Rattle.java_tokens.specs.declared.token.Operator.{Operator}
use Rattle.java_tokens.specs.declared.token.Operator.TheVariants as o
use Rattle.java_tokens.specs.declared.token.TokenKind.{TokenKind}
use Rattle.java_tokens.specs.declared.token.TokenKind.TheVariants as k
use Rattle.java_syntax.specs.declared.expression.Expr.{Expr, out-Expr}
use Rattle.java_syntax.specs.declared.expression.Expr.TheOpen.{Expr-F}
use Rattle.java_syntax.specs.declared.operator.AssignOp.{AssignOp}
use Rattle.java_syntax.specs.declared.operator.AssignOp.TheVariants as assign
use Rattle.java_syntax.specs.declared.operator.Fix.TheVariants as fix
use Rattle.java_syntax.specs.declared.operator.StepOp.{StepOp}
use Rattle.java_syntax.specs.declared.operator.StepOp.TheVariants as step
use Rattle.java_syntax.specs.declared.statement.Stmt.{Stmt, out-Stmt}
use Rattle.java_syntax.specs.declared.statement.Stmt.TheVariants.{outs-Local, outs-Assign, outs-Step, outs-Eval}
use Rattle.token_reading.specs.Lexeme.{Lexeme, lexeme, Then, sees}
use Rattle.token_reading.specs.Height.{type_height}
use Rattle.java_syntax.specs.Exprs.{Layer, level, Within, Args}
use Rattle.java_syntax.specs.Stmts.{assign_sign, step_sign, is_declaration, Initial, IsLocal, Unended, local_type_height, UnendedWithin}
use Rattle.token_reading.specs.Outcome.{no_tree, too_high, Outcome}
use Rattle.token_reading.specs.ReadType.{next}
use Rattle.java_reading.specs.ReadExpr.{Tall, Talls, args, reading}
use Rattle.java_reading.specs.ReadStmt.{value, arguments, is_post, assign_operator, assign_by, assign_at, step_operator, step_by, step_at, initial, local, declaration, step_before, assignment, step_behind, stepped_by, assigned_by, evaluated, simple_by, simple, unended}
use Rattle.java_reading.proofs.ArgsFacts.{ArgsFacts}
use Rattle.java_reading.proofs.Claims.{Sound, ArgsSound}
use Rattle.java_reading.proofs.ExprFacts.{ExprFacts}
use Rattle.java_reading.proofs.Shorter.{args_length}
use Rattle.token_reading.proofs.Steps.{gives, gives_none, gives_high, gives_then, gives_map, gives_if}
use Rattle.token_reading.proofs.Given.{Takes, MayTake, ident_gives, type_gives, none_gives}
use Rattle.token_reading.proofs.Lexemes.{then_length, from_sees}

-- ---- signs

assign_operator_is : (s : Operator) (op : AssignOp) → assign_operator s ≡ Some op → s ≡ assign_sign op
assign_operator_is o.Assign op h = let same : assign.Assign ≡ op = cc in ap assign_sign same
assign_operator_is o.PlusAssign op h = let same : assign.Add ≡ op = cc in ap assign_sign same
assign_operator_is o.MinusAssign op h = let same : assign.Subtract ≡ op = cc in ap assign_sign same
assign_operator_is o.StarAssign op h = let same : assign.Multiply ≡ op = cc in ap assign_sign same
assign_operator_is o.SlashAssign op h = let same : assign.Divide ≡ op = cc in ap assign_sign same
assign_operator_is o.PercentAssign op h = let same : assign.Remainder ≡ op = cc in ap assign_sign same
assign_operator_is o.AndAssign op h = let same : assign.BitAnd ≡ op = cc in ap assign_sign same
assign_operator_is o.OrAssign op h = let same : assign.BitOr ≡ op = cc in ap assign_sign same
assign_operator_is o.XorAssign op h = let same : assign.BitXor ≡ op = cc in ap assign_sign same
assign_operator_is o.ShiftLeftAssign op h = let same : assign.ShiftLeft ≡ op = cc in ap assign_sign same
assign_operator_is o.ShiftRightAssign op h = let same : assign.ShiftRight ≡ op = cc in ap assign_sign same
assign_operator_is o.UnsignedShiftRightAssign op h = let same : assign.UnsignedShiftRight ≡ op = cc in ap assign_sign same
assign_operator_is _ op h = absurd (cc)

assign_kind : (x : Lexeme) (xs : List Lexeme) (op : AssignOp) (kd : TokenKind) → x.kind ≡ kd → assign_by kd ≡ Some op
    → Then (k.Op (assign_sign op)) (x ∷ xs) xs
assign_kind x xs op (k.Op s) is h = (x.at, ap (λ kd. lexeme x.at kd ∷ xs) (is ∙ ap k.Op (assign_operator_is s op h)))
assign_kind x xs op _ is h = absurd (cc)

from_assign : (op : AssignOp) (xs : List Lexeme) → assign_at xs ≡ Some op → Then (k.Op (assign_sign op)) xs (next xs)
from_assign op [] h = absurd (cc)
from_assign op (x ∷ xs) h = assign_kind x xs op x.kind refl h

step_operator_is : (s : Operator) (op : StepOp) → step_operator s ≡ Some op → s ≡ step_sign op
step_operator_is o.Increment op h = let same : step.Increment ≡ op = cc in ap step_sign same
step_operator_is o.Decrement op h = let same : step.Decrement ≡ op = cc in ap step_sign same
step_operator_is _ op h = absurd (cc)

step_kind : (x : Lexeme) (xs : List Lexeme) (op : StepOp) (kd : TokenKind) → x.kind ≡ kd → step_by kd ≡ Some op
    → Then (k.Op (step_sign op)) (x ∷ xs) xs
step_kind x xs op (k.Op s) is h = (x.at, ap (λ kd. lexeme x.at kd ∷ xs) (is ∙ ap k.Op (step_operator_is s op h)))
step_kind x xs op _ is h = absurd (cc)

from_step : (op : StepOp) (xs : List Lexeme) → step_at xs ≡ Some op → Then (k.Op (step_sign op)) xs (next xs)
from_step op [] h = absurd (cc)
from_step op (x ∷ xs) h = step_kind x xs op x.kind refl h

post_level : (f : Layer) → is_post f ≡ true → 14 ≤ level f
post_level (Expr-F.Unary at op a) h = absurd (cc)
post_level (Expr-F.Cast at t a) h = absurd (cc)
post_level (Expr-F.Binary op a b) h = absurd (cc)
post_level (Expr-F.InstanceOf a t) h = absurd (cc)
post_level (Expr-F.Conditional c a b) h = absurd (cc)
post_level _ h = omega arith

-- ---- expressions

module _ (facts : ExprFacts) (n : ℕ) where
  reading_gives : (xs : List Lexeme) (r : Outcome Tall) → Sound n 1 xs r → Takes (λ t xs ys. Within n t.0 1 xs ys) xs (n < length xs) r
  reading_gives xs (Ok p) s =
      let w = facts.grown p.0.1 n s.0.low p.0.0 1 xs p.1 s.0.tree in gives p.0 p.1 (w, facts.shorter n p.0.0 1 xs p.1 w)
  reading_gives xs (Err no_tree) s = gives_none
  reading_gives xs (Err too_high) s = gives_high s

  pub value_gives : (xs : List Lexeme) → Takes (λ e xs ys. Within n e 1 xs ys) xs (n < length xs) (value n xs)
  unfolding value
  value_gives xs = gives_then (reading_gives xs (reading n 1 xs) (facts.sound n xs)) (λ h. h) (λ t ys w. gives t.0 ys w)

  args_gives : ArgsFacts → (xs : List Lexeme) (r : Outcome Talls) → ArgsSound n xs r
      → Takes (λ t xs ys. Args (Within n) t.0 xs ys) xs (n < length xs) r
  args_gives args_facts xs (Ok p) s =
      let w = args_facts.grown p.0.1 n s.1 p.0.0 xs p.1 s.0 in gives p.0 p.1 (
        w,
        omega (arith, args_length (Within n) (facts.shorter n) p.0.0 xs p.1 w),
      )
  args_gives args_facts xs (Err no_tree) s = gives_none
  args_gives args_facts xs (Err too_high) s = gives_high s

  pub arguments_gives : ArgsFacts → (xs : List Lexeme) → Takes (Args (Within n)) xs (n < length xs) (arguments n xs)
  unfolding arguments
  arguments_gives args_facts xs =
      gives_then (args_gives args_facts xs (args (reading n) xs) (args_facts.sound n xs)) (λ h. h) (λ r ys w. gives r.0 ys w)

  post_within : (a : Expr) (xs ys : List Lexeme) → Within n a 1 xs ys → is_post (out-Expr a) ≡ true → Within n a 14 xs ys
  post_within a xs ys w h = facts.leveled n a 1 14 xs ys (post_level (out-Expr a) h) w

  -- ---- declarations

  pub initial_gives : (xs : List Lexeme) → MayTake (Initial (Within n)) xs (n < length xs) (initial (value n) xs)
  unfolding initial
  initial_gives xs =
      gives_if (sees o.Assign xs)
      (λ h. let t = from_sees o.Assign xs h in
      gives_then (value_gives (next xs)) (λ h. omega (arith, then_length _ xs (next xs) t))
      (λ e ys w. gives (Some e) ys ((next xs, t, w.0), omega (arith, w.1, then_length _ xs (next xs) t))))
      (λ h. gives None xs (refl, omega arith))

  local_gives : (xs : List Lexeme)
      → Takes (λ t xs ys. IsLocal (Within n) t xs ys × (type_height t.ty ≤ n)) xs (n < length xs) (local n (value n) xs)
  unfolding local
  local_gives xs =
      gives_then (type_gives n xs) (λ h. h) (λ t ys w. gives_then (ident_gives ys) (λ h. absurd h) (λ x zs named.
      gives_then (initial_gives zs) (λ h. omega (arith, w.1, named.1))
      (λ e us v. gives _ us (((ys, w.0.0, zs, named.0, v.0), w.0.1), omega (arith, w.1, named.1, v.1)))))

  -- a declaration or not, as the Bool says
  abbrev pub Short : Bool → Stmt → List Lexeme → List Lexeme → Type 0
  Short d t xs ys = (is_declaration (out-Stmt t) ≡ d) × Unended (Within n) (out-Stmt t) xs ys × (local_type_height (out-Stmt t) ≤ n)

  pub declaration_gives : (xs : List Lexeme) → Takes (Short true) xs (n < length xs) (declaration n (value n) xs)
  unfolding declaration
  declaration_gives xs = gives_then (local_gives xs) (λ h. h) (λ t ys w. gives _ ys (rw (outs-Local t) (refl, w.0.0, w.0.1), w.1))

  -- ---- simple statements

  before_gives : (op : StepOp) (xs ys : List Lexeme) → Then (k.Op (step_sign op)) xs ys
      → Takes (Short false) xs (n < length xs) (step_before (value n) op ys)
  unfolding step_before
  before_gives op xs ys t =
      gives_then (value_gives ys) (λ h. omega (arith, then_length _ xs ys t)) (λ a zs w. gives_if (is_post (out-Expr a))
      (λ h. gives _ zs (rw (outs-Step op fix.Before a) (refl, (ys, t, post_within a ys zs w.0 h), omega arith), omega (arith, w.1, then_length _ xs ys t)))
      (λ h. gives_none))

  assignment_gives : (a : Expr) (op : AssignOp) (xs ys zs : List Lexeme) → Within n a 1 xs ys → length ys < length xs
      → Then (k.Op (assign_sign op)) ys zs
      → Takes (Short false) xs (n < length xs) (assignment (value n) a op zs)
  unfolding assignment
  assignment_gives a op xs ys zs w less t =
      gives_if (is_post (out-Expr a))
      (λ h. gives_then (value_gives zs) (λ h. omega (arith, less, then_length _ ys zs t))
      (λ e us v. gives _ us (
        rw (outs-Assign a op e) (refl, (ys, post_within a xs ys w h, zs, t, v.0), omega arith),
        omega (arith, less, v.1, then_length _ ys zs t),
      )))
      (λ h. gives_none)

  behind_gives : (a : Expr) (op : StepOp) (xs ys zs : List Lexeme) → Within n a 1 xs ys → length ys < length xs → Then (k.Op (step_sign op)) ys zs
      → Takes (Short false) xs (n < length xs) (step_behind (value n) a op zs)
  unfolding step_behind
  behind_gives a op xs ys zs w less t =
      gives_if (is_post (out-Expr a))
      (λ h. gives _ zs (rw (outs-Step op fix.Behind a) (refl, (ys, post_within a xs ys w h, t), omega arith), omega (arith, less, then_length _ ys zs t)))
      (λ h. gives_none)

  stepped_gives : (a : Expr) (xs ys : List Lexeme) → Within n a 1 xs ys → length ys < length xs → (op : Option StepOp) → step_at ys ≡ op
      → Takes (Short false) xs (n < length xs) (stepped_by (value n) a op ys)
  stepped_gives a xs ys w less (Some op) is = behind_gives a op xs ys (next ys) w less (from_step op ys is)
  stepped_gives a xs ys w less None is = gives _ ys (rw (outs-Eval a) (refl, w, omega arith), less)

  assigned_gives : (a : Expr) (xs ys : List Lexeme) → Within n a 1 xs ys → length ys < length xs → (op : Option AssignOp) → assign_at ys ≡ op
      → Takes (Short false) xs (n < length xs) (assigned_by (value n) a op ys)
  assigned_gives a xs ys w less (Some op) is = assignment_gives a op xs ys (next ys) w less (from_assign op ys is)
  assigned_gives a xs ys w less None is = stepped_gives a xs ys w less (step_at ys) refl

  simple_by_gives : (xs : List Lexeme) (op : Option StepOp) → step_at xs ≡ op → Takes (Short false) xs (n < length xs) (simple_by (value n) op xs)
  unfolding evaluated
  simple_by_gives xs (Some op) is = before_gives op xs (next xs) (from_step op xs is)
  simple_by_gives xs None is =
      gives_then (value_gives xs) (λ h. h) (λ a ys w. assigned_gives a xs ys w.0 w.1 (assign_at ys) refl)

  pub simple_gives : (xs : List Lexeme) → Takes (Short false) xs (n < length xs) (simple (value n) xs)
  unfolding simple
  simple_gives xs = simple_by_gives xs (step_at xs) refl

-- ---- in the header of a `for`

abbrev pub Header : ℕ → Bool → Stmt → List Lexeme → List Lexeme → Type 0
Header n d t xs ys = (is_declaration (out-Stmt t) ≡ d) × UnendedWithin n t xs ys

pub unended_gives : ExprFacts → (n : ℕ) (d : Bool) (xs : List Lexeme) → Takes (Header n d) xs (n ≤ length xs) (unended n d xs)
unfolding unended UnendedWithin
unended_gives facts zero d xs = gives_map (λ t ys w. w) (λ h. omega arith) (none_gives xs)
unended_gives facts (suc n) true xs = gives_map (λ t ys w. ((w.0.0, (w.0.1, w.0.2)), w.1)) (λ h. omega arith) (declaration_gives facts n xs)
unended_gives facts (suc n) false xs = gives_map (λ t ys w. ((w.0.0, (w.0.1, w.0.2)), w.1)) (λ h. omega arith) (simple_gives facts n xs)
