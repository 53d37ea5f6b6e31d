-- What reading gives where a tree is written, and what is written where reading gives it.
use Rattle.std.proofs.Common.{◌≡◌, ℕ, suc, ◌+◌, ◌≤◌, ◌<◌, List, length, Ok, Err}
use Rattle.java_syntax.specs.declared.expression.Expr.{Expr, out-Expr}
use Rattle.token_reading.specs.Lexeme.{Lexeme}
use Rattle.java_syntax.specs.Exprs.{Within, Args}
use Rattle.token_reading.specs.Outcome.{no_tree, too_high, Outcome}
use Rattle.java_reading.specs.ReadExpr.{Tall, Talls, follows, args, climb, reading}
use Rattle.java_reading.proofs.Levels.{after}

-- Reading with the budget b gives the tree e of height n or less, or e is higher than b.
pub data Done (n b l : ℕ) (e : Expr) (xs rest : List Lexeme) : Type 0 where
  done : (h : ℕ) → h ≤ n → h ≤ b → reading b l xs ≡ Ok ((e, h), rest) → Done n b l e xs rest
  over : b < n → reading b l xs ≡ Err too_high → Done n b l e xs rest

-- Reading with a budget of one more than b comes to the tree e as a left operand, or e is higher than that.
pub data Goes (n b l : ℕ) (e : Expr) (xs rest : List Lexeme) : Type 0 where
  goes : (h fuel : ℕ) → h ≤ n → h ≤ suc b → suc b < fuel + h
      → reading (suc b) l xs ≡ climb b (reading b) l fuel (e, h) rest → Goes n b l e xs rest
  higher : suc b < n → reading (suc b) l xs ≡ Err too_high → Goes n b l e xs rest

-- The same of arguments, with the greatest of their heights.
pub data ArgsDone (n b : ℕ) (given : List Expr) (xs rest : List Lexeme) : Type 0 where
  args_done : (h : ℕ) → h ≤ n → h ≤ b → args (reading b) xs ≡ Ok ((given, h), rest) → ArgsDone n b given xs rest
  args_over : b < n → args (reading b) xs ≡ Err too_high → ArgsDone n b given xs rest

-- The tree t is written at the front of xs as one of level l, within the budget, and each level of it takes a token.
pub record Written (b l : ℕ) (xs : List Lexeme) (t : Tall) (rest : List Lexeme) : Type 0 where
  pub tree : Within t.1 t.0 l xs rest
  pub low : t.1 ≤ b
  pub taken : t.1 + length rest ≤ length xs
  pub stop : follows rest ≤ after (out-Expr t.0)

-- a whole tree of the level, or why there is none
abbrev pub Sound : ℕ → ℕ → List Lexeme → Outcome Tall → Type 0
Sound b l xs (Ok p) = Written b l xs p.0 p.1 × (follows p.1 < l)
Sound b l xs (Err too_high) = b < length xs
Sound b l xs (Err no_tree) = Unit {0}

-- a left operand, or why there is none
abbrev pub Left : ℕ → ℕ → List Lexeme → Outcome Tall → Type 0
Left b l xs (Ok p) = Written b l xs p.0 p.1
Left b l xs (Err too_high) = b < length xs
Left b l xs (Err no_tree) = Unit {0}

-- a left operand higher than before
abbrev pub Higher : ℕ → ℕ → List Lexeme → ℕ → Outcome Tall → Type 0
Higher b l xs h (Ok p) = Written b l xs p.0 p.1 × (h < p.0.1)
Higher b l xs h (Err too_high) = b < length xs
Higher b l xs h (Err no_tree) = Unit {0}

-- arguments and the greatest of their heights
abbrev pub ArgsSound : ℕ → List Lexeme → Outcome Talls → Type 0
ArgsSound b xs (Ok p) = Args (Within p.0.1) p.0.0 xs p.1 × (p.0.1 ≤ b) × (p.0.1 + length p.1 < length xs)
ArgsSound b xs (Err too_high) = b < length xs
ArgsSound b xs (Err no_tree) = Unit {0}
