-- What statements need to know of arguments.
use Rattle.std.proofs.Common.{ℕ, ◌≤◌, List}
use Rattle.java_syntax.specs.declared.expression.Expr.{Expr}
use Rattle.token_reading.specs.Lexeme.{Lexeme}
use Rattle.java_syntax.specs.Exprs.{Args, Within}
use Rattle.java_reading.specs.ReadExpr.{args, reading}
use Rattle.java_reading.proofs.Arguments.{args_goes}
use Rattle.java_reading.proofs.Claims.{ArgsDone, ArgsSound}
use Rattle.java_reading.proofs.Complete.{complete}
use Rattle.java_reading.proofs.Growing.{grown, args_map}
use Rattle.java_reading.proofs.Sound.{sound}
use Rattle.java_reading.proofs.SoundArgs.{args_sound}

pub record ArgsFacts : Type 0 where
  -- Arguments that are written are found, or they are higher than the budget.
  pub found : (n b : ℕ) (given : List Expr) (xs rest : List Lexeme) → Args (Within n) given xs rest → ArgsDone n b given xs rest
  -- What is read is written, and with a budget that is too small there are more tokens than the budget.
  pub sound : (b : ℕ) (xs : List Lexeme) → ArgsSound b xs (args (reading b) xs)
  -- Arguments of a height are of each greater height.
  pub grown : (n m : ℕ) → n ≤ m → (given : List Expr) (xs rest : List Lexeme) → Args (Within n) given xs rest → Args (Within m) given xs rest

-- what statements need to know of arguments
pub args_facts : ArgsFacts
args_facts = record {
  found = λ n b. args_goes n b (complete n);
  sound = λ b xs. args_sound b (reading b) (sound b) xs;
  grown = λ n m up. args_map (Within n) (Within m) (grown n m up);
}
