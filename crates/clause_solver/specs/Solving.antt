-- What an answer shows, and what is kept on the way to it.
use Rattle.std.specs.Prelude.{ℕ, ◌≡◌, Bool, ℤ, List, ◌++◌, length, Ok}
use Rattle.clause_form.specs.Derivation.{derived, EachAdds}
use Rattle.clause_form.specs.declared.derivation.Line.{Line}
use Rattle.clause_solver.specs.declared.solved.Solved.{Solved}
use Rattle.clause_solver.specs.declared.solved.Solved.TheVariants as answers

-- this of the values, where the answer is an assignment
abbrev pub OnSat : Solved → (List Bool → Type 0) → Type 0
OnSat (answers.Sat values) P = P values.items
OnSat (answers.Unsat log) P = Unit {0}
OnSat (answers.Spent log) P = Unit {0}

-- this of the log, where the answer is that no assignment satisfies the clauses
abbrev pub OnUnsat : Solved → (List Line → Type 0) → Type 0
OnUnsat (answers.Sat values) P = Unit {0}
OnUnsat (answers.Unsat log) P = P log.items
OnUnsat (answers.Spent log) P = Unit {0}

-- this of the log, where the answer is that the limit is used up
abbrev pub OnSpent : Solved → (List Line → Type 0) → Type 0
OnSpent (answers.Sat values) P = Unit {0}
OnSpent (answers.Unsat log) P = Unit {0}
OnSpent (answers.Spent log) P = P log.items

-- that many lines made the clauses after the given ones, and each of these adds to those before it
pub record IsLog (given now : List (List ℤ)) (log : List Line) (count : ℕ) : Type 0 where
  pub made : List (List ℤ)
  pub all : now ≡ given ++ made
  pub derived_so : derived given log ≡ Ok made
  pub clauses : length made ≡ count
  pub lines : length log ≡ count
  pub each_adds : EachAdds given made
