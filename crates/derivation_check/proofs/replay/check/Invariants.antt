use Rattle.std.proofs.Common.{◌≡◌, ℕ, Bool, drop, length}
use Rattle.clause_form.specs.Clauses.{Holds}
use Rattle.clause_form.specs.Derivation.{derived_after, derived}
use Rattle.derivation_check.proofs.replay.check.Given as goal

abbrev pub invariant-loop-line : goal.invariant-loop-line
invariant-loop-line l = record {
  count : l.number ≡ l.line-index;
  made_so_far : length l.made.items ≡ l.line-index;
  rest : derived l.clauses.clauses.items l.log
      ≡ derived_after l.clauses.clauses.items l.made.items (drop l.line-index l.log);
  follows : (a : ℕ → Bool) → Holds l.clauses.clauses.items a → Holds l.made.items a;
}
