use Rattle.std.proofs.Common.{◌≡◌, ◌++◌, drop}
use Rattle.clause_form.specs.Derivation.{after_cuts, clause_of}
use Rattle.derivation_check.proofs.replay.clause_of.Given as goal

-- what is left of the chain gives the line's clause
abbrev pub invariant-loop-cut : goal.invariant-loop-cut
invariant-loop-cut l = clause_of (l.fn.given ++ l.fn.made) l.fn.line ≡ after_cuts (l.fn.given ++ l.fn.made) l.clause (drop l.cut-index l.line.cuts.items)
