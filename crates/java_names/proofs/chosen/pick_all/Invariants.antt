use Rattle.std.proofs.Common.{◌≡◌, drop}
use Rattle.java_names.specs.Chosen.{completed, first_picked}
use Rattle.java_names.proofs.chosen.pick_all.Given as goal

abbrev pub invariant-loop-method : goal.invariant-loop-method
invariant-loop-method l = completed 0 l.picks (λ k. first_picked k (drop l.method-index l.methods)) ≡ completed 0 l.initial.picks (λ k. first_picked k l.methods)
