use Rattle.std.proofs.Common.{◌≡◌, drop, fold}
use Rattle.java_names.specs.Selectors.{with_selector}
use Rattle.java_names.proofs.selectors.add_all.Given as goal

abbrev pub invariant-loop-method : goal.invariant-loop-method
invariant-loop-method l = fold with_selector l.initial.selectors l.methods ≡ fold with_selector l.selectors (drop l.method-index l.methods)
