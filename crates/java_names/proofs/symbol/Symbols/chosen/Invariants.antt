use Rattle.std.proofs.Common.{◌≡◌, drop}
use Rattle.java_names.specs.Lookups.{nearest}
use Rattle.java_names.specs.Chosen.{completed, first_picked, methods_at, chosen_of}
use Rattle.java_names.proofs.symbol.Symbols.chosen.Given as goal

abbrev pub invariant-loop-above : goal.invariant-loop-above
invariant-loop-above l = completed 0 l.picks (λ k. nearest (λ d. first_picked k (methods_at l.self d)) (drop l.above-index l.above-items)) ≡ chosen_of l.self l.class
