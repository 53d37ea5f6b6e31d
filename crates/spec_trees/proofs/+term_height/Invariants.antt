use Rattle.std.proofs.Common.{◌≡◌, max, map, drop}
use Rattle.token_reading.specs.Height.{highest}
use Rattle.spec_trees.specs.Height.{term_height}
use Rattle.spec_trees.proofs.+term_height.Given as goal

abbrev pub invariant-height::highest_term-loop-term : goal.invariant-height::highest_term-loop-term
invariant-height::highest_term-loop-term l =
    max l.height (highest (map term_height (drop l.term-index l.terms))) ≡ highest (map term_height l.terms)
