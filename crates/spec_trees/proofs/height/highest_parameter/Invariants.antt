use Rattle.std.proofs.Common.{◌≡◌, max, map, drop}
use Rattle.token_reading.specs.Height.{highest, param_height, params_height}
use Rattle.spec_trees.proofs.height.highest_parameter.Given as goal

abbrev pub invariant-loop-param : goal.invariant-loop-param
invariant-loop-param l = max l.height (highest (map param_height (drop l.param-index l.params))) ≡ params_height l.params
