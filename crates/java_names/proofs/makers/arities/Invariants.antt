use Rattle.std.proofs.Common.{◌≡◌, ◌++◌, drop}
use Rattle.java_names.specs.Symbols.{maker_arities}
use Rattle.java_names.proofs.makers.arities.Given as goal

abbrev pub invariant-loop-maker : goal.invariant-loop-maker
invariant-loop-maker l = maker_arities l.rows ≡ l.keys ++ maker_arities (drop l.maker-index l.rows)
