use Rattle.std.proofs.Common.{◌≡◌, ◌++◌, drop}
use Rattle.java_names.specs.Symbols.{maker_symbols}
use Rattle.java_names.proofs.makers.maker_symbols.Given as goal

abbrev pub invariant-loop-maker : goal.invariant-loop-maker
invariant-loop-maker l = maker_symbols l.names l.owner l.fn.number l.rows ≡ l.symbols ++ maker_symbols l.names l.owner l.next (drop l.maker-index l.rows)
