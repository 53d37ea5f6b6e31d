use Rattle.std.proofs.Common.{◌≡◌, length}
use Rattle.java_names.specs.Lookups.{nearest, method_at}
use Rattle.java_names.proofs.symbol.Symbols.method_along.Given as goal

abbrev pub invariant-loop-line : goal.invariant-loop-line
invariant-loop-line l = nearest (method_at l.self l.selector) l.fn.line ≡ nearest (method_at l.self l.selector) l.line

abbrev pub decreases-loop-line : goal.decreases-loop-line
decreases-loop-line l = length l.line
