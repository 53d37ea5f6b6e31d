use Rattle.std.proofs.Common.{◌≡◌, length}
use Rattle.java_names.specs.Lookups.{nearest, field_at}
use Rattle.java_names.proofs.symbol.Symbols.field_along.Given as goal

abbrev pub invariant-loop-line : goal.invariant-loop-line
invariant-loop-line l = nearest (field_at l.self l.name) l.fn.line ≡ nearest (field_at l.self l.name) l.line

abbrev pub decreases-loop-line : goal.decreases-loop-line
decreases-loop-line l = length l.line
