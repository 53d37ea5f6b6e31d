use Rattle.std.proofs.Common.{◌≡◌, suc, ◌+◌, ◌-◌, ◌≤◌}
use Rattle.java_reading.specs.ReadExpr.{reading, climb}
use Rattle.java_parse.proofs.grammar.Grammar.climb.Given as goal

abbrev pub invariant-loop-turn : goal.invariant-loop-turn
invariant-loop-turn g l =
    (climb l.self.parts (reading l.self.parts) l.least (suc l.self.parts) l.fn.left l.fn.tokens
    ≡ climb l.self.parts (reading l.self.parts) l.least (l.most - l._turn) l.left l.tokens)
    × (l.left.1 ≤ l.self.parts + 1)
