use Rattle.std.proofs.Common.{◌≡◌, ◌-◌, ◌≤◌, [], length}
use Rattle.java_reading.specs.ReadExpr.{reading, more_args}
use Rattle.java_parse.proofs.grammar.Grammar.more_args.Given as goal

abbrev pub invariant-loop-turn : goal.invariant-loop-turn
invariant-loop-turn g l =
    (more_args (reading l.self.parts) (length l.fn.tokens) [] 0 l.fn.tokens ≡ more_args (reading l.self.parts) (l._turn-end - l._turn) l.found l.height l.tokens)
    × (l.height ≤ l.self.parts)
