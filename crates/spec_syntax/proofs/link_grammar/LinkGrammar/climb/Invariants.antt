use Rattle.std.proofs.Common.{◌≡◌, suc, ◌+◌, ◌-◌, ◌≤◌}
use Rattle.spec_reading.specs.ReadLink.{link_climb, read_link}
use Rattle.spec_syntax.proofs.link_grammar.LinkGrammar.climb.Given as goal

abbrev pub invariant-loop-turn : goal.invariant-loop-turn
invariant-loop-turn g l =
    (link_climb l.self.parts (read_link l.self.parts) l.least (suc l.self.parts) l.fn.left l.fn.tokens
    ≡ link_climb l.self.parts (read_link l.self.parts) l.least (l.most - l._turn) l.left l.tokens)
    × (l.left.1 ≤ l.self.parts + 1)
