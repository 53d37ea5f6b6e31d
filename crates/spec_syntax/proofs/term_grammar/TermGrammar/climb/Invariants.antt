use Rattle.std.proofs.Common.{◌≡◌, suc, ◌+◌, ◌-◌, ◌≤◌}
use Rattle.spec_reading.specs.ReadLink.{read_link}
use Rattle.spec_reading.specs.ReadTerm.{term_climb, read_term}
use Rattle.spec_syntax.proofs.term_grammar.TermGrammar.climb.Given as goal

abbrev pub invariant-loop-turn : goal.invariant-loop-turn
invariant-loop-turn g l =
    (term_climb l.self.parts (read_term l.self.parts) (read_link l.self.parts 4) l.least (suc l.self.parts) l.fn.left l.fn.tokens
    ≡ term_climb l.self.parts (read_term l.self.parts) (read_link l.self.parts 4) l.least (l.most - l._turn) l.left l.tokens)
    × (l.left.1 ≤ l.self.parts + 1)
