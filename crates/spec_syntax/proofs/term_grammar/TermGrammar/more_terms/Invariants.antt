use Rattle.std.proofs.Common.{◌≡◌, ◌-◌, ◌≤◌, [], length}
use Rattle.spec_reading.specs.ReadTerm.{read_term, more_terms}
use Rattle.spec_syntax.proofs.term_grammar.TermGrammar.more_terms.Given as goal

abbrev pub invariant-loop-turn : goal.invariant-loop-turn
invariant-loop-turn g l =
    (more_terms (read_term l.self.parts) (length l.fn.tokens) [] 0 l.fn.tokens ≡ more_terms (read_term l.self.parts) (l._turn-end - l._turn) l.found l.height l.tokens)
    × (l.height ≤ l.self.parts)
