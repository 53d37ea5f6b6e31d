use Rattle.std.proofs.Common.{rules, arith}
use Rattle.std.proofs.lemmas.Grind.{common_steps}
use Rattle.spec_reading.specs.ReadTerm.{read_term, more_terms}
use Rattle.token_reading.proofs.Turns.{one_more}
use Rattle.spec_syntax.proofs.term_grammar.TermGrammar.more_terms.Goals as goal

pub returns-then-not-eat-clause-reads : goal.returns-then-not-eat-clause-reads
unfolding more_terms
returns-then-not-eat-clause-reads g c =
    let e = one_more (λ n. more_terms (read_term c.args.self.now.parts) n c.loop-turn.found c.loop-turn.height c.loop-turn.tokens) _ c.loop-turn._turn c.loop-turn-test.true c.loop-turn.invariant.0 in
    first_of (search rules, grind (arith, common_steps))

pub loop-turn-preserved : goal.loop-turn-preserved
unfolding more_terms
loop-turn-preserved g c =
    let e = one_more (λ n. more_terms (read_term c.args.self.now.parts) n c.loop-turn.found c.loop-turn.height c.loop-turn.tokens) _ c.loop-turn._turn c.loop-turn-test.true c.loop-turn.invariant.0 in
    (first_of (search rules, grind (arith, common_steps)), first_of (search rules, grind (arith, common_steps)))

pub returns-in_err-expect-clause-reads : goal.returns-in_err-expect-clause-reads
unfolding more_terms
returns-in_err-expect-clause-reads g c =
    let e = one_more (λ n. more_terms (read_term c.args.self.now.parts) n c.loop-turn.found c.loop-turn.height c.loop-turn.tokens) _ c.loop-turn._turn c.loop-turn-test.true c.loop-turn.invariant.0 in
    first_of (search rules, grind (arith, common_steps))
