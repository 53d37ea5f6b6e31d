use Rattle.std.proofs.Common.{◌≡◌, ℕ, sym, subst, arith}
use Rattle.token_reading.specs.Reads.{Fails}
use Rattle.token_reading.proofs.Nothing.{no_part}
use Rattle.token_reading.proofs.Turns.{deeper}
use Rattle.spec_reading.specs.ReadTerm.{read_term}
use Rattle.spec_syntax.proofs.term_grammar.+read_term.Goals as goal

pub returns-then-most-eq0-clause-reads : goal.returns-then-most-eq0-clause-reads
unfolding read_term
returns-then-most-eq0-clause-reads t c =
    let none : c.args.most ≡ 0 = omega arith in
    subst (λ (n : ℕ). Fails (read_term n c.args.least c.args.tokens.now) c.too_high.result) (sym none)
    (rw c.too_high.ensures (no_part _ c.args.tokens.now))

pub returns-clause-reads : goal.returns-clause-reads
unfolding read_term
returns-clause-reads t c =
    rw (deeper (λ n. read_term n c.args.least c.args.tokens.now) c.args.most (omega arith)) c.precedence.ensures.reads
