use Rattle.std.proofs.Common.{◌≡◌, suc, ◌+◌, ◌-◌, ap, arith, refl, rules, sym}
use Rattle.std.proofs.lemmas.Grind.{common_steps}
use Rattle.spec_reading.specs.ReadLink.{link_climb, read_link}
use Rattle.token_reading.proofs.Tests.{below, not_below}
use Rattle.token_reading.proofs.Sequence.{failed, first}
use Rattle.token_reading.proofs.Turns.{no_more, one_more}
use Rattle.spec_syntax.proofs.link_grammar.LinkGrammar.climb.Goals as goal

pub returns-then-left-most-clause-reads : goal.returns-then-left-most-clause-reads
unfolding link_climb
returns-then-left-most-clause-reads g c =
    let p = c.args.self.now.parts in
    let e = one_more (λ n. link_climb p (read_link p) c.args.least n c.loop-turn.left c.loop-turn.tokens) _ c.loop-turn._turn c.loop-turn-test.true c.loop-turn.invariant.0 in
    rw (
      e,
      sym c.link_op_at-op.ensures,
      sym c.link_binds.ensures.value,
      not_below _ _ c.if-link_binds-least.false,
      not_below c.loop-turn.left.1 (suc p) (omega (arith, c.if-left-most.true)),
    )
    refl

pub returns-in_err-left-clause-reads : goal.returns-in_err-left-clause-reads
unfolding link_climb
returns-in_err-left-clause-reads g c =
    let p = c.args.self.now.parts in
    let e = one_more (λ n. link_climb p (read_link p) c.args.least n c.loop-turn.left c.loop-turn.tokens) _ c.loop-turn._turn c.loop-turn-test.true c.loop-turn.invariant.0 in
    failed _ _ _ _ c.from_residual.ensures.1 (rw (
      e,
      sym c.link_op_at-op.ensures,
      sym c.link_binds.ensures.value,
      not_below _ _ c.if-link_binds-least.false,
      below c.loop-turn.left.1 (suc p) (omega (arith, c.if-left-most.false)),
      sym c.skip.ensures,
    )
    (first _ _ _ c.in_err-left.ensures.reads))

pub loop-turn-preserved : goal.loop-turn-preserved
unfolding link_climb
loop-turn-preserved g c =
    let p = c.args.self.now.parts in
    let e = one_more (λ n. link_climb p (read_link p) c.args.least n c.loop-turn.left c.loop-turn.tokens) _ c.loop-turn._turn c.loop-turn-test.true c.loop-turn.invariant.0 in (
      rw (
        e,
        sym c.link_op_at-op.ensures,
        sym c.link_binds.ensures.value,
        not_below _ _ c.if-link_binds-least.false,
        below c.loop-turn.left.1 (suc p) (omega (arith, c.if-left-most.false)),
        sym c.skip.ensures,
        c.in_ok-left.ensures.reads,
      )
          refl,
      first_of (search rules, grind (arith, common_steps)),
    )

pub returns-then-link_binds-least-clause-reads : goal.returns-then-link_binds-least-clause-reads
unfolding link_climb
returns-then-link_binds-least-clause-reads g c =
    let p = c.args.self.now.parts in
    let e = one_more (λ n. link_climb p (read_link p) c.args.least n c.loop-turn.left c.loop-turn.tokens) _ c.loop-turn._turn c.loop-turn-test.true c.loop-turn.invariant.0 in
    rw (e, sym c.link_op_at-op.ensures, sym c.link_binds.ensures.value, below _ _ c.if-link_binds-least.true) refl

pub loop-turn-init : goal.loop-turn-init
loop-turn-init g c =
    let p = c.args.self.now.parts in
    let turns : suc p ≡ (p + 1) - 0 = omega arith in
    (ap (λ n. link_climb p (read_link p) c.args.least n c.args.left c.args.tokens.now) turns, c.requires.operand)

pub returns-then-link_binds-least-2-clause-reads : goal.returns-then-link_binds-least-2-clause-reads
unfolding link_climb
returns-then-link_binds-least-2-clause-reads g c =
    let p = c.args.self.now.parts in
    let e = no_more (λ n. link_climb p (read_link p) c.args.least n c.loop-turn.left c.loop-turn.tokens) _ c.loop-turn._turn c.loop-turn-test.false c.loop-turn.invariant.0 in
    rw (e, sym c.link_op_at.ensures, sym c.link_binds-2.ensures.value, below _ _ c.if-link_binds-least-2.true) refl

pub returns-else-link_binds-least-2-clause-reads : goal.returns-else-link_binds-least-2-clause-reads
unfolding link_climb
returns-else-link_binds-least-2-clause-reads g c =
    let p = c.args.self.now.parts in
    let e = no_more (λ n. link_climb p (read_link p) c.args.least n c.loop-turn.left c.loop-turn.tokens) _ c.loop-turn._turn c.loop-turn-test.false c.loop-turn.invariant.0 in
    rw (e, sym c.link_op_at.ensures, sym c.link_binds-2.ensures.value, not_below _ _ c.if-link_binds-least-2.false) refl
