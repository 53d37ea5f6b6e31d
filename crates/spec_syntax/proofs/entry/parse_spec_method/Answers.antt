use Rattle.std.proofs.Common.{◌≡◌, ◌-◌, length, arith}
use Rattle.spec_syntax.proofs.Top.{spec_spelled, spec_low, spec_only, spec_cause}
use Rattle.spec_syntax.proofs.entry.parse_spec_method.Goals as goal

pub returns-in-Ok-clause-spells : goal.returns-in-Ok-clause-spells
returns-in-Ok-clause-spells c =
    let is = rw (c.skip_all.ensures, c.new-rest.ensures) at c.in-Ok.ensures in
    let end : length c.args.tokens.now - length c.spec_method-read.new.tokens ≡ c.saturating_sub-at.result = omega (arith, c.left.ensures.all, c.saturating_sub-at.ensures) in
    rw end at (spec_spelled c.args.tokens.now c.args.from c.in-Ok.tree c.spec_method-read.new.tokens is)

pub returns-in-Ok-clause-low : goal.returns-in-Ok-clause-low
returns-in-Ok-clause-low c =
    let is = rw (c.skip_all.ensures, c.new-rest.ensures) at c.in-Ok.ensures in
    spec_low c.args.tokens.now c.args.from c.in-Ok.tree c.spec_method-read.new.tokens is

pub returns-in-Ok-clause-only : goal.returns-in-Ok-clause-only
returns-in-Ok-clause-only c =
    let is = rw (c.skip_all.ensures, c.new-rest.ensures) at c.in-Ok.ensures in
    let end : length c.args.tokens.now - length c.spec_method-read.new.tokens ≡ c.saturating_sub-at.result = omega (arith, c.left.ensures.all, c.saturating_sub-at.ensures) in
    rw end at (spec_only c.args.tokens.now c.args.from c.in-Ok.tree c.spec_method-read.new.tokens is)

pub returns-in-Err-clause-cause : goal.returns-in-Err-clause-cause
returns-in-Err-clause-cause c =
    rw c.refused.ensures (spec_cause c.args.tokens.now c.args.from c.saturating_sub-at.result c.in-Err.refusal
    (rw (c.skip_all.ensures, c.new-rest.ensures) at c.in-Err.ensures) (omega (arith, c.saturating_sub-at.ensures)))
